use Rattle.std.proofs.Common.{◌≡◌, ◌++◌, map, All, subst, sym, ap₂, ◌∙◌}
use Rattle.std.proofs.lemmas.List.{take-append-drop}
use Rattle.std.proofs.lemmas.List.Elements.{All-take, All-drop, All-map}
use Rattle.std.proofs.lemmas.Result.{IfOk-weaker}
use denote.Ref.{Bor}
use Rattle.ground_agg.specs.Gathered.{IsPairOf}
use Rattle.ground_agg.specs.Merged.{AreInOrder, merge, pair_cmp}
use Rattle.ground_agg.specs.declared.pair.Pair.{Pair}
use Rattle.ground_agg.proofs.InOrder.{each_from, pairs_within, merged_halves}
use Rattle.ground_agg.proofs.SamePairs.{same_pairs}
use Rattle.ground_agg.proofs.merging.+in_order.Goals as goal

pub merged-requires-clause-left : goal.merged-requires-clause-left
merged-requires-clause-left t c =
    subst (All (λ (p : Bor Pair). IsPairOf c.args.terms.now p.now)) (sym c.deref.ensures.value)
    (pairs_within c.args.terms.now (IsPairOf c.args.terms.now) c.split_at.result.0.now c.in_ok-front.front.items
    (subst (All (IsPairOf c.args.terms.now)) (sym c.split_at.ensures.front) (All-take (IsPairOf c.args.terms.now) _ c.args.found.now c.requires.found)) (c.in_ok-front.ensures {u = tt}))

pub merged-requires-clause-right : goal.merged-requires-clause-right
merged-requires-clause-right t c =
    subst (All (λ (p : Bor Pair). IsPairOf c.args.terms.now p.now)) (sym c.deref-2.ensures.value)
    (pairs_within c.args.terms.now (IsPairOf c.args.terms.now) c.split_at.result.1.now c.in_ok-back.back.items
    (subst (All (IsPairOf c.args.terms.now)) (sym c.split_at.ensures.back) (All-drop (IsPairOf c.args.terms.now) _ c.args.found.now c.requires.found)) (c.in_ok-back.ensures {u = tt}))

pub returns : goal.returns
returns t c =
    let table = c.args.terms.now in
    let left = map (λ (p : Bor Pair). p.now) c.in_ok-front.front.items in
    let right = map (λ (p : Bor Pair). p.now) c.in_ok-back.back.items in
    let front_of = pairs_within table (IsPairOf table) c.split_at.result.0.now c.in_ok-front.front.items
    (subst (All (IsPairOf table)) (sym c.split_at.ensures.front) (All-take (IsPairOf table) _ c.args.found.now c.requires.found)) (c.in_ok-front.ensures {u = tt}) in
    let back_of = pairs_within table (IsPairOf table) c.split_at.result.1.now c.in_ok-back.back.items
    (subst (All (IsPairOf table)) (sym c.split_at.ensures.back) (All-drop (IsPairOf table) _ c.args.found.now c.requires.found)) (c.in_ok-back.ensures {u = tt}) in
    let whole = merged_halves table (IsPairOf table) (same_pairs table c.requires.distinct) c.args.found.now c.split_at.result.0.now c.split_at.result.1.now left right
    (sym (ap₂ ◌++◌ c.split_at.ensures.front c.split_at.ensures.back ∙ take-append-drop _ c.args.found.now)) (c.in_ok-front.ensures {u = tt}) (c.in_ok-back.ensures {u = tt})
    (each_from (IsPairOf table) left (All-map (IsPairOf table) (λ (p : Bor Pair). p.now) c.in_ok-front.front.items front_of))
    (each_from (IsPairOf table) right (All-map (IsPairOf table) (λ (p : Bor Pair). p.now) c.in_ok-back.back.items back_of)) in
    IfOk-weaker c.merged.result (λ pairs. map (λ (p : Bor Pair). p.now) pairs.items ≡ merge (pair_cmp table) (map (λ (p : Bor Pair). p.now) c.deref.result.now) (map (λ (p : Bor Pair). p.now) c.deref-2.result.now))
    (λ pairs. AreInOrder table c.args.found.now (map (λ (p : Bor Pair). p.now) pairs.items))
    (λ pairs is. subst (AreInOrder table c.args.found.now)
    (sym (is ∙ ap₂ (λ xs ys. merge (pair_cmp table) (map (λ (p : Bor Pair). p.now) xs) (map (λ (p : Bor Pair). p.now) ys)) c.deref.ensures.value c.deref-2.ensures.value)) whole)
    c.merged.ensures
