use Rattle.std.proofs.Common.{◌≡◌, ◌<◌, ◌≤◌, map, length, subst, sym, ap, ◌∙◌, arith}
use Rattle.std.proofs.lemmas.List.{length-map}
use Rattle.std.proofs.lemmas.List.Elements.{All-map}
use denote.Ref.{Bor}
use Rattle.ground_agg.specs.Gathered.{IsGathered, IsPairOf}
use Rattle.ground_agg.specs.Rows.{rows_of}
use Rattle.ground_agg.specs.declared.pair.Pair.{Pair}
use Rattle.ground_agg.proofs.Grouped.{gathered}
use Rattle.ground_agg.proofs.InOrder.{pairs_within}
use Rattle.ground_agg.proofs.More.{counted_more, counted_few}
use Rattle.ground_agg.proofs.gathering.gather.Goals as goal

pub returns-then-len-gt-MAX_PAIRS-clause-too_many : goal.returns-then-len-gt-MAX_PAIRS-clause-too_many
returns-then-len-gt-MAX_PAIRS-clause-too_many c =
    let same : length (map (λ (p : Bor Pair). p.now) c.in-Ok.pairs.items) ≡ length c.in-Ok.pairs.items = length-map c.in-Ok.pairs.items (λ (p : Bor Pair). p.now) in
    let more : 1000000 < length c.in-Ok.pairs.items = omega (arith, c.in-Ok.pairs.ok) in
    λ _. counted_more c.args.terms.now c.args.found.now (map (λ (p : Bor Pair). p.now) c.in-Ok.pairs.items) (c.in-Ok.ensures {u = tt}) 1000000 (subst (λ n. 1000000 < n) (sym same) more)

pub returns-clause-gathered : goal.returns-clause-gathered
returns-clause-gathered c =
    let ps = map (λ (p : Bor Pair). p.now) c.in-Ok.pairs.items in
    let whole : IsGathered c.args.terms.now c.args.found.now (rows_of ps) =
    gathered c.args.terms.now c.len.ensures.distinct c.args.found.now ps
    (All-map (IsPairOf c.args.terms.now) (λ (p : Bor Pair). p.now) c.in-Ok.pairs.items (pairs_within c.args.terms.now (IsPairOf c.args.terms.now) c.args.found.now c.in-Ok.pairs.items c.requires (c.in-Ok.ensures {u = tt})))
    (c.in-Ok.ensures {u = tt}) in
    subst (IsGathered c.args.terms.now c.args.found.now) (sym (c.in-Ok-rows_of.ensures {u = tt} ∙ ap (λ xs. rows_of (map (λ (p : Bor Pair). p.now) xs)) c.deref.ensures.value)) whole

pub returns-clause-few : goal.returns-clause-few
returns-clause-few c =
    let same : length (map (λ (p : Bor Pair). p.now) c.in-Ok.pairs.items) ≡ length c.in-Ok.pairs.items = length-map c.in-Ok.pairs.items (λ (p : Bor Pair). p.now) in
    let few : length c.in-Ok.pairs.items ≤ 1000000 = omega (arith, c.in-Ok.pairs.ok) in
    counted_few c.args.terms.now c.args.found.now (map (λ (p : Bor Pair). p.now) c.in-Ok.pairs.items) (c.in-Ok.ensures {u = tt}) 1000000 (subst (λ n. n ≤ 1000000) (sym same) few)
