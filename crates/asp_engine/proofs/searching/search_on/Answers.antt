use Rattle.std.proofs.Common.{◌≡◌, ◌<◌, ◌↔◌, ◌≢◌, ℕ, Bool, true, false, Option, Some, None, IsTrue, sym, ◌∙◌, subst, refl, arith}
use Rattle.std.specs.Option.{IfSome}
use Rattle.asp_trail.specs.Trail.{back}
use Rattle.asp_store.specs.Store.{NoneRefuting, State}
use Rattle.asp_learn.proofs.LevelLemmas.{back_parts}
use Rattle.asp_engine.specs.Answers.{left_of}
use Rattle.asp_engine.specs.Moves.{held_by}
use Rattle.asp_engine.specs.Search.{Stands}
use Rattle.asp_engine.proofs.KeyLemmas.{alike_entries}
use Rattle.asp_engine.proofs.MoveLemmas.{alike_engine, went_from, went_none}
use Rattle.asp_engine.proofs.NewLemmas.{stands_ground}
use Rattle.asp_engine.proofs.RoundLemmas.{spends_then}
use Rattle.asp_engine.proofs.searching.search_on.Goals as goal

left_at_first : (quota : Option ℕ) (n : ℕ) → n ≡ 0 → IfSome quota (λ q. 0 < q) → 0 < left_of quota n
left_at_first None n is h = omega arith
left_at_first (Some q) n is h = omega (arith, is, h)

above_nothing : (n : ℕ) → n ≢ 0 → 0 < n
above_nothing n h = omega (arith, h)

not_used : (b : Bool) (n : ℕ) → b ≡ false → (IsTrue b ↔ (n ≡ 0)) → 0 < n
not_used b n off h = above_nothing n (λ none. let z : true ≡ false = sym (h.1 none) ∙ off in absurd cc)

pub search-init : goal.search-init
search-init c =
    let e = c.args.e.now in
    let s = e.parts.store in
    let es = back 0 s.entries in
    let is = c.go_back.ensures in
    record {
      is_open = record {
        engine = alike_engine e _ (alike_entries e _ _ is refl refl refl refl refl) c.requires.engine;
        assumptions = c.requires.assumptions;
        stands = subst (λ (x : State). Stands x.clauses x.places c.args.assume.now x.entries) (sym is) (stands_ground s.clauses s.places c.args.assume.now es (back_parts 0 s.entries).2);
        none = subst (λ (x : State). NoneRefuting x.clauses c.args.assume.now) (sym is) c.requires.none;
      };
      spends = (0, went_none (held_by c.args.others.now) _ c.args.period.now, (omega arith));
      start = refl;
      within = (omega arith);
      below = left_at_first c.args.quota _ (omega arith) c.requires.quota;
    }

pub returns-in-Over-clause-spends : goal.returns-in-Over-clause-spends
returns-in-Over-clause-spends c =
    let h : ℕ → Bool = held_by c.args.others.now in
    let x = spends_then h _ c.search.e c.one_round.new.e c.args.period.now c.search.period c.one_round.new.period c.args.budget.now.left c.search.budget.left c.one_round.new.budget.left c.search.invariant.spends c.one_round.ensures.spends in
    (x.0, went_from h c.args.e.now _ c.one_round.new.e c.args.period.now c.one_round.new.period x.0 (alike_entries c.args.e.now _ _ c.go_back.ensures refl refl refl refl refl) x.1, x.2)

pub returns-then-is_used_up-clause-spends : goal.returns-then-is_used_up-clause-spends
returns-then-is_used_up-clause-spends c =
    let h : ℕ → Bool = held_by c.args.others.now in
    let x = spends_then h _ c.search.e c.one_round.new.e c.args.period.now c.search.period c.one_round.new.period c.args.budget.now.left c.search.budget.left c.one_round.new.budget.left c.search.invariant.spends c.one_round.ensures.spends in
    (x.0, went_from h c.args.e.now _ c.one_round.new.e c.args.period.now c.one_round.new.period x.0 (alike_entries c.args.e.now _ _ c.go_back.ensures refl refl refl refl refl) x.1, x.2)

pub search-preserved : goal.search-preserved
search-preserved c =
    let h : ℕ → Bool = held_by c.args.others.now in
    let all = spends_then h _ c.search.e c.one_round.new.e c.args.period.now c.search.period c.one_round.new.period c.args.budget.now.left c.search.budget.left c.one_round.new.budget.left c.search.invariant.spends c.in-On.ensures.spends in
    let count = all.2 in
    record {
      is_open = c.in-On.ensures.round.0;
      spends = all;
      start = c.search.invariant.start;
      within = (let i = c.search.invariant.start in omega (arith, count, i));
      below = not_used c.is_used_up.result _ c.if-is_used_up.false c.is_used_up.ensures;
    }
