use Rattle.std.proofs.Common.{◌≡◌, ℕ, ◌+◌, ◌≤◌, List, Some, length, max, sym, ◌∙◌, ap, arith}
use Rattle.theory_form.specs.declared.literals.Lit.{Lit}
use Rattle.theory_form.specs.Theories.{clause_of}
use Rattle.theory_model.proofs.GrowthLemmas.{clause_over}
use Rattle.asp_store.specs.Store.{State, places_of}
use Rattle.asp_engine.proofs.KeyLemmas.{over_places, taken_more}
use Rattle.asp_engine.proofs.intake.take_next.Goals as goal

few_places : (old new : State) (n : ℕ) (c : List Lit) → new ≡ record old { clauses = new.clauses; places = max old.places (places_of c); next_key = new.next_key } → old.places ≤ n + 1 → places_of c ≤ n + 1 → new.places ≤ n + 1
few_places old new n c is places few = let p : new.places ≡ max old.places (places_of c) = ap (λ (s : State). s.places) is in omega (arith, p, places, few)

pub returns-in-Ok-clause-places : goal.returns-in-Ok-clause-places
returns-in-Ok-clause-places c =
    let over = clause_over c.args.t.now c.requires.whole c.args.number.0 c.in-Some.clause.now (sym c.in-Some.ensures) in
    few_places c.args.store.now c.insert.new.store (length c.args.t.now.variables) c.in-Some.clause.now c.in-Ok.ensures.ok c.requires.places (over_places (length c.args.t.now.variables) c.in-Some.clause.now over)

pub returns-in-Ok-clause-ok : goal.returns-in-Ok-clause-ok
returns-in-Ok-clause-ok c = λ steps v h.
    let at : clause_of c.args.t.now (c.args.taken + 1) ≡ Some c.in-Some.clause.now = ap (clause_of c.args.t.now) (sym c.requires.number) ∙ sym c.in-Some.ensures in
    taken_more c.args.taken c.args.t.now steps c.args.store.now c.insert.new.store c.args.numbers.now.items c.insert.new.numbers.items c.in-Ok.field-0.0 c.in-Some.clause.now v at c.in-Ok.ensures.added c.in-Ok.ensures.others (c.in-Ok.ensures.own ∙ c.requires.number) h
