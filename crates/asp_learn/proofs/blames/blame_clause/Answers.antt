use Rattle.std.proofs.Common.{◌≡◌, ◌∷◌, ◌++◌, [], List, Some, sym, ◌∙◌, subst}
use Rattle.std.proofs.lemmas.Result.{IfOk-weaker}
use Rattle.theory_form.specs.declared.literals.Lit.{Lit}
use Rattle.theory_form.specs.Truth.{IsFalseClause}
use Rattle.asp_store.specs.Store.{assigned, IsConflict}
use Rattle.asp_learn.specs.declared.blames.Fault.TheVariants.{Conflict}
use Rattle.asp_learn.specs.Learning.{IsBlame, IsMadeOf}
use Rattle.asp_learn.proofs.BlameLemmas.{blame_of_clause}
use Rattle.asp_learn.proofs.blames.blame_clause.Goals as goal

pub returns-clause-blame : goal.returns-clause-blame
returns-clause-blame c =
    let s = c.args.s.now in
    let lits : List Lit = c.in-Some.lits.now in
    let can = c.requires.can in
    let at = sym c.in-Some.ensures.value in
    let z : Some can.clause ≡ Some lits = sym can.stored ∙ at in
    let same : can.clause ≡ lits = cc in
    let f : IsConflict s.clauses (assigned s) c.args.id.0 = record { clause = lits; stored = at; all_false = subst (IsFalseClause (assigned s)) same can.all_false } in
    let d = c.in_ok-down.down in
    let x = c.in_ok-down.ensures.explained in
    IfOk-weaker c.make_blamed.result (IsMadeOf d.lits.items (d.hints.items ++ c.args.id ∷ [])) (IsBlame s (Conflict c.args.id))
    (λ b m. blame_of_clause c.assignment-assignment.ensures.trail f x b m.ascending m.same m.hints_are) c.make_blamed.ensures
