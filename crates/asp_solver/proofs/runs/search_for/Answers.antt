use Rattle.std.proofs.Common.{◌≡◌, ◌-◌, List, inl, inr, sym, subst}
use Rattle.theory_form.specs.declared.literals.Lit.{Lit}
use Rattle.asp_store.specs.Store.{NoneRefuting}
use Rattle.asp_engine.specs.Answers.{ShowsEnding, left_of}
use Rattle.asp_solver.proofs.TurnLemmas.{turn_at_once}
use Rattle.asp_solver.proofs.runs.search_for.Goals as goal

pub returns-clause-end : goal.returns-clause-end
returns-clause-end c =
    let s = c.search-ending in (
      s.result,
      subst (λ (xs : List Lit). ShowsEnding c.search-ending.new.e xs c.search-ending.new.budget.left (left_of c.args.quota (c.args.budget.now.left - c.search-ending.new.budget.left)) c.search-ending.result) c.as_slice.ensures s.ensures.ending,
      c.turn_of.ensures,
    )

pub returns-clause-at_once : goal.returns-clause-at_once
returns-clause-at_once c = elim c.search-ending.ensures.at_once [
  | inl none ↦ inl (subst (NoneRefuting c.args.e.now.parts.store.clauses) c.as_slice.ensures none)
  | inr x ↦ inr (x.0, turn_at_once c.search-ending.new.e c.search-ending.result c.turn_of.result c.turn_of.ensures x.1)
]
