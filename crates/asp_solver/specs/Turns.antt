-- What becomes of the end of a search, and of the query.
use Rattle.std.specs.Prelude.{◌≡◌, ◌++◌, [], ◌∷◌, ℕ, Bool, true, false, List}
use Rattle.ground_form.specs.declared.atoms.AtomId.{AtomId}
use Rattle.ground_form.specs.Programs.{Parts}
use Rattle.ground_form.specs.Sets.{has, IsAscending}
use Rattle.theory_law.specs.Cuts.{cut}
use Rattle.theory_law.specs.Standing.{StandsOn}
use Rattle.asp_store.specs.Store.{assigned}
use Rattle.search_law.specs.Closed.{truths}
use Rattle.asp_engine.specs.declared.engine.Engine.{Engine}
use Rattle.asp_engine.specs.declared.periods.Query.{Query}
use Rattle.asp_engine.specs.declared.rounds.Ending.{Ending}
use Rattle.asp_engine.specs.declared.rounds.Ending.TheVariants as end
use Rattle.asp_solver.specs.declared.answers.Turn.{Turn}
use Rattle.asp_solver.specs.declared.answers.Turn.TheVariants.{Found, Refuted, Spent, Again, Memory}

-- the set has the atoms of the base that are true under the assignment
pub record HasAtoms (e : Engine) (x : List AtomId) : Type 0 where
  pub ascending : IsAscending x
  pub atoms : (g : Parts) → StandsOn g e.theory → (a : ℕ) → has x a ≡ cut 0 g (truths (assigned e.parts.store)) a

-- what an end comes to
abbrev pub ShowsEnd : Engine → Ending → Turn → Type 0
ShowsEnd e ending (Found x) = (ending ≡ end.Full) × HasAtoms e x
ShowsEnd e ending (Refuted k) = ending ≡ end.Refuted k
ShowsEnd e ending Spent = ending ≡ end.Spent
ShowsEnd e ending Again = ending ≡ end.Again
ShowsEnd e ending Memory = Unit {0}

-- it is a set that was found
abbrev pub is_found : Turn → Bool
is_found (Found x) = true
is_found (Refuted k) = false
is_found Spent = false
is_found Again = false
is_found Memory = false

-- the open queries with this one, unless the answer closes it
abbrev pub left_open : List Query → Query → Turn → List Query
left_open queries q (Found x) = queries
left_open queries q (Refuted k) = queries
left_open queries q Spent = queries ++ q ∷ []
left_open queries q Again = queries ++ q ∷ []
left_open queries q Memory = queries ++ q ∷ []
