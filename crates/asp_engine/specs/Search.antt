-- What the search keeps, and where it stops.
use Rattle.std.specs.Prelude.{◌≡◌, ℕ, ◌<◌, ◌≤◌, ◌⊎◌, Bool, List, [], ◌∷◌, length, Option, slice_index_or}
use Rattle.std.specs.List.{All, Contains}
use Rattle.theory_form.specs.declared.literals.Lit.{Lit}
use Rattle.theory_form.specs.Truth.{IsFalseIn, IsFreeIn, IsTrueIn}
use Rattle.theory_model.specs.Whole.{AreOver}
use Rattle.asp_trail.specs.declared.Entry.{Entry}
use Rattle.asp_trail.specs.declared.Why.TheVariants.{Decision}
use Rattle.asp_trail.specs.Trail.{values_of, level_of}
use Rattle.asp_store.specs.Store.{State, assigned, AllSettled, IsConflict}
use Rattle.asp_learn.specs.Conflicts.{level_in}
use Rattle.asp_learn.specs.declared.blames.Fault.{Fault}
use Rattle.asp_learn.specs.declared.blames.Fault.TheVariants as fault
use Rattle.search_law.specs.Closed.{IsTotal}
use Rattle.asp_engine.specs.declared.descent.Next.{Next}
use Rattle.asp_engine.specs.declared.descent.Next.TheVariants.{Decide, Broken, Ready}
use Rattle.asp_engine.specs.declared.descent.Stop.{Stop}
use Rattle.asp_engine.specs.declared.descent.Stop.TheVariants.{Stuck, Full}

-- Each decision was made where no clause was unit or false, and it was an assumption or all assumptions were true.
abbrev pub Stands : List (Option (List Lit)) → ℕ → List Lit → List Entry → Type 0
Stands cs n assume [] = Unit {0}
Stands cs n assume (e ∷ rest) =
    (e.why ≡ Decision → AllSettled cs (values_of n rest) × (Contains assume e.lit ⊎ All (IsTrueIn (values_of n rest)) assume)) × Stands cs n assume rest

-- the place of the clause has no value, or one of this level or above
abbrev pub IsAbove : ℕ → List Entry → List Lit → ℕ → ℕ → Type 0
IsAbove n es c k i = (d : Lit) → IsFreeIn (values_of n es) (slice_index_or c i d) ⊎ (k ≤ level_in es (slice_index_or c i d).var.0)

-- two places of the clause are so, or the level is 0
abbrev pub HasTwoAbove : ℕ → List Entry → List Lit → ℕ → Type 0
HasTwoAbove n es c k = (k ≡ 0) ⊎ ((i j : ℕ) × (i < j) × (j < length c) × IsAbove n es c k i × IsAbove n es c k j)

-- all assumptions up to some place are true, and what is to be done with that one
abbrev pub ShowsNext : List (Option Bool) → List Lit → Next → Type 0
ShowsNext a assume (Decide l) = Contains assume l × IsFreeIn a l
ShowsNext a assume (Broken l) = Contains assume l × IsFalseIn a l
ShowsNext a assume Ready = All (IsTrueIn a) assume

-- What is asked of assumptions: they are over so many variables, and no variable stands twice.
pub record AreAssumptions (vars : ℕ) (assume : List Lit) : Type 0 where
  pub over : AreOver vars assume
  pub apart : (l m : Lit) → Contains assume l → Contains assume m → m.var.0 ≡ l.var.0 → m ≡ l

-- the search cannot go on: a clause is false, or an assumption is
abbrev pub IsStuck : State → List Lit → Fault → Type 0
IsStuck s assume (fault.Conflict id) = IsConflict s.clauses (assigned s) id.0
IsStuck s assume (fault.Against l) = Contains assume l × IsFalseIn (assigned s) l

-- the same at level 0, or for an assumption
abbrev pub IsFinal : State → List Lit → Fault → Type 0
IsFinal s assume (fault.Conflict id) = IsConflict s.clauses (assigned s) id.0 × (level_of s.entries ≡ 0)
IsFinal s assume (fault.Against l) = Contains assume l × IsFalseIn (assigned s) l

-- where a descent stops
abbrev pub ShowsStop : State → List Lit → Stop → Type 0
ShowsStop s assume (Stuck x) = IsStuck s assume x
ShowsStop s assume Full = All (IsTrueIn (assigned s)) assume × AllSettled s.clauses (assigned s) × IsTotal (assigned s)
