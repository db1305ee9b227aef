-- The periods of a query. They are counted from 1, and the j-th ends when `span * j` clauses were learned in it by that query.
use Rattle.std.specs.Prelude.{◌≡◌, ℕ, zero, suc, ◌+◌, ◌-◌, ◌*◌, ◌/◌, ◌^◌, ◌<◌, ◌≤◌, ◌++◌, List, [], ◌∷◌, length, Bool, if◌then◌else◌, nat_le, Some}
use Rattle.std.specs.List.{All, AllPairs}
use Rattle.theory_form.specs.declared.literals.Lit.{Lit}
use Rattle.theory_form.specs.declared.literals.ClauseId.{ClauseId}
use Rattle.proof_log.specs.States.{StateView, clause_in}
use Rattle.search_law.specs.Few.{IsPlainClause}
use Rattle.asp_engine.specs.declared.periods.Period.{Period}

-- a period before anything was learned in it
abbrev pub begun : ℕ → Period
begun number = record { number = number; learned = [] }

-- numbers of clauses in ascending order, each once
abbrev pub AreAscendingIds : List ClauseId → Type 0
AreAscendingIds ids = AllPairs (λ (k m : ClauseId). k.0 < m.0) ids

-- whether one clause more ends the period
abbrev pub ends : ℕ → Period → Bool
ends span p = nat_le (span * p.number) (length p.learned + 1)

-- the period after the clause of this number was learned: the next one, where this one ended
abbrev pub after_learning : ℕ → Period → ClauseId → Period
after_learning span p id = if ends span p then begun (p.number + 1) else (record { number = p.number; learned = p.learned ++ id ∷ [] })

-- 1 + 2 + .. + n
abbrev pub up_to : ℕ → ℕ
up_to zero = 0
up_to (suc n) = suc n + up_to n

-- how many clauses a query that is in this period has learned
abbrev pub learned_by : ℕ → Period → ℕ
learned_by span p = span * up_to (p.number - 1) + length p.learned

-- more than a query over so many variables can learn
abbrev pub enough : ℕ → ℕ → ℕ
enough span vars = span * up_to (3 ^ vars / span + 2)

-- What is true of the present period of an open query: what it learned is kept, and no two of these clauses are equal.
pub record IsPeriod (span vars : ℕ) (v : StateView) (p : Period) : Type 0 where
  pub number : 0 < p.number
  pub before : span * p.number ≤ 3 ^ vars + span
  pub few : length p.learned < span * p.number
  pub ascending : AreAscendingIds p.learned
  pub kept : All (λ (k : ClauseId). (c : List Lit) × (clause_in v k.0 ≡ Some c) × IsPlainClause vars c) p.learned
  pub different : AllPairs (λ (k m : ClauseId). (c : List Lit) → clause_in v k.0 ≡ Some c → clause_in v m.0 ≡ Some c → ⊥) p.learned
