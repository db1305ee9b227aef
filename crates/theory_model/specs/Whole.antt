-- Theories that name their own variables alone.
use Rattle.std.specs.Prelude.{ℕ, ℤ, ⊤, List, length, Option, All, IfSome}
use Rattle.sets.specs.Lists.{IsNumberOf}
use Rattle.theory_form.specs.declared.literals.Lit.{Lit}
use Rattle.theory_form.specs.declared.literals.Var.{Var}
use Rattle.theory_form.specs.declared.rows.VarKind.{VarKind}
use Rattle.theory_form.specs.declared.rows.VarKind.TheVariants.{Atom, Sum, Body, Search, Other}
use Rattle.theory_form.specs.Theories.{TheoryView}

-- these literals are over the first n variables
abbrev pub AreOver : ℕ → List Lit → Type 0
AreOver n lits = All (λ (l : Lit). IsNumberOf n l.var.0) lits

-- the supports, the terms or the literals of a variable are over the first n variables
abbrev pub IsKindOver : ℕ → VarKind → Type 0
IsKindOver n (Atom block supports) = AreOver n supports
IsKindOver n (Sum terms bound) = All (λ (term : ℤ × Var). IsNumberOf n term.1.0) terms
IsKindOver n (Body lits) = AreOver n lits
IsKindOver n Search = ⊤
IsKindOver n Other = ⊤

-- each variable that a clause, a support, a sum or a body names is one of the theory
pub record IsWhole (t : TheoryView) : Type 0 where
  pub kinds : All (IsKindOver (length t.variables)) t.variables
  pub clauses : All (λ (slot : Option (List Lit)). IfSome slot (AreOver (length t.variables))) t.clauses
