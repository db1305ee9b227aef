-- Plain variables: those of which the clauses say all.
use Rattle.std.specs.Prelude.{◌≡◌, ℕ, Bool, List, ◌++◌, length, Option, All, IfSome, IsTrue}
use Rattle.theory_form.specs.declared.literals.Lit.{Lit}
use Rattle.theory_form.specs.declared.rows.VarKind.{VarKind}
use Rattle.theory_form.specs.declared.rows.VarKind.TheVariants.{Other}
use Rattle.theory_form.specs.Theories.{TheoryView}
use Rattle.theory_model.specs.Truth.{clause_true}
use Rattle.theory_model.specs.Whole.{AreOver}

-- The new theory is the old one with plain variables more, and with these entries for clauses: a clause that is over the new
-- theory's variables, or nothing, where a number is skipped.
pub record IsMore (old new : TheoryView) (kinds : List VarKind) (slots : List (Option (List Lit))) : Type 0 where
  pub variables : new.variables ≡ old.variables ++ kinds
  pub clauses : new.clauses ≡ old.clauses ++ slots
  pub blocks : new.blocks ≡ old.blocks
  pub plain : All (λ (kind : VarKind). kind ≡ Other) kinds
  pub over : All (λ (slot : Option (List Lit)). IfSome slot (AreOver (length new.variables))) slots

-- each of these clauses is true
abbrev pub AllTrue : (ℕ → Bool) → List (Option (List Lit)) → Type 0
AllTrue f slots = All (λ (slot : Option (List Lit)). IfSome slot (λ c. IsTrue (clause_true f c))) slots
