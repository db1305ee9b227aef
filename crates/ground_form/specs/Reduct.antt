-- The reduct of a ground program by a set of atoms (Gelfond and Lifschitz 1988), with choices and aggregates. An
-- aggregate is judged in that set alone.
use Rattle.std.specs.Prelude.{ℕ, suc, ℤ, pos, negsuc, Bool, true, not, ◌&&◌, List, All, Option, Some, None, IsTrue}
use Rattle.std.specs.List.{filter_map, list_all}
use Rattle.std.specs.Bool.{then_some}
use Rattle.ground_form.specs.declared.rules.GroundRule.{GroundRule}
use Rattle.ground_form.specs.declared.rules.Head.{Head}
use Rattle.ground_form.specs.declared.rules.Head.TheVariants.{One, Choice, Nothing}
use Rattle.ground_form.specs.Programs.{Parts}
use Rattle.ground_form.specs.Truth.{aggregates_true, literals_of}

-- a rule without negation: its head follows from the atoms of its body
pub record Definite : Type 0 where
  pub head : ℕ
  pub body : List ℕ

-- a negative literal must be true in x; a positive one is not looked at
abbrev pub not_refuted : (ℕ → Bool) → ℤ → Bool
not_refuted x (pos a) = true
not_refuted x (negsuc k) = not (x (suc k))

-- the reduct keeps a body whose negative literals and aggregates are true in x
abbrev pub stays : Parts → (ℕ → Bool) → ℕ → Bool
stays g x b = aggregates_true g x b && list_all (not_refuted x) (literals_of g b)

-- the atom of a positive literal
abbrev pub positive_of : ℤ → Option ℕ
positive_of (pos a) = Some a
positive_of (negsuc k) = None

-- the atoms that a body asks for, without its negative literals and aggregates
abbrev pub positives : Parts → ℕ → List ℕ
positives g b = filter_map positive_of (literals_of g b)

-- the rule that is left of a head and a body. A choice becomes a rule for its atom where that is in x, and a constraint
-- is none
abbrev pub reduced : Parts → (ℕ → Bool) → Head → ℕ → Option Definite
reduced g x (One a) b = then_some (stays g x b) (record { head = a.0; body = positives g b })
reduced g x (Choice a) b = then_some (x a.0 && stays g x b) (record { head = a.0; body = positives g b })
reduced g x Nothing b = None

abbrev pub reduct : Parts → (ℕ → Bool) → List Definite
reduct g x = filter_map (λ (rule : GroundRule). reduced g x rule.head rule.body.0) g.rules

-- y has the head of each rule whose body it has
abbrev pub IsClosed : List Definite → (ℕ → Bool) → Type 0
IsClosed rules y = All (λ (rule : Definite). IsTrue (list_all y rule.body) → IsTrue (y rule.head)) rules
