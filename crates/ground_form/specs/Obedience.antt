-- The reduct read on the program's own rules: positive literals in y, and negation and aggregates in x.
use Rattle.std.specs.Prelude.{ℕ, suc, ℤ, pos, negsuc, Bool, not, ◌&&◌, Option, Some, None, IsTrue, IfSome}
use Rattle.std.specs.List.{list_all}
use Rattle.std.specs.Bool.{then_some}
use Rattle.ground_form.specs.declared.rules.GroundRule.{GroundRule}
use Rattle.ground_form.specs.declared.rules.Head.{Head}
use Rattle.ground_form.specs.declared.rules.Head.TheVariants.{One, Choice, Nothing}
use Rattle.ground_form.specs.Programs.{Parts}
use Rattle.ground_form.specs.Truth.{literals_of, aggregates_true}

-- a positive literal is read in y, a negative one in x
abbrev pub literal_by : (ℕ → Bool) → (ℕ → Bool) → ℤ → Bool
literal_by x y (pos a) = y a
literal_by x y (negsuc k) = not (x (suc k))

abbrev pub body_by : Parts → (ℕ → Bool) → (ℕ → Bool) → ℕ → Bool
body_by g x y b = aggregates_true g x b && list_all (literal_by x y) (literals_of g b)

-- the atom that a head obliges a set to have, where x is the set that is asked about: a choice does where x has its atom
abbrev pub obliges : (ℕ → Bool) → Head → Option ℕ
obliges x (One a) = Some a.0
obliges x (Choice a) = then_some (x a.0) a.0
obliges x Nothing = None

-- y has what the head of the rule obliges to, where its body is true
abbrev pub Obeys : Parts → (ℕ → Bool) → (ℕ → Bool) → GroundRule → Type 0
Obeys g x y rule = IsTrue (body_by g x y rule.body.0) → IfSome (obliges x rule.head) (λ a. IsTrue (y a))
