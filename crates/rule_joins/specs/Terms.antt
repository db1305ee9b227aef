-- Terms as patterns.
use Rattle.std.specs.Prelude.{List, All}
use Rattle.std.specs.List.{AllZip, flat_map}
use Rattle.ap_term.specs.Value.{Value, integer, constant, string, compound, IsInteger}
use Rattle.join_form.specs.declared.pattern.Pattern.{Pattern}
use Rattle.join_form.specs.Patterns.{pattern_value, pattern_values, IsPatternOf}
use Rattle.rule_form.specs.Globals.{variables}
use Rattle.rule_form.specs.Trees.{Term, Variable, Anything, Fixed, Compound, Operation, Interval, Terms, nothing, more}
use Rattle.rule_form.specs.Values.{IsValue}
use Rattle.rule_joins.specs.Drafts.{Drafted}
use Rattle.rule_joins.specs.Stands.{StandsFor}

-- an integer is one of those that there are
abbrev pub IsWithin : Value → Type 0
IsWithin (integer n) = IsInteger n
IsWithin (constant name) = Unit {0}
IsWithin (string bytes) = Unit {0}
IsWithin (compound name vs) = Unit {0}

-- each integer that stands in the term is one of those that there are: as it is of a term that is written, since a number of a text is
-- at most 2147483647
abbrev mutual
  pub HasIntegers : Term → Type 0
  HasIntegers (Variable name) = Unit {0}
  HasIntegers Anything = Unit {0}
  HasIntegers (Fixed value) = IsWithin value
  HasIntegers (Compound name parts) = HaveIntegers parts
  HasIntegers (Operation op left right) = HasIntegers left × HasIntegers right
  HasIntegers (Interval low high) = HasIntegers low × HasIntegers high

  pub HaveIntegers : Terms → Type 0
  HaveIntegers nothing = Unit {0}
  HaveIntegers (more term terms) = HasIntegers term × HaveIntegers terms

-- the values of the term are those of the pattern
pub record IsTermPlan (term : Term) (pattern : Pattern) (old : List Value) (from : Drafted) (new : List Value) (to : Drafted) : Type 0 where
  pub over : IsPatternOf new to.places pattern
  pub stands : StandsFor (variables term) (λ s v. IsValue s term v) (λ table a. pattern_value table a pattern) old from new to

-- the same of terms, one by one
pub record AreTermPlans (terms : List Term) (patterns : List Pattern) (old : List Value) (from : Drafted) (new : List Value) (to : Drafted) : Type 0 where
  pub over : All (IsPatternOf new to.places) patterns
  pub stands : StandsFor (flat_map variables terms) (λ s vs. AllZip (IsValue s) terms vs)
      (λ table a. pattern_values table a patterns) old from new to
