-- Values of terms whose variables have values in a list.
use Rattle.std.specs.Prelude.{◌⊎◌, ℕ, zero, suc, ◌+◌, ℤ, pos, negsuc, ◌+ℤ◌, List, [], ◌∷◌, ◌++◌, map, flat_map, Contains, Option, Some, None, IsTrue}
use Rattle.ap_syntax.specs.declared.terms.Rel.TheVariants.{Eq}
use Rattle.ap_term.specs.Arithmetic.{compute}
use Rattle.ap_term.specs.Value.{Value, integer, constant, string, compound, Values, none, also}
use Rattle.rule_form.specs.Depths.{is_bound}
use Rattle.rule_form.specs.Trees.{Term, Variable, Anything, Fixed, Compound, Operation, Interval, Terms, nothing, more, Compare, Item, Plain}

-- the integers among the values
abbrev pub integers : List Value → List ℤ
integers [] = []
integers (integer n ∷ vs) = n ∷ integers vs
integers (constant name ∷ vs) = integers vs
integers (string bytes ∷ vs) = integers vs
integers (compound name ws ∷ vs) = integers vs

-- i and the n integers behind it
abbrev pub integers_from : ℤ → ℕ → List ℤ
integers_from i zero = i ∷ []
integers_from i (suc n) = i ∷ integers_from (i +ℤ pos 1) n

-- how far an integer is from zero, or one less
abbrev pub magnitude : ℤ → ℕ
magnitude (pos n) = n
magnitude (negsuc n) = n

-- the integer, if there is one
abbrev pub if_some : Option ℤ → List Value
if_some None = []
if_some (Some n) = integer n ∷ []

-- all values that the term has where its variables have values in the list, and maybe others
abbrev mutual
  pub values_in : List Value → Term → List Value
  values_in vs (Variable name) = vs
  values_in vs Anything = []
  values_in vs (Fixed v) = v ∷ []
  values_in vs (Compound name parts) = map (λ ws. compound name ws) (lists_in vs parts)
  values_in vs (Operation op left right) = flat_map (λ i. flat_map (λ j. if_some (compute op i j)) (integers (values_in vs right))) (integers (values_in vs left))
  values_in vs (Interval low high) = flat_map (λ i. flat_map (λ j. map (λ k. integer k) (integers_from i (magnitude i + magnitude j + 2))) (integers (values_in vs high))) (integers (values_in vs low))

  pub lists_in : List Value → Terms → List Values
  lists_in vs nothing = none ∷ []
  lists_in vs (more t ts) = flat_map (λ v. map (λ ws. also v ws) (lists_in vs ts)) (values_in vs t)

-- a variable that gets its value from a term by `=`
pub record Equation : Type 0 where
  pub name : List ℕ
  pub from : Term

-- the equation is one of the body, with its variable on either side
abbrev pub IsEquation : List Item → Equation → Type 0
IsEquation body step = Contains body (Plain (Compare (Variable step.name) Eq step.from))
    ⊎ Contains body (Plain (Compare step.from Eq (Variable step.name)))

-- each term is made of variables that were bound before
abbrev pub AreEquations : List Item → List (List ℕ) → List Equation → Type 0
AreEquations body names [] = Unit {0}
AreEquations body names (step ∷ steps) =
    IsEquation body step × IsTrue (is_bound names step.from) × AreEquations body (step.name ∷ names) steps

-- the variables that are bound then
abbrev pub names_after : List (List ℕ) → List Equation → List (List ℕ)
names_after names [] = names
names_after names (step ∷ steps) = names_after (step.name ∷ names) steps

-- the values of these variables, beside the others
abbrev pub grown : List Value → List Equation → List Value
grown vs [] = vs
grown vs (step ∷ steps) = grown (values_in vs step.from ++ vs) steps

-- ---- parts of values

abbrev mutual
  pub parts : Value → List Value
  parts (integer n) = integer n ∷ []
  parts (constant name) = constant name ∷ []
  parts (string bytes) = string bytes ∷ []
  parts (compound name vs) = compound name vs ∷ parts_of vs

  pub parts_of : Values → List Value
  parts_of none = []
  parts_of (also v vs) = parts v ++ parts_of vs
