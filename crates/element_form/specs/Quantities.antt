-- What is counted of the elements of a program's statements: how many ground elements there are, and how deep values of their terms are.
use Rattle.std.specs.Prelude.{◌≡◌, ◌<◌, ℕ, false, List, [], ◌++◌, map, flat_map, slice_get, Contains, Option, Some, None, IsTrue}
use Rattle.ap_term.specs.Value.{Value, depth}
use Rattle.element_form.specs.Elements.{IsElementOf}
use Rattle.element_form.specs.Ground.{Ground}
use Rattle.element_form.specs.Preferences.{Formula, Holds, Neg, And, Or, Wanted, Satisfy, Follow, Rank, Element, Preference, element_variables}
use Rattle.rule_form.specs.Counts.{MoreThan}
use Rattle.rule_form.specs.Depths.{HasValues, is_named, term_list, tested_terms}
use Rattle.rule_form.specs.Possible.{Setting, IsCertain}
use Rattle.rule_form.specs.Trees.{Term, Plain}
use Rattle.rule_form.specs.Values.{Substitution, IsValue}

-- a ground element of the statement of this place, from 0
pub record Numbered : Type 0 where
  pub statement : ℕ
  pub element : Ground

-- it is one, where these are the statements
abbrev pub IsNumbered : Setting → List Preference → Numbered → Type 0
IsNumbered setting statements n =
    (p : Preference) × (slice_get statements n.statement ≡ Some p) × IsElementOf (IsCertain setting) p n.element

-- there are more than so many ground elements of all statements
abbrev pub HasMoreElements : Setting → List Preference → ℕ → Type 0
HasMoreElements setting statements limit = MoreThan limit (IsNumbered setting statements)

-- the terms of a formula's atoms
abbrev pub formula_terms : Formula → List Term
formula_terms (Holds atom) = term_list atom.terms
formula_terms (Neg f) = formula_terms f
formula_terms (And f g) = formula_terms f ++ formula_terms g
formula_terms (Or f g) = formula_terms f ++ formula_terms g

-- those of what a rank stands for
abbrev pub wanted_terms : Wanted → List Term
wanted_terms (Satisfy formula) = formula_terms formula
wanted_terms (Follow statement) = []

-- those of a rank
abbrev pub rank_terms : Rank → List Term
rank_terms rank = term_list rank.weights ++ wanted_terms rank.wanted

-- those after `||`
abbrev pub given_terms : Option Rank → List Term
given_terms None = []
given_terms (Some rank) = rank_terms rank

-- the terms of an element, but for those of the positive atoms of its `:` part: these have values that are arguments of possible atoms
abbrev pub element_terms : Element → List Term
element_terms e = flat_map rank_terms e.ranks ++ (given_terms e.given ++ flat_map tested_terms e.domain)

-- v is a value of a term of one of the elements
abbrev pub OfElements : Setting → List Preference → Value → Type 0
OfElements setting statements v = (p : Preference) × (e : Element) × (s : Substitution) × (t : Term)
    × Contains statements p × Contains p.elements e
    × HasValues setting (λ names g. false) (element_variables e) [] s (map (λ l. Plain l) e.domain)
    × Contains (element_terms e) t × IsTrue (is_named t) × IsValue s t v

-- such a value is deeper than d
abbrev pub IsTooDeep : Setting → List Preference → ℕ → Type 0
IsTooDeep setting statements d = (v : Value) × OfElements setting statements v × (d < depth v)
