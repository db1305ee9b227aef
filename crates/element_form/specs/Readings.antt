-- The trees of the parser, read as trees of this crate.
use Rattle.std.specs.Prelude.{List, [], ◌∷◌, fold, map, Option, Some, None}
use Rattle.ap_syntax.specs.declared.preferences.Element.{Element as WrittenElement}
use Rattle.ap_syntax.specs.declared.preferences.Formula.{fold-Formula}
use Rattle.ap_syntax.specs.declared.preferences.Formula as written
use Rattle.ap_syntax.specs.declared.preferences.Formula.TheOpen.{Formula-F}
use Rattle.ap_syntax.specs.declared.preferences.Preference.{Preference as WrittenPreference}
use Rattle.ap_syntax.specs.declared.preferences.Ranked.{Ranked as WrittenRanked}
use Rattle.ap_syntax.specs.declared.preferences.Target.{Target as WrittenTarget}
use Rattle.ap_syntax.specs.declared.preferences.Target.TheVariants as targets
use Rattle.element_form.specs.Preferences.{Formula, Holds, Neg, And, Or, Wanted, Satisfy, Follow, Rank, Element, Preference}
use Rattle.rule_form.specs.Readings.{read_atom, read_literal, read_terms}
use Rattle.rule_form.specs.Trees.{nothing}

-- the members joined from the left. A chain has two members at least; of none nothing is meant
abbrev pub chained : (Formula → Formula → Formula) → List Formula → Formula
chained join [] = Holds (record { name = []; terms = nothing })
chained join (f ∷ fs) = fold join f fs

-- one level of a formula, its parts being read
abbrev pub formula_step : Formula-F Formula → Formula
formula_step (Formula-F.Atom atom) = Holds (read_atom atom)
formula_step (Formula-F.Not part) = Neg part
formula_step (Formula-F.And parts) = chained (λ f g. And f g) parts
formula_step (Formula-F.Or parts) = chained (λ f g. Or f g) parts

-- a formula
abbrev pub read_formula : written.Formula → Formula
read_formula = fold-Formula Formula formula_step

-- what a rank stands for
abbrev pub read_target : WrittenTarget → Wanted
read_target (targets.For formula) = Satisfy (read_formula formula)
read_target (targets.Name name) = Follow name

-- a rank
abbrev pub read_rank : WrittenRanked → Rank
read_rank ranked = record { weights = read_terms ranked.weights; wanted = read_target ranked.target }

-- what stands after `||`
abbrev pub read_given : Option WrittenRanked → Option Rank
read_given None = None
read_given (Some ranked) = Some (read_rank ranked)

-- an element
abbrev pub read_element : WrittenElement → Element
read_element element = record { ranks = map read_rank element.ranks; given = read_given element.given; domain = map read_literal element.domain }

-- a statement
abbrev pub read_preference : WrittenPreference → Preference
read_preference p = record { name = p.name; kind = p.kind; elements = map read_element p.elements }
