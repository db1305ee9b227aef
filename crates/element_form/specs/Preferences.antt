-- Preference statements as trees without places. A chain of `&` or `|` is nested to the left.
use Rattle.std.specs.Prelude.{ℕ, List, [], ◌∷◌, ◌++◌, flat_map, filter, not, Option, Some, None}
use Rattle.std.specs.Str.{bytes_eq}
use Rattle.rule_form.specs.Globals.{variables_of, literal_variables}
use Rattle.rule_form.specs.Trees.{Terms, Atom, Literal}

-- an atom, or formulas joined
pub data Formula : Type 0 where
  Holds : (atom : Atom) → Formula
  Neg : (f : Formula) → Formula
  And : (f g : Formula) → Formula
  Or : (f g : Formula) → Formula

-- what a rank stands for: a formula, or `**q`
pub data Wanted : Type 0 where
  Satisfy : (formula : Formula) → Wanted
  Follow : (statement : List ℕ) → Wanted

-- `weights :: wanted`
pub record Rank : Type 0 where
  pub weights : Terms
  pub wanted : Wanted

-- `ranks || given : domain`, the ranks parted by `>>`
pub record Element : Type 0 where
  pub ranks : List Rank
  pub given : Option Rank
  pub domain : List Literal

-- `#preference(name,kind){elements}.`, the type as it is written
pub record Preference : Type 0 where
  pub name : List ℕ
  pub kind : List ℕ
  pub elements : List Element

-- ---- the named variables of an element, as they occur

abbrev pub formula_variables : Formula → List (List ℕ)
formula_variables (Holds atom) = variables_of atom.terms
formula_variables (Neg f) = formula_variables f
formula_variables (And f g) = formula_variables f ++ formula_variables g
formula_variables (Or f g) = formula_variables f ++ formula_variables g

-- those of what a rank stands for
abbrev pub wanted_variables : Wanted → List (List ℕ)
wanted_variables (Satisfy formula) = formula_variables formula
wanted_variables (Follow statement) = []

-- those of a rank
abbrev pub rank_variables : Rank → List (List ℕ)
rank_variables rank = variables_of rank.weights ++ wanted_variables rank.wanted

-- those of what stands after `||`
abbrev pub given_variables : Option Rank → List (List ℕ)
given_variables None = []
given_variables (Some rank) = rank_variables rank

-- each name where it first occurs
abbrev pub firsts : List (List ℕ) → List (List ℕ)
firsts [] = []
firsts (name ∷ names) = name ∷ filter (λ other. not (bytes_eq name other)) (firsts names)

-- each variable of the element once, in the order of first occurrence
abbrev pub element_variables : Element → List (List ℕ)
element_variables e =
    firsts (flat_map rank_variables e.ranks ++ (given_variables e.given ++ flat_map literal_variables e.domain))

-- ---- the names of other statements

-- `**q`
abbrev pub wanted_names : Wanted → List (List ℕ)
wanted_names (Satisfy formula) = []
wanted_names (Follow statement) = statement ∷ []

-- the name after `||`, if one stands there
abbrev pub given_names : Option Rank → List (List ℕ)
given_names None = []
given_names (Some rank) = wanted_names rank.wanted

-- those of an element
abbrev pub element_names : Element → List (List ℕ)
element_names e = flat_map (λ (rank : Rank). wanted_names rank.wanted) e.ranks ++ given_names e.given

-- the statements that a statement names
abbrev pub names_in : Preference → List (List ℕ)
names_in p = flat_map element_names p.elements
