-- The definitions on small statements.
use Rattle.std.proofs.Common.{◌≡◌, ℕ, pos, Bool, true, false, [], ◌∷◌, Some, None, refl}
use Rattle.std.specs.Prelude.{codes}
use Rattle.ap_term.specs.Value.{Value, integer, constant, compound, none, also}
use Rattle.element_form.specs.Degrees.{degree}
use Rattle.element_form.specs.Formulas.{atom_formula, neg_formula, and_formula, or_formula, satisfied_by, atoms_of}
use Rattle.element_form.specs.Ground.{For, Ranked, Ground, Statement, kind_term}
use Rattle.element_form.specs.Preferences.{Holds, Satisfy, Element, element_variables}
use Rattle.element_form.specs.Satisfied.{count, weight_sum, same_value}
use Rattle.element_form.specs.States.{net_atoms, state_of, has_bit}
use Rattle.rule_form.specs.Trees.{Variable, Anything, nothing, more, Pos}

-- `a(Y,X) >> b(X) : d(X,Z,_)` has the variables Y, X, Z
abbrev some_element : Element
some_element = record {
  ranks = record { weights = nothing; wanted = Satisfy (Holds (record { name = codes "a"; terms = more (Variable (codes "Y")) (more (Variable (codes "X")) nothing) })) }
      ∷ record { weights = nothing; wanted = Satisfy (Holds (record { name = codes "b"; terms = more (Variable (codes "X")) nothing })) } ∷ [];
  given = None;
  domain = Pos (record { name = codes "d"; terms = more (Variable (codes "X")) (more (Variable (codes "Z")) (more Anything nothing)) }) ∷ [];
}

variables_in_order : element_variables some_element ≡ codes "Y" ∷ codes "X" ∷ codes "Z" ∷ []
variables_in_order = refl

-- types as values
plain_kind : kind_term (codes "subset") ≡ constant (codes "subset")
plain_kind = refl

compound_kind : kind_term (codes "less(weight)") ≡ compound (codes "less") (also (constant (codes "weight")) none)
compound_kind = refl

-- ---- formulas

abbrev one : Value
one = atom_formula (constant (codes "a"))

abbrev two : Value
two = atom_formula (constant (codes "b"))

-- the set of the atom a
abbrev set : Value → Bool
set v = same_value v (constant (codes "a"))

conjunction : satisfied_by set (and_formula one (neg_formula two)) ≡ true
conjunction = refl

negation : satisfied_by set (neg_formula (or_formula two one)) ≡ false
negation = refl

atoms : atoms_of (and_formula one (neg_formula two)) ≡ one ∷ two ∷ []
atoms = refl

-- ---- sums

abbrev element : ℕ → Ranked → Ground
element k r = record { place = k; values = none; ranks = r ∷ []; given = None }

abbrev weighed : ℕ → Value → Ranked
weighed n f = record { weights = also (integer (pos n)) none; target = For f }

-- `3::a; 5::b; 3::a`: the pair of 3 and a counts once
abbrev weights : Statement
weights = record { name = constant (codes "p"); kind = codes "less(weight)"; elements = element 1 (weighed 3 one) ∷ element 2 (weighed 5 two) ∷ element 3 (weighed 3 one) ∷ [] }

pairs_once : weight_sum weights (λ f. true) ≡ pos 8
pairs_once = refl

formulas_once : count weights (λ f. true) ≡ 2
formulas_once = refl

-- ---- degrees

-- `a >> not a || b`
abbrev graded : Ground
graded = record { place = 1; values = none; ranks = record { weights = none; target = For one } ∷ record { weights = none; target = For (neg_formula one) } ∷ []; given = Some (record { weights = none; target = For two }) }

without_condition : degree (satisfied_by (λ v. false)) graded ≡ 1
without_condition = refl

second_rank : degree (satisfied_by (λ v. same_value v (constant (codes "b")))) graded ≡ 2
second_rank = refl

-- ---- states

-- `b >> not b; a >> not a`: a is the net atom of place 0
abbrev net : Statement
net = record {
  name = constant (codes "p");
  kind = codes "cp";
  elements = record { place = 1; values = none; ranks = record { weights = none; target = For two } ∷ record { weights = none; target = For (neg_formula two) } ∷ []; given = None }
      ∷ record { place = 2; values = none; ranks = record { weights = none; target = For one } ∷ record { weights = none; target = For (neg_formula one) } ∷ []; given = None } ∷ [];
}

in_term_order : net_atoms net ≡ one ∷ two ∷ []
in_term_order = refl

state_of_b : state_of net (satisfied_by (λ v. same_value v (constant (codes "b")))) ≡ integer (pos 2)
state_of_b = refl

bits : has_bit net (integer (pos 2)) two ≡ true
bits = refl
