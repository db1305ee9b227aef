-- Truth in a set of atoms, and the reduct of a program by such a set (Gelfond and Lifschitz 1988), with choices.
use Rattle.std.specs.Prelude.{ℕ, Bool, true, not, List, [], ◌∷◌, map, filter, Option, None, Some, if◌then◌else◌}
use Rattle.std.specs.List.{list_all, filter_map, flat_map}
use Rattle.ap_syntax.specs.declared.small.BodyItem.{BodyItem}
use Rattle.ap_syntax.specs.declared.small.BodyItem.TheVariants.{Plain}
use Rattle.ap_syntax.specs.declared.small.ChoiceElement.{ChoiceElement}
use Rattle.ap_syntax.specs.declared.small.HeadForm.{HeadForm}
use Rattle.ap_syntax.specs.declared.small.HeadForm.TheVariants.{One, Choice, Nothing}
use Rattle.ap_syntax.specs.declared.small.Literal.{Literal}
use Rattle.ap_syntax.specs.declared.small.Literal.TheVariants.{Pos, Not}
use Rattle.ap_syntax.specs.declared.small.Program.{Program}
use Rattle.ap_syntax.specs.declared.small.Rule as tree
use Rattle.ap_syntax.specs.declared.small.Statement.{Statement}
use Rattle.ap_syntax.specs.declared.small.Statement.TheVariants.{Rule, Preference, Optimize}
use Rattle.ap_eval.specs.AtomSets.{AtomSet}

-- the rules of a program, in order
abbrev pub rule_of : Statement → Option tree.Rule
rule_of (Rule rule) = Some rule
rule_of (Preference preference) = None
rule_of (Optimize name) = None

abbrev pub rules_of : Program → List tree.Rule
rules_of p = filter_map rule_of p.statements

abbrev pub literal_of : BodyItem → Literal
literal_of (Plain literal) = literal

-- the literals of a rule's body
abbrev pub literals_of : tree.Rule → List Literal
literals_of rule = map literal_of rule.body

-- a positive literal is true where its atom is in x, a negative one where it is not
abbrev pub literal_true : AtomSet → Literal → Bool
literal_true x (Pos atom) = x atom.name
literal_true x (Not atom) = not (x atom.name)

abbrev pub body_true : AtomSet → tree.Rule → Bool
body_true x rule = list_all (literal_true x) (literals_of rule)

-- ---- the reduct

-- a rule without negation: its head follows from the atoms of its body
pub record Definite : Type 0 where
  pub head : List ℕ
  pub body : List (List ℕ)

-- a negative literal must be true in x; a positive one is not looked at
abbrev pub not_refuted : AtomSet → Literal → Bool
not_refuted x (Pos atom) = true
not_refuted x (Not atom) = not (x atom.name)

-- the atom of a positive literal
abbrev pub positive_of : Literal → Option (List ℕ)
positive_of (Pos atom) = Some atom.name
positive_of (Not atom) = None

abbrev pub element_name : ChoiceElement → List ℕ
element_name element = element.atom.name

-- the atoms that the reduct by x derives by a head: a choice's are those that are in x
abbrev pub heads_in : AtomSet → HeadForm → List (List ℕ)
heads_in x (One atom) = atom.name ∷ []
heads_in x (Choice elements) = filter x (map element_name elements)
heads_in x Nothing = []

-- what the reduct by x makes of a rule: nothing where a negative literal is false in x, and else
-- a definite rule for each of its heads, without the negative literals
abbrev pub reduced : AtomSet → tree.Rule → List Definite
reduced x rule =
    if list_all (not_refuted x) (literals_of rule)
    then map (λ head. record { head = head; body = filter_map positive_of (literals_of rule) }) (heads_in x rule.head)
    else []

abbrev pub reduct : Program → AtomSet → List Definite
reduct p x = flat_map (reduced x) (rules_of p)
