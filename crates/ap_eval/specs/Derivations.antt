-- Reading a program's own rules in place of its reduct: which sets satisfy them, and which atoms follow from which.
use Rattle.std.specs.Prelude.{ℕ, Bool, true, false, not, ◌&&◌, ◌||◌, List, IsTrue}
use Rattle.std.specs.List.{list_all, list_any, zip}
use Rattle.std.specs.Str.{bytes_eq}
use Rattle.ap_syntax.specs.declared.small.BodyItem.{BodyItem}
use Rattle.ap_syntax.specs.declared.small.ChoiceElement.{ChoiceElement}
use Rattle.ap_syntax.specs.declared.small.HeadForm.{HeadForm}
use Rattle.ap_syntax.specs.declared.small.HeadForm.TheVariants.{One, Choice, Nothing}
use Rattle.ap_syntax.specs.declared.small.Literal.{Literal}
use Rattle.ap_syntax.specs.declared.small.Literal.TheVariants.{Pos, Not}
use Rattle.ap_syntax.specs.declared.small.Statement.{Statement}
use Rattle.ap_syntax.specs.declared.small.Statement.TheVariants.{Rule, Preference, Optimize}
use Rattle.ap_eval.specs.AtomSets.{AtomSet, IsSubset}
use Rattle.ap_eval.specs.Reduct.{literal_of, literal_true}

-- ---- rules that a set satisfies

-- an atom must be in x; a choice leaves it open, and a constraint has no head that could be in x
abbrev pub has_head : AtomSet → HeadForm → Bool
has_head x (One atom) = x atom.name
has_head x (Choice elements) = true
has_head x Nothing = false

-- x has the head of the rule, or not its body
abbrev pub is_satisfied : AtomSet → Statement → Bool
is_satisfied x (Rule rule) = has_head x rule.head || not (list_all (λ (item : BodyItem). literal_true x (literal_of item)) rule.body)
is_satisfied x (Preference preference) = true
is_satisfied x (Optimize name) = true

-- ---- atoms that follow

-- a positive literal is read in y, a negative one in x
abbrev pub literal_by : AtomSet → AtomSet → Literal → Bool
literal_by x y (Pos atom) = y atom.name
literal_by x y (Not atom) = not (x atom.name)

abbrev pub body_by : AtomSet → AtomSet → List BodyItem → Bool
body_by x y body = list_all (λ (item : BodyItem). literal_by x y (literal_of item)) body

-- the head is this atom, or a choice that allows it
abbrev pub names : List ℕ → HeadForm → Bool
names a (One atom) = bytes_eq atom.name a
names a (Choice elements) = list_any (λ (element : ChoiceElement). bytes_eq element.atom.name a) elements
names a Nothing = false

-- the rule derives the atom from those of y
abbrev pub derives : AtomSet → AtomSet → List ℕ → Statement → Bool
derives x y a (Rule rule) = names a rule.head && body_by x y rule.body
derives x y a (Preference preference) = false
derives x y a (Optimize name) = false

abbrev pub is_derivable : List Statement → AtomSet → AtomSet → List ℕ → Bool
is_derivable statements x y a = list_any (derives x y a) statements

-- y has each atom of x that can be derived from those of y
abbrev pub IsClosedWithin : List Statement → AtomSet → AtomSet → Type 0
IsClosedWithin statements x y = (a : List ℕ) → IsTrue (x a) → IsTrue (is_derivable statements x y a) → IsTrue (y a)

-- the atoms of x can be derived one after the other: each set that is closed in this way has them all
abbrev pub IsFounded : List Statement → AtomSet → Type 0
IsFounded statements x = (y : AtomSet) → IsClosedWithin statements x y → IsSubset x y

-- ---- marks

-- the names at the marked places
abbrev pub marked : List (List ℕ) → List Bool → AtomSet
marked names marks a = list_any (λ place. place.1 && bytes_eq place.0 a) (zip names marks)
