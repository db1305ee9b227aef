-- The ground elements of a statement: the instances of its elements over the certain atoms.
use Rattle.std.specs.Prelude.{◌≡◌, ◌↔◌, ℕ, ℤ, ◌+◌, ◌<◌, Bool, true, false, List, [], ◌∷◌, map, length, slice_index_or, All, AllPairs, Contains, Option, Some, None, IsTrue}
use Rattle.std.specs.List.{list_any}
use Rattle.std.specs.Ordering.{ordering_then, nat_cmp}
use Rattle.std.specs.Str.{bytes_eq}
use Rattle.std.specs.declared.cmp.Ordering.{Ordering}
use Rattle.std.specs.declared.cmp.Ordering.TheVariants.{Less}
use Rattle.ap_term.specs.Arithmetic.{is_integer}
use Rattle.ap_term.specs.Order.{values_cmp}
use Rattle.ap_term.specs.Value.{Value, integer, constant, Values, also, arguments_from}
use Rattle.element_form.specs.Formulas.{IsFormulaTerm}
use Rattle.element_form.specs.Ground.{Target, For, Name, Ranked, Ground, Statement}
use Rattle.element_form.specs.Preferences.{Wanted, Satisfy, Follow, Rank, Element, Preference, element_variables}
use Rattle.pref_kinds.specs.declared.built_in.BuiltIn.TheVariants.{LessWeight, MoreWeight, Lexico}
use Rattle.pref_kinds.specs.Kinds.{text_of}
use Rattle.rule_form.specs.Truth.{Holds}
use Rattle.rule_form.specs.Values.{Substitution, AreValues}

-- ---- ranks

-- the formula has this term; the name is the statement's constant
abbrev pub IsTarget : Substitution → Wanted → Target → Type 0
IsTarget s (Satisfy formula) t = (v : Value) × IsFormulaTerm s formula v × (t ≡ For v)
IsTarget s (Follow statement) t = t ≡ Name (constant statement)

-- all terms of the rank have values
pub record IsRanked (s : Substitution) (rank : Rank) (r : Ranked) : Type 0 where
  pub weights : AreValues s rank.weights r.weights
  pub target : IsTarget s rank.wanted r.target

-- the ranks of an element, one by one
abbrev pub AreRanked : Substitution → List Rank → List Ranked → Type 0
AreRanked s [] rs = rs ≡ []
AreRanked s (rank ∷ ranks) rs =
    (r : Ranked) × (qs : List Ranked) × IsRanked s rank r × AreRanked s ranks qs × (rs ≡ r ∷ qs)

-- what stands after `||`
abbrev pub IsRankedIfThere : Substitution → Option Rank → Option Ranked → Type 0
IsRankedIfThere s None o = o ≡ None
IsRankedIfThere s (Some rank) o = (r : Ranked) × IsRanked s rank r × (o ≡ Some r)

-- ---- ground elements

-- the first weight is an integer value
abbrev pub IsWeighed : Ranked → Type 0
IsWeighed r = (n : ℤ) × (rest : Values) × (r.weights ≡ also (integer n) rest) × IsTrue (is_integer n)

-- the types in which an instance whose first weight is no integer does not exist
abbrev pub is_weighed : List ℕ → Bool
is_weighed kind = list_any (λ k. bytes_eq kind (text_of k)) (LessWeight ∷ MoreWeight ∷ Lexico ∷ [])

-- each rank is weighed, where the type asks for it
abbrev pub AreWeighedIf : Bool → List Ranked → Type 0
AreWeighedIf true rs = All IsWeighed rs
AreWeighedIf false rs = Unit {0}

-- the `:` part holds of the certain atoms, and all terms have values
pub record IsGroundOf (certain lacking : Value → Type 0) (kind : List ℕ) (k : ℕ) (e : Element) (g : Ground) : Type 0 where
  pub values : Substitution
  pub holds : All (Holds certain lacking values) e.domain
  pub place : g.place ≡ k
  pub named : g.values ≡ arguments_from (map values (element_variables e))
  pub ranks : AreRanked values e.ranks g.ranks
  pub given : IsRankedIfThere values e.given g.given
  pub numbers : AreWeighedIf (is_weighed kind) g.ranks

-- the member is at this place of the list, counted from 1
abbrev pub IsAtPlace : {X : Type 0} → List X → ℕ → X → Type 0
IsAtPlace xs k x = (i : ℕ) × (k ≡ i + 1) × (i < length xs) × (slice_index_or xs i x ≡ x)

-- g is a ground element of the statement
abbrev pub IsElementOf : (Value → Type 0) → Preference → Ground → Type 0
IsElementOf certain p g = (k : ℕ) × (e : Element) × IsAtPlace p.elements k e
    × IsGroundOf certain (λ a. certain a → ⊥) p.kind k e g

-- the order of ground elements: by place, then by values
abbrev pub ground_cmp : Ground → Ground → Ordering
ground_cmp g h = ordering_then (nat_cmp g.place h.place) (values_cmp g.values h.values)

-- the statement has the ground elements of the preference, where these atoms are certain
pub record IsGrounded (certain : Value → Type 0) (p : Preference) (st : Statement) : Type 0 where
  pub name : st.name ≡ constant p.name
  pub kind : st.kind ≡ p.kind
  pub elements : (g : Ground) → Contains st.elements g ↔ IsElementOf certain p g

-- and they stand in ascending order, each once
abbrev pub AreInOrder : List Ground → Type 0
AreInOrder elements = AllPairs (λ g h. ground_cmp g h ≡ Less) elements
