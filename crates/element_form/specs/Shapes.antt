-- The shapes that are asked of the elements of a statement.
use Rattle.std.specs.Prelude.{◌≡◌, ◌⊎◌, ℕ, ◌<◌, ◌≤◌, List, [], ◌∷◌, Contains, Option, Some, None, IfSome}
use Rattle.ap_syntax.specs.declared.preferences.Element.{Element as WrittenElement}
use Rattle.ap_syntax.specs.declared.preferences.Formula.TheVariants as formulas
use Rattle.ap_syntax.specs.declared.preferences.Preference.{Preference as WrittenPreference}
use Rattle.ap_syntax.specs.declared.preferences.Ranked.{Ranked as WrittenRanked}
use Rattle.ap_syntax.specs.declared.preferences.Target.TheVariants as targets
use Rattle.ap_syntax.specs.declared.terms.Atom.{Atom as WrittenAtom}
use Rattle.element_form.specs.Elements.{IsAtPlace}
use Rattle.element_form.specs.Preferences.{Wanted, Satisfy, Follow, Formula, Holds, Neg, And, Or, Rank, Element}
use Rattle.element_form.specs.Readings.{read_element}
use Rattle.pref_kinds.specs.declared.built_in.BuiltIn.{BuiltIn}
use Rattle.pref_kinds.specs.declared.built_in.BuiltIn.TheVariants as kinds
use Rattle.pref_kinds.specs.declared.built_in.BuiltIn.TheVariants.{Subset, Superset, LessCardinality, MoreCardinality, LessWeight, MoreWeight, Aso, Poset, Cp, Pareto, Lexico}
use Rattle.pref_kinds.specs.Kinds.{kind_of}
use Rattle.rule_form.specs.Trees.{Term, Variable, Anything, Fixed, Compound, Operation, Interval, Terms, nothing, more}

-- ---- what a rank is

abbrev pub IsFormula : Wanted → Type 0
IsFormula (Satisfy f) = Unit {0}
IsFormula (Follow q) = ⊥

-- each rank of the list is a formula
abbrev pub AreFormulas : List Rank → Type 0
AreFormulas ranks = (rank : Rank) → Contains ranks rank → IsFormula rank.wanted

-- a formula, or nothing, stands after `||`
abbrev pub IsFormulaIfThere : Option Rank → Type 0
IsFormulaIfThere None = Unit {0}
IsFormulaIfThere (Some rank) = IsFormula rank.wanted

-- ---- the general shape

-- no interval is in the term
abbrev mutual
  pub HasNoInterval : Term → Type 0
  HasNoInterval (Variable name) = Unit {0}
  HasNoInterval Anything = Unit {0}
  HasNoInterval (Fixed value) = Unit {0}
  HasNoInterval (Compound name parts) = HaveNoInterval parts
  HasNoInterval (Operation op left right) = HasNoInterval left × HasNoInterval right
  HasNoInterval (Interval low high) = ⊥

  pub HaveNoInterval : Terms → Type 0
  HaveNoInterval nothing = Unit {0}
  HaveNoInterval (more t ts) = HasNoInterval t × HaveNoInterval ts

-- P holds of the terms of each atom of the formula
abbrev pub OfAtoms : (Terms → Type 0) → Formula → Type 0
OfAtoms P (Holds atom) = P atom.terms
OfAtoms P (Neg f) = OfAtoms P f
OfAtoms P (And f g) = OfAtoms P f × OfAtoms P g
OfAtoms P (Or f g) = OfAtoms P f × OfAtoms P g

-- P holds of all terms of what a rank stands for
abbrev pub OfWanted : (Terms → Type 0) → Wanted → Type 0
OfWanted P (Satisfy f) = OfAtoms P f
OfWanted P (Follow q) = Unit {0}

-- of all terms of a rank
abbrev pub OfRank : (Terms → Type 0) → Rank → Type 0
OfRank P rank = P rank.weights × OfWanted P rank.wanted

-- of all terms of ranks
abbrev pub OfRanks : (Terms → Type 0) → List Rank → Type 0
OfRanks P [] = Unit {0}
OfRanks P (rank ∷ ranks) = OfRank P rank × OfRanks P ranks

-- of all terms after `||`
abbrev pub OfGiven : (Terms → Type 0) → Option Rank → Type 0
OfGiven P None = Unit {0}
OfGiven P (Some rank) = OfRank P rank

-- of all terms outside the `:` part
abbrev pub OfElement : (Terms → Type 0) → Element → Type 0
OfElement P e = OfRanks P e.ranks × OfGiven P e.given

-- `**q` as the only rank, with no `||` and no `:` part
abbrev pub IsOneName : Element → Type 0
IsOneName e = (weights : Terms) × (q : List ℕ) × (e.ranks ≡ record { weights = weights; wanted = Follow q } ∷ [])
    × (e.given ≡ None) × (e.domain ≡ [])

-- a name stands alone, and no interval stands outside the `:` part
pub record HasGeneralShape (e : Element) : Type 0 where
  pub names : (AreFormulas e.ranks × IsFormulaIfThere e.given) ⊎ IsOneName e
  pub intervals : OfElement HaveNoInterval e

-- ---- the shapes of the built-in types

-- one formula, no `||`
abbrev pub IsOneFormula : Element → Type 0
IsOneFormula e = (rank : Rank) × (e.ranks ≡ rank ∷ []) × IsFormula rank.wanted × (e.given ≡ None)

-- one or more formulas
abbrev pub HasFormulas : List Rank → Type 0
HasFormulas ranks = (ranks ≡ [] → ⊥) × AreFormulas ranks

-- its one rank has a weight at least
abbrev pub HasWeights : Element → Type 0
HasWeights e = (rank : Rank) × (e.ranks ≡ rank ∷ []) × (rank.weights ≡ nothing → ⊥)

-- its one rank has no weights
abbrev pub HasNoWeights : Element → Type 0
HasNoWeights e = (rank : Rank) × (e.ranks ≡ rank ∷ []) × (rank.weights ≡ nothing)

-- `a >> not a` or `not a >> a`, both sides the same tree a as it is written
abbrev pub IsSwitched : WrittenElement → Type 0
IsSwitched e = (atom : WrittenAtom) × (q r : WrittenRanked) × (e.ranks ≡ q ∷ r ∷ [])
    × (((q.target ≡ targets.For (formulas.Atom atom)) × (r.target ≡ targets.For (formulas.Not (formulas.Atom atom))))
    ⊎ ((q.target ≡ targets.For (formulas.Not (formulas.Atom atom))) × (r.target ≡ targets.For (formulas.Atom atom))))

-- the shape of an element, by the type of its statement; `written` is the element e as it is written
abbrev pub HasShape : BuiltIn → WrittenElement → Element → Type 0
HasShape Subset written e = IsOneFormula e
HasShape Superset written e = IsOneFormula e
HasShape LessCardinality written e = IsOneFormula e
HasShape MoreCardinality written e = IsOneFormula e
HasShape LessWeight written e = IsOneFormula e × HasWeights e
HasShape MoreWeight written e = IsOneFormula e × HasWeights e
HasShape Aso written e = HasFormulas e.ranks × IsFormulaIfThere e.given
HasShape Poset written e = HasFormulas e.ranks × (e.given ≡ None)
HasShape Cp written e = IsSwitched written × IsFormulaIfThere e.given
HasShape Pareto written e = IsOneName e
HasShape Lexico written e = IsOneName e × HasWeights e
HasShape kinds.And written e = IsOneName e × HasNoWeights e
HasShape kinds.Neg written e = IsOneName e × HasNoWeights e

-- where an element may stand: `neg` has one alone
abbrev pub MayStandAt : BuiltIn → ℕ → Type 0
MayStandAt kinds.Neg k = k ≤ 1
MayStandAt Subset k = Unit {0}
MayStandAt Superset k = Unit {0}
MayStandAt LessCardinality k = Unit {0}
MayStandAt MoreCardinality k = Unit {0}
MayStandAt LessWeight k = Unit {0}
MayStandAt MoreWeight k = Unit {0}
MayStandAt Aso k = Unit {0}
MayStandAt Poset k = Unit {0}
MayStandAt Cp k = Unit {0}
MayStandAt Pareto k = Unit {0}
MayStandAt Lexico k = Unit {0}
MayStandAt kinds.And k = Unit {0}

-- `and` and `neg` have an element at least
abbrev pub MayBeEmpty : BuiltIn → Type 0
MayBeEmpty kinds.And = ⊥
MayBeEmpty kinds.Neg = ⊥
MayBeEmpty Subset = Unit {0}
MayBeEmpty Superset = Unit {0}
MayBeEmpty LessCardinality = Unit {0}
MayBeEmpty MoreCardinality = Unit {0}
MayBeEmpty LessWeight = Unit {0}
MayBeEmpty MoreWeight = Unit {0}
MayBeEmpty Aso = Unit {0}
MayBeEmpty Poset = Unit {0}
MayBeEmpty Cp = Unit {0}
MayBeEmpty Pareto = Unit {0}
MayBeEmpty Lexico = Unit {0}

-- ---- statements

-- the element, at its place, has the general shape and that of the statement's type, if this is built in
pub record IsWellShaped (p : WrittenPreference) (k : ℕ) (e : WrittenElement) : Type 0 where
  pub general : HasGeneralShape (read_element e)
  pub shape : IfSome (kind_of p.kind) (λ kind. HasShape kind e (read_element e))
  pub place : IfSome (kind_of p.kind) (λ kind. MayStandAt kind k)

-- each element is so, and there is one where the type asks for it
pub record AreWellShaped (p : WrittenPreference) : Type 0 where
  pub elements : (k : ℕ) (e : WrittenElement) → IsAtPlace p.elements k e → IsWellShaped p k e
  pub number : p.elements ≡ [] → IfSome (kind_of p.kind) MayBeEmpty

-- the place that is named where a statement is not so: 0 where it has no element, and else that of the first one that is not
pub data IsFirstBad (p : WrittenPreference) : ℕ → Type 0 where
  missing : p.elements ≡ [] → (IfSome (kind_of p.kind) MayBeEmpty → ⊥) → IsFirstBad p 0
  element : {k : ℕ} {e : WrittenElement} → IsAtPlace p.elements k e → (IsWellShaped p k e → ⊥)
      → ((j : ℕ) (d : WrittenElement) → IsAtPlace p.elements j d → j < k → IsWellShaped p j d) → IsFirstBad p k
