-- The first element in the texts that does not have the shape of its statement's type.
use Rattle.std.specs.Prelude.{◌≡◌, ℕ, ◌+◌, List, [], ◌∷◌, Option, Some, None, if◌then◌else◌}
use Rattle.ap_syntax.specs.declared.preferences.Element.{Element}
use Rattle.ap_syntax.specs.declared.preferences.Preference.{Preference}
use Rattle.ap_syntax.specs.declared.programs.Statement.{Statement}
use Rattle.ap_syntax.specs.declared.programs.Statement.TheVariants as statement
use Rattle.pref_kinds.specs.Kinds.{kind_of}
use Rattle.pref_kinds.specs.declared.built_in.BuiltIn.{BuiltIn}
use Rattle.pref_shapes.specs.Forms.{IsGood, needs_element}

-- the place of the first of these elements that is not good, if there is one; the first of them stands at this place
pub data IsFirstBad (kind : Option BuiltIn) : ℕ → List Element → Option ℕ → Type 0 where
  none : {k : ℕ} → IsFirstBad kind k [] None
  bad : {k : ℕ} {e : Element} {es : List Element} → (IsGood kind k e → ⊥) → IsFirstBad kind k (e ∷ es) (Some k)
  good : {k : ℕ} {e : Element} {es : List Element} {found : Option ℕ}
      → IsGood kind k e → IsFirstBad kind (k + 1) es found → IsFirstBad kind k (e ∷ es) found

-- The place of what is bad in elements of a type: 0 where there is none and the type asks for one.
abbrev pub IsBadAmong : Option BuiltIn → List Element → Option ℕ → Type 0
IsBadAmong kind [] found = found ≡ (if needs_element kind then Some 0 else None)
IsBadAmong kind (e ∷ es) found = IsFirstBad kind 1 (e ∷ es) found

abbrev pub IsBadIn : Preference → Option ℕ → Type 0
IsBadIn p found = IsBadAmong (kind_of p.kind) p.elements found

-- nothing is bad
abbrev pub HasShape : Statement → Type 0
HasShape (statement.Preference p) = IsBadIn p None
HasShape other = Unit {0}

-- the first of these statements in which something is bad has this name, and the first bad element stands at this place
pub data IsFirstIn : List Statement → List ℕ → ℕ → Type 0 where
  here : {p : Preference} {ss : List Statement} {k : ℕ}
      → IsBadIn p (Some k) → IsFirstIn (statement.Preference p ∷ ss) p.name k
  behind : {s : Statement} {ss : List Statement} {name : List ℕ} {k : ℕ}
      → HasShape s → IsFirstIn ss name k → IsFirstIn (s ∷ ss) name k
