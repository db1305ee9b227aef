-- What an element looks like, by the type of its statement.
use Rattle.std.specs.Prelude.{◌≡◌, ℕ, Bool, true, false, not, ◌&&◌, ◌||◌, ◌==◌, List, [], ◌∷◌, Option, Some, None, is_none, IsTrue, ◌⊎◌}
use Rattle.std.specs.List.{list_all}
use Rattle.ap_syntax.specs.declared.preferences.Element.{Element}
use Rattle.ap_syntax.specs.declared.preferences.Formula.TheVariants as formula
use Rattle.ap_syntax.specs.declared.preferences.Ranked.{Ranked}
use Rattle.ap_syntax.specs.declared.preferences.Target.{Target}
use Rattle.ap_syntax.specs.declared.preferences.Target.TheVariants.{For, Name}
use Rattle.ap_syntax.specs.declared.terms.Atom.{Atom}
use Rattle.pref_kinds.specs.declared.built_in.BuiltIn.{BuiltIn}
use Rattle.pref_kinds.specs.declared.built_in.BuiltIn.TheVariants.{Subset, Superset, LessCardinality, MoreCardinality, LessWeight, MoreWeight, Aso, Poset, Cp, Pareto, Lexico, And, Neg}
use Rattle.pref_shapes.specs.declared.forms.Wanted.{Wanted}
use Rattle.pref_shapes.specs.declared.forms.Wanted.TheVariants as wanted
use Rattle.pref_shapes.specs.Intervals.{element_has_interval}

abbrev pub is_nil : {A : Type 0} → List A → Bool
is_nil [] = true
is_nil (x ∷ xs) = false

-- ---- ranks

abbrev pub is_formula : Target → Bool
is_formula (For formula) = true
is_formula (Name name) = false

abbrev pub has_weight : Ranked → Bool
has_weight ranked = not (is_nil ranked.weights)

-- what a type wants of a rank: a formula or a name, with or without weights
abbrev pub wants : Wanted → Ranked → Bool
wants wanted.Formula ranked = is_formula ranked.target
wants wanted.WeightedFormula ranked = is_formula ranked.target && has_weight ranked
wants wanted.Name ranked = not (is_formula ranked.target)
wants wanted.WeightedName ranked = not (is_formula ranked.target) && has_weight ranked
wants wanted.PlainName ranked = not (is_formula ranked.target) && not (has_weight ranked)

-- one such rank, and no `||`
abbrev pub only : Wanted → List Ranked → Option Ranked → Bool
only what (ranked ∷ []) None = wants what ranked
only what ranks given = false

abbrev pub is_only : Wanted → Element → Bool
is_only what e = only what e.ranks e.given

abbrev pub are_all_formulas : List Ranked → Bool
are_all_formulas ranks = list_all (wants wanted.Formula) ranks

-- one or more formulas
abbrev pub are_formulas : List Ranked → Bool
are_formulas ranks = not (is_nil ranks) && are_all_formulas ranks

-- the one stands for an atom, and the other for its negation
abbrev pub AreOpposite : Ranked → Ranked → Type 0
AreOpposite q r = (a : Atom) × (q.target ≡ For (formula.Atom a)) × (r.target ≡ For (formula.Not (formula.Atom a)))

-- `a >> not a` or `not a >> a`
abbrev pub IsSwitch : List Ranked → Type 0
IsSwitch (q ∷ r ∷ []) = AreOpposite q r ⊎ AreOpposite r q
IsSwitch ranks = ⊥

-- ---- the shape of an element of each type

abbrev pub HasForm : BuiltIn → Element → Type 0
HasForm Subset e = IsTrue (is_only wanted.Formula e)
HasForm Superset e = IsTrue (is_only wanted.Formula e)
HasForm LessCardinality e = IsTrue (is_only wanted.Formula e)
HasForm MoreCardinality e = IsTrue (is_only wanted.Formula e)
HasForm LessWeight e = IsTrue (is_only wanted.WeightedFormula e)
HasForm MoreWeight e = IsTrue (is_only wanted.WeightedFormula e)
HasForm Aso e = IsTrue (are_formulas e.ranks)
HasForm Poset e = IsTrue (are_formulas e.ranks && is_none e.given)
HasForm Cp e = IsSwitch e.ranks
HasForm Pareto e = IsTrue (is_only wanted.Name e)
HasForm Lexico e = IsTrue (is_only wanted.WeightedName e)
HasForm And e = IsTrue (is_only wanted.PlainName e)
HasForm Neg e = IsTrue (is_only wanted.PlainName e)

-- a type that users write asks for nothing of its own
abbrev pub HasFormOf : Option BuiltIn → Element → Type 0
HasFormOf None e = Unit {0}
HasFormOf (Some kind) e = HasForm kind e

-- ---- what every type asks for

abbrev pub given_formula : Option Ranked → Bool
given_formula None = true
given_formula (Some ranked) = wants wanted.Formula ranked

-- formulas alone; or a name alone, with no `||` and no `:` part
abbrev pub is_general : Element → Bool
is_general e = (are_all_formulas e.ranks && given_formula e.given) || (is_only wanted.Name e && is_nil e.domain)

-- the general shape: names stand alone, and there is no interval outside the `:` part
abbrev pub is_plain : Element → Bool
is_plain e = is_general e && not (element_has_interval e)

-- ---- how many elements there are

-- `neg` has one element alone; elements are counted from 1
abbrev pub may_stand : Option BuiltIn → ℕ → Bool
may_stand (Some Neg) place = place == 1
may_stand kind place = true

-- `and` and `neg` have an element
abbrev pub needs_element : Option BuiltIn → Bool
needs_element (Some And) = true
needs_element (Some Neg) = true
needs_element kind = false

-- the element at this place has the shape of the type
pub record IsGood (kind : Option BuiltIn) (place : ℕ) (e : Element) : Type 0 where
  pub stands : IsTrue (may_stand kind place)
  pub plain : IsTrue (is_plain e)
  pub form : HasFormOf kind e
