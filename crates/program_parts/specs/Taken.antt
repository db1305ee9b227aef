-- What was taken of the first statements of a program.
use Rattle.std.specs.Prelude.{◌≡◌, ◌≢◌, ℕ, ◌<◌, Bool, true, false, ◌==◌, List, [], ◌∷◌, ◌++◌, map, fold, length, Option, Some, None, is_none, slice_get, if◌then◌else◌}
use Rattle.std.specs.HashMap.{get_by_text}
use Rattle.std.specs.List.{filter_map}
use Rattle.std.specs.Str.{bytes_eq}
use Rattle.ap_syntax.specs.declared.programs.PartKind.{PartKind}
use Rattle.ap_syntax.specs.declared.programs.PartKind.TheVariants as part
use Rattle.ap_syntax.specs.declared.programs.Statement.{Statement}
use Rattle.ap_syntax.specs.declared.programs.Statement.TheVariants as statement
use Rattle.ap_syntax.specs.declared.rules.Rule.{Rule}
use Rattle.program_form.specs.Programs.{base_rules, is_base, is_of, next, other_of, preferences, type_names, type_rules}
use Rattle.program_parts.specs.declared.gather.Taken.{Taken}
use Rattle.program_parts.specs.declared.parts.TypeProgram.{TypeProgram}

-- whether the part that is asked for is in force behind some statements
abbrev pub in_force : (asked : PartKind → Bool) → (here : Bool) → List Statement → Bool
in_force asked here ss = fold (next asked) here ss

abbrev pub kind_names : List TypeProgram → List (List ℕ)
kind_names kinds = map (λ (k : TypeProgram). k.name) kinds

abbrev pub place_by : Taken → List ℕ → Option ℕ
place_by t name = get_by_text t.places name

abbrev pub same_place : Option ℕ → Option ℕ → Bool
same_place (Some i) (Some j) = i == j
same_place i j = false

-- the types have their places, and the rules of each part are those of these statements
pub record AreGathered (ss : List Statement) (t : Taken) : Type 0 where
  pub base : t.base ≡ base_rules ss
  pub names : kind_names t.kinds.items ≡ type_names ss
  pub rules : (j : ℕ) (k : TypeProgram) → slice_get t.kinds.items j ≡ Some k → k.rules ≡ type_rules ss k.name
  pub at : (name : List ℕ) (j : ℕ) → place_by t name ≡ Some j → slice_get (kind_names t.kinds.items) j ≡ Some name
  pub back : (name : List ℕ) (j : ℕ) → slice_get (kind_names t.kinds.items) j ≡ Some name → place_by t name ≡ Some j

-- the part that is in force behind these statements is the one that is known as that
pub record IsCurrent (ss : List Statement) (t : Taken) : Type 0 where
  pub base_here : is_none t.current ≡ in_force is_base true ss
  pub type_here : (name : List ℕ) → same_place t.current (place_by t name) ≡ in_force (is_of name) false ss
  pub within : (j : ℕ) → t.current ≡ Some j → j < length t.kinds.items

pub record AreRulesTaken (ss : List Statement) (t : Taken) : Type 0 where
  pub gathered : AreGathered ss t
  pub current : IsCurrent ss t

-- and so are all other statements
pub record IsTaken (ss : List Statement) (t : Taken) : Type 0 where
  pub rules : AreRulesTaken ss t
  pub preferences_are : t.preferences ≡ preferences ss
  pub others_are : t.others ≡ filter_map other_of ss

-- the rule stands behind those of the type at this place
pub record IsRuleAdded (place : ℕ) (r : Rule) (old new : List TypeProgram) : Type 0 where
  pub here : (k : TypeProgram) → slice_get old place ≡ Some k → slice_get new place ≡ Some (record { name = k.name; rules = k.rules ++ r ∷ [] })
  pub others : (j : ℕ) → j ≢ place → slice_get new j ≡ slice_get old j
  pub names : kind_names new ≡ kind_names old

-- nothing else than places and programs is changed
pub record IsSameBeside (old new : Taken) : Type 0 where
  pub current : new.current ≡ old.current
  pub base : new.base ≡ old.base
  pub preferences_are : new.preferences ≡ old.preferences
  pub others_are : new.others ≡ old.others

-- a type that had no place has the next one, without rules
pub record IsPlaced (old new : Taken) (name : List ℕ) (place : ℕ) : Type 0 where
  pub place_is : place ≡ length old.kinds.items
  pub kinds : new.kinds.items ≡ old.kinds.items ++ record { name = name; rules = [] } ∷ []
  pub places : (other : List ℕ) → place_by new other ≡ (if bytes_eq name other then Some place else place_by old other)
  pub same : IsSameBeside old new

-- a part of the type begins behind these statements, and the type has this place
pub record HasPlace (ss : List Statement) (new : Taken) (name : List ℕ) (place : ℕ) : Type 0 where
  pub gathered : (file at : ℕ) → AreGathered (ss ++ statement.Part file at (part.Kind name) ∷ []) new
  pub place_is : place_by new name ≡ Some place

-- the place of a part that begins: none for the base
abbrev pub IsPlaceOf : Taken → PartKind → Option ℕ → Type 0
IsPlaceOf t part.Base place = place ≡ None
IsPlaceOf t (part.Kind name) place = (i : ℕ) × (place ≡ Some i) × (place_by t name ≡ Some i)

-- a part begins behind these statements, and this is its place
pub record IsOpened (ss : List Statement) (t : Taken) (kind : PartKind) (place : Option ℕ) : Type 0 where
  pub gathered : (file at : ℕ) → AreGathered (ss ++ statement.Part file at kind ∷ []) t
  pub place_is : IsPlaceOf t kind place
