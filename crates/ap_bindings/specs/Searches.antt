-- What holds while the unbound variables are searched for.
use Rattle.std.specs.Prelude.{◌≡◌, ℕ, ◌<◌, Bool, false, not, ◌||◌, List, [], ◌∷◌, ◌++◌, length, Option, Some, None, is_some, slice_get, slice_index_or, All}
use Rattle.std.specs.List.{list_all}
use Rattle.std.specs.HashSet.{contains_text}
use Rattle.std.specs.HashMap.{get_by_text}
use Rattle.definite.specs.declared.Rule.{Rule}
use Rattle.definite.specs.Rules.{marked, obeys, IsRuleOf}
use Rattle.ap_pieces.specs.declared.variables.Occurrence.{Occurrence}
use Rattle.ap_bindings.specs.declared.names.NameSet.{NameSet}
use Rattle.ap_bindings.specs.declared.names.NameTable.{NameTable}
use Rattle.ap_bindings.specs.declared.binding.Bound.{Bound}
use Rattle.ap_bindings.specs.declared.scope.Scope.{Scope}
use Rattle.ap_pieces.specs.declared.pieces.Piece.{Piece}
use Rattle.ap_pieces.specs.declared.pieces.Signature.{Signature}
use Rattle.ap_bindings.specs.declared.search.Failing.{Failing}
use Rattle.ap_pieces.specs.Bound.{Names, has_any_name, has_all, bound_within, AreUnboundOf, AreUnboundAmong, AreUnbound}

-- ---- sets and numbers of names

abbrev pub names_in : NameSet → Names
names_in set name = contains_text set.set name

abbrev pub number_in : NameTable → List ℕ → Option ℕ
number_in table name = get_by_text table.numbers name

-- a name with a number stands at its place in the list, and each of the list has its place for a number
pub record IsTable (table : NameTable) : Type 0 where
  pub at : (name : List ℕ) (i : ℕ) → number_in table name ≡ Some i → slice_get table.names i ≡ Some name
  pub back : (name : List ℕ) (i : ℕ) → slice_get table.names i ≡ Some name → number_in table name ≡ Some i

-- further names have numbers
pub record Grows (old new : NameTable) : Type 0 where
  pub table : IsTable new
  pub more : List (List ℕ)
  pub names : new.names ≡ old.names ++ more

-- ---- conjunctions as rules over numbers

-- the given names, and those of a further set
abbrev pub also : Names → Names → Names
also given z name = given name || z name

-- a set of names as a set of numbers
abbrev pub at_numbers : List (List ℕ) → Names → ℕ → Bool
at_numbers names z a = z (slice_index_or names a [])

-- a set of names has those with these numbers exactly where it passes the test
pub record IsListed (names : List (List ℕ)) (list : List ℕ) (test : Names → Bool) : Type 0 where
  pub below : All (λ a. a < length names) list
  pub same : (z : Names) → list_all (at_numbers names z) list ≡ test z

-- a set of names obeys the rules exactly where it passes the test
pub record AreRules (names : List (List ℕ)) (rules : List Rule) (test : Names → Bool) : Type 0 where
  pub below : All (IsRuleOf (length names)) rules
  pub same : (z : Names) → list_all (obeys (at_numbers names z)) rules ≡ test z

-- the set has the variable of an occurrence that counts, if that has a name: all count, or arguments alone
abbrev pub has_counted : Bool → Names → Occurrence → Bool
has_counted all names o = not (all || o.is_argument) || has_any_name names o.name

abbrev pub is_named : Occurrence → Bool
is_named o = is_some o.name

-- where some of these occurrences have no name, no set has them all
abbrev pub IsListedTerm : Names → List (List ℕ) → List Occurrence → Option (List ℕ) → Type 0
IsListedTerm given names os None = (z : Names) → has_all z os ≡ false
IsListedTerm given names os (Some list) = IsListed names list (λ z. has_all (also given z) os)

-- ---- what the conjunction binds

abbrev pub is_marked : List Bool → Option ℕ → Bool
is_marked marks None = false
is_marked marks (Some a) = marked marks a

abbrev pub marked_in : Bound → Names
marked_in bound name = is_marked bound.marks (number_in bound.table name)

-- with the given names
abbrev pub bound_in : NameSet → Bound → Names
bound_in given bound = also (names_in given) (marked_in bound)

-- ---- unbound occurrences

-- the first of these names
abbrev pub first_name : List (List ℕ) → Option (List ℕ)
first_name [] = None
first_name (name ∷ names) = Some name

-- the first, or the other where there is none
abbrev pub first_or : Option (List ℕ) → Option (List ℕ) → Option (List ℕ)
first_or None other = other
first_or (Some name) other = Some name

-- what is assumed as bound by a part's condition
abbrev pub assumed_in : Scope → Names
assumed_in scope = bound_in scope.globals.now scope.within.now

-- what is bound in a part
abbrev pub bound_inside : Scope → Names
bound_inside scope = bound_within (names_in scope.globals.now) (marked_in scope.outside.now) (assumed_in scope)

-- this is the first of the names of a piece's unbound occurrences
abbrev pub IsFirstUnboundOf : (Signature → Bool) → Names → Names → Piece → Option (List ℕ) → Type 0
IsFirstUnboundOf definite global outside piece first =
    (names : List (List ℕ)) × AreUnboundOf definite global outside piece names × (first ≡ first_name names)

abbrev pub IsFirstAmong : (Signature → Bool) → Names → Names → List Piece → Option (List ℕ) → Type 0
IsFirstAmong definite global outside pieces first =
    (names : List (List ℕ)) × AreUnboundAmong definite global outside pieces names × (first ≡ first_name names)

-- this is the first of the names of the unbound occurrences of a rule or an element
abbrev pub IsFirstUnbound : (Signature → Bool) → List Piece → Option (List ℕ) → Type 0
IsFirstUnbound definite pieces first =
    (names : List (List ℕ)) × AreUnbound definite pieces names × (first ≡ first_name names)

-- ---- the first source with an unbound variable

abbrev pub failing_of : ℕ → ℕ → Option (List ℕ) → Option (Failing (List ℕ))
failing_of file at None = None
failing_of file at (Some variable) = Some (record { file = file; at = at; what = variable })
