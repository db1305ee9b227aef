-- Which variables are bound. A set of variables is given by its test on their names. `_` is a variable of its own at each
-- place: no set of names has it, and no other place binds it.
use Rattle.std.specs.Prelude.{◌≡◌, ℕ, Bool, true, false, not, ◌&&◌, ◌||◌, List, [], ◌∷◌, ◌++◌, flat_map, filter, filter_map, Option, Some, None, IsTrue, if◌then◌else◌}
use Rattle.std.specs.List.{list_all, list_any}
use Rattle.std.specs.Str.{bytes_eq}
use Rattle.ap_pieces.specs.declared.variables.Occurrence.{Occurrence}
use Rattle.ap_pieces.specs.declared.pieces.Side.{Side}
use Rattle.ap_pieces.specs.declared.pieces.Side.TheVariants.{Variable, Any, Compound}
use Rattle.ap_pieces.specs.declared.pieces.Mention.{Mention}
use Rattle.ap_pieces.specs.declared.pieces.Mention.TheVariants.{Atom, Equal, Other}
use Rattle.ap_pieces.specs.declared.pieces.Piece.{Piece}
use Rattle.ap_pieces.specs.declared.pieces.Piece.TheVariants.{Uses, Plain, Value, Part}
use Rattle.ap_pieces.specs.declared.pieces.Signature.{Signature}
use Rattle.ap_pieces.specs.Pieces.{side_occurrences, mention_occurrences, Source}

abbrev pub Names : Type 0
Names = List ℕ → Bool

abbrev pub IsSubset : Names → Names → Type 0
IsSubset x y = (name : List ℕ) → IsTrue (x name) → IsTrue (y name)

abbrev pub no_names : Names
no_names name = false

abbrev pub has_name : Names → Option (List ℕ) → Bool
has_name names None = false
has_name names (Some name) = names name

-- the variable of the occurrence is in the set
abbrev pub is_among : Names → Occurrence → Bool
is_among names o = has_name names o.name

-- all variables of these occurrences are in the set
abbrev pub has_all : Names → List Occurrence → Bool
has_all names os = list_all (is_among names) os

-- ---- the ways to be bound within a conjunction

abbrev pub has_any_name : Names → Option (List ℕ) → Bool
has_any_name names None = true
has_any_name names (Some name) = names name

-- the set has the variable of the occurrence, if that has a name and is an argument
abbrev pub has_argument : Names → Occurrence → Bool
has_argument names o = not o.is_argument || has_any_name names o.name

-- the set has a variable that is one side of `=`, or not all variables of the other side
abbrev pub binds_side : Names → Side → Side → Bool
binds_side bound (Variable name) other = not (has_all bound (side_occurrences other)) || bound name
binds_side bound _ other = true

-- the set has the variables that are arguments of a positive atom, and those that an `=` binds
abbrev pub is_closed : Names → Mention → Bool
is_closed bound (Atom os) = list_all (has_argument bound) os
is_closed bound (Equal left right) = binds_side bound left right && binds_side bound right left
is_closed bound (Other os) = true

abbrev pub IsClosed : Names → List Mention → Type 0
IsClosed bound conjunction = IsTrue (list_all (is_closed bound) conjunction)

-- the least set that has the given variables and is closed in both ways under the conjunction
pub record IsBound (given : Names) (conjunction : List Mention) (bound : Names) : Type 0 where
  pub given_ones : IsSubset given bound
  pub closed : IsClosed bound conjunction
  pub least : (z : Names) → IsSubset given z → IsClosed z conjunction → IsSubset bound z

-- ---- global variables

abbrev pub global_occurrences : Piece → List Occurrence
global_occurrences (Uses os) = os
global_occurrences (Plain mention) = mention_occurrences mention
global_occurrences (Value side inside mentioned) = side_occurrences side
global_occurrences (Part os condition) = []

abbrev pub is_name_of : List ℕ → Occurrence → Bool
is_name_of name o = is_among (bytes_eq name) o

-- the variables that occur outside braces and conditional literals
abbrev pub globals : List Piece → Names
globals pieces name = list_any (is_name_of name) (flat_map global_occurrences pieces)

-- An aggregate over definite predicates stands to its guard with `=` as one side of a comparison to the other: it has the global
-- variables between its braces. Over other predicates it binds nothing, as `_`.
abbrev pub aggregate_side : (Signature → Bool) → Names → List Occurrence → List Signature → Side
aggregate_side definite global inside mentioned =
    if list_all definite mentioned then Compound (filter (is_among global) inside) else Any

-- what binds global variables: literals of the body, and aggregates by their guards
abbrev pub binders : (Signature → Bool) → Names → Piece → List Mention
binders definite global (Uses os) = []
binders definite global (Plain mention) = mention ∷ []
binders definite global (Value side inside mentioned) = Equal side (aggregate_side definite global inside mentioned) ∷ []
binders definite global (Part os condition) = []

-- ---- unbound occurrences: those whose variable is not bound, by its name, in the order of the text

abbrev pub shown : Option (List ℕ) → List ℕ
shown None = 95 ∷ []
shown (Some name) = name

abbrev pub unless : Bool → Occurrence → Option (List ℕ)
unless is_bound o = if is_bound then None else Some (shown o.name)

abbrev pub unbound : Names → List Occurrence → List (List ℕ)
unbound bound os = filter_map (λ o. unless (is_among bound o) o) os

-- the arguments of a positive atom of the conjunction bind each `_` among them
abbrev pub is_bound_there : Names → Bool → Option (List ℕ) → Bool
is_bound_there bound is_argument None = is_argument
is_bound_there bound is_argument (Some name) = bound name

abbrev pub unbound_arguments : Names → List Occurrence → List (List ℕ)
unbound_arguments bound os = filter_map (λ (o : Occurrence). unless (is_bound_there bound o.is_argument o.name) o) os

-- a `_` that is one side of `=` is bound where all variables of the other side are
abbrev pub unbound_side : Names → Names → Side → Side → List (List ℕ)
unbound_side assumed bound Any other = if has_all assumed (side_occurrences other) then [] else shown None ∷ []
unbound_side assumed bound (Variable name) other = unbound bound (side_occurrences (Variable name))
unbound_side assumed bound (Compound os) other = unbound bound os

-- Of a literal that binds. It takes the variables of `assumed` as bound, and those of `bound` are bound.
abbrev pub unbound_mention : Names → Names → Mention → List (List ℕ)
unbound_mention assumed bound (Atom os) = unbound_arguments bound os
unbound_mention assumed bound (Equal left right) = unbound_side assumed bound left right ++ unbound_side assumed bound right left
unbound_mention assumed bound (Other os) = unbound bound os

-- within a part, a global variable is bound as it is outside, and any other by the part's condition
abbrev pub bound_within : Names → Names → Names → Names
bound_within global outside within name = if global name then outside name else within name

abbrev pub unbound_part : Names → Names → List Occurrence → List Mention → List (List ℕ)
unbound_part assumed bound os condition = unbound bound os ++ flat_map (unbound_mention assumed bound) condition

-- these are the names of the unbound occurrences of a piece
abbrev pub AreUnboundOf : (Signature → Bool) → Names → Names → Piece → List (List ℕ) → Type 0
AreUnboundOf definite global outside (Uses os) names = names ≡ unbound outside os
AreUnboundOf definite global outside (Plain mention) names = names ≡ unbound_mention outside outside mention
AreUnboundOf definite global outside (Value side inside mentioned) names =
    names ≡ unbound_side outside outside side (aggregate_side definite global inside mentioned)
AreUnboundOf definite global outside (Part os condition) names = (within : Names) × IsBound global condition within
    × (names ≡ unbound_part within (bound_within global outside within) os condition)

abbrev pub AreUnboundAmong : (Signature → Bool) → Names → Names → List Piece → List (List ℕ) → Type 0
AreUnboundAmong definite global outside [] names = names ≡ []
AreUnboundAmong definite global outside (piece ∷ pieces) names = (here : List (List ℕ)) × (rest : List (List ℕ))
    × AreUnboundOf definite global outside piece here × AreUnboundAmong definite global outside pieces rest × (names ≡ here ++ rest)

-- these are the names of the unbound occurrences of a rule or an element, where `definite` tells the definite predicates
abbrev pub AreUnbound : (Signature → Bool) → List Piece → List (List ℕ) → Type 0
AreUnbound definite pieces names = (outside : Names) × IsBound no_names (flat_map (binders definite (globals pieces)) pieces) outside
    × AreUnboundAmong definite (globals pieces) outside pieces names

-- all occurrences in a rule or an element are bound: there is the least set of its bound variables, and none is outside of it
abbrev pub IsAllBound : (Signature → Bool) → Source → Type 0
IsAllBound definite source = AreUnbound definite source.pieces []

-- a rule or an element has an unbound variable, and this is the first
abbrev pub IsUnsafe : (Signature → Bool) → Source → List ℕ → Type 0
IsUnsafe definite source variable = (others : List (List ℕ)) × AreUnbound definite source.pieces (variable ∷ others)

abbrev pub HasUnbound : (Signature → Bool) → Source → Type 0
HasUnbound definite source = (variable : List ℕ) × IsUnsafe definite source variable
