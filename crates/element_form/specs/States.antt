-- The net atoms and the states of a statement of type `cp`. A state is a set of net atoms; its number has 2^i for the atom of place i
-- from 0. An atom stands as its term `atom(a)`.
use Rattle.std.specs.Prelude.{◌≡◌, IsTrue, ℕ, zero, suc, ◌+◌, ◌*◌, ◌/◌, ◌%◌, ◌^◌, ◌==◌, pos, negsuc, Bool, false, List, [], ◌∷◌, ◌++◌, flat_map, map, length, nat_lt, if◌then◌else◌}
use Rattle.std.specs.List.{list_any}
use Rattle.std.specs.declared.cmp.Ordering.{Ordering}
use Rattle.std.specs.declared.cmp.Ordering.TheVariants.{Less, Equal, Greater}
use Rattle.ap_term.specs.Order.{value_cmp}
use Rattle.ap_term.specs.Value.{Value, integer, constant, string, compound}
use Rattle.element_form.specs.Formulas.{atoms_of}
use Rattle.element_form.specs.Ground.{Statement, Ground, Ranked, Target, For, Name, given_list}
use Rattle.element_form.specs.Satisfied.{same_value}

-- ---- net atoms

-- v before the first member that is not below it, by how v and this compare
abbrev pub put_by : Ordering → Value → Value → List Value → List Value → List Value
put_by Less v w ws rest = v ∷ w ∷ ws
put_by Equal v w ws rest = w ∷ ws
put_by Greater v w ws rest = w ∷ rest

-- v at its place in a list in term order
abbrev pub put_in : Value → List Value → List Value
put_in v [] = v ∷ []
put_in v (w ∷ ws) = put_by (value_cmp v w) v w ws (put_in v ws)

-- the members in term order, each once
abbrev pub in_order : List Value → List Value
in_order [] = []
in_order (v ∷ vs) = put_in v (in_order vs)

-- the atoms of what a rank stands for
abbrev pub target_atoms : Target → List Value
target_atoms (For formula) = atoms_of formula
target_atoms (Name statement) = []

-- the atoms of an element
abbrev pub element_atoms : Ground → List Value
element_atoms e = flat_map (λ (r : Ranked). target_atoms r.target) (e.ranks ++ given_list e.given)

-- the atoms of all ground elements, in term order
abbrev pub net_atoms : Statement → List Value
net_atoms st = in_order (flat_map element_atoms st.elements)

-- ---- numbers of states

-- the number that has these binary digits, the lowest first
abbrev pub number_of : List Bool → ℕ
number_of [] = 0
number_of (b ∷ bs) = (if b then 1 else 0) + 2 * number_of bs

-- the first n binary digits, the lowest first
abbrev pub digits : ℕ → ℕ → List Bool
digits zero u = []
digits (suc n) u = (u % 2 == 1) ∷ digits n (u / 2)

-- what stands at the place of the atom
abbrev pub at_place : List Value → List Bool → Value → Bool
at_place [] bs a = false
at_place (v ∷ net) [] a = false
at_place (v ∷ net) (b ∷ bs) a = if same_value v a then b else at_place net bs a

-- the test of a value that is a number
abbrev pub on_number : (ℕ → Bool) → Value → Bool
on_number test (integer (pos n)) = test n
on_number test (integer (negsuc n)) = false
on_number test (constant name) = false
on_number test (string bytes) = false
on_number test (compound name vs) = false

-- with these net atoms
abbrev pub is_net_of : List Value → Value → Bool
is_net_of net a = list_any (same_value a) net

abbrev pub is_state_of : List Value → Value → Bool
is_state_of net u = on_number (λ k. nat_lt k (2 ^ length net)) u

abbrev pub has_bit_of : List Value → Value → Value → Bool
has_bit_of net u a = on_number (λ k. at_place net (digits (length net) k) a) u

abbrev pub state_number : List Value → (Value → Bool) → Value
state_number net sat = integer (pos (number_of (map sat net)))

-- ---- of a statement

-- a is a net atom
abbrev pub is_net : Statement → Value → Bool
is_net st a = is_net_of (net_atoms st) a

-- u is the number of a state
abbrev pub is_state : Statement → Value → Bool
is_state st u = is_state_of (net_atoms st) u

-- the state u has the net atom a
abbrev pub has_bit : Statement → Value → Value → Bool
has_bit st u a = has_bit_of (net_atoms st) u a

-- the state of a set: the net atoms that it satisfies
abbrev pub state_of : Statement → (Value → Bool) → Value
state_of st sat = state_number (net_atoms st) sat

-- u is the state of the set: it has just the net atoms that the set satisfies
abbrev pub IsStateOf : Statement → (Value → Bool) → Value → Type 0
IsStateOf st sat u =
    IsTrue (is_state st u) × ((a : Value) → IsTrue (is_net st a) → has_bit st u a ≡ sat a)
