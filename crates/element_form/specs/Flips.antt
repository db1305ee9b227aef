-- The flips of a statement of type `cp` (after Boutilier and others 2004).
use Rattle.std.specs.Prelude.{◌≡◌, Bool, true, false, not, List, [], ◌∷◌, Contains, IsTrue, if◌then◌else◌}
use Rattle.ap_term.specs.Value.{Value}
use Rattle.element_form.specs.Closures.{Leads}
use Rattle.element_form.specs.Degrees.{condition_true}
use Rattle.element_form.specs.Formulas.{truth, atom_formula, neg_formula}
use Rattle.element_form.specs.Ground.{Statement, Ground, Ranked, For}
use Rattle.element_form.specs.Satisfied.{same_value}
use Rattle.element_form.specs.States.{is_state, has_bit, state_of}

-- the set with this atom in it, or without it
abbrev pub put : (Value → Bool) → Value → Bool → Value → Bool
put x a b c = if same_value c a then b else x c

-- `a >> not a` adds the atom, and `not a >> a` takes it away
abbrev pub IsSwitch : List Ranked → Value → Bool → Type 0
IsSwitch (q ∷ r ∷ []) a true =
    (q.target ≡ For (atom_formula a)) × (r.target ≡ For (neg_formula (atom_formula a)))
IsSwitch (q ∷ r ∷ []) a false =
    (q.target ≡ For (neg_formula (atom_formula a))) × (r.target ≡ For (atom_formula a))
IsSwitch [] a b = ⊥
IsSwitch (q ∷ []) a b = ⊥
IsSwitch (q ∷ r ∷ s ∷ rs) a b = ⊥

-- the element's condition is true in the state u, and v is u with the atom added or taken away, which it was not
abbrev pub FlipsBy : Statement → Ground → Value → Bool → Value → Value → Type 0
FlipsBy st e a b u v = IsSwitch e.ranks a b × IsTrue (condition_true (truth (has_bit st u)) e.given)
    × (has_bit st u (atom_formula a) ≡ not b) × (v ≡ state_of st (put (has_bit st u) (atom_formula a) b))

-- an element flips state u to v
abbrev pub Flips : Statement → Value → Value → Type 0
Flips st u v =
    (e : Ground) × (a : Value) × (b : Bool) × Contains st.elements e × IsTrue (is_state st u) × FlipsBy st e a b u v

-- one or more flips lead from u to v
abbrev pub IsPath : Statement → Value → Value → Type 0
IsPath st u v = Leads (Flips st) u v
