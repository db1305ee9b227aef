-- Which formula is greater than which in a statement of type `poset`.
use Rattle.std.specs.Prelude.{◌≡◌, ℕ, ◌<◌, length, slice_index_or, Contains}
use Rattle.ap_term.specs.Value.{Value}
use Rattle.element_form.specs.Closures.{Leads}
use Rattle.element_form.specs.Ground.{Statement, Ground, Ranked, For}

-- f stands before g in some element
abbrev pub StandsBefore : Statement → Value → Value → Type 0
StandsBefore st f g = (e : Ground) × (q r : Ranked) × (i j : ℕ) × Contains st.elements e × (i < j)
    × (j < length e.ranks) × (slice_index_or e.ranks i q ≡ q) × (q.target ≡ For f)
    × (slice_index_or e.ranks j r ≡ r) × (r.target ≡ For g)

-- or through others
abbrev pub IsGreater : Statement → Value → Value → Type 0
IsGreater st f g = Leads (StandsBefore st) f g
