-- What follows from the definitions, for those who use the numbers.
use Rattle.std.proofs.Common.{ℕ, ◌<◌, ◌≤◌, List, length, arith, ⊎_elim}
use Rattle.std.proofs.lemmas.Bool.{cases_lt}
use Rattle.components.specs.Graphs.{AreComponentNumbers, HasEdge, IsGraph, Reaches, number_of}
use Rattle.components.proofs.Walks.{along, reaches_edge}
use Rattle.components.proofs.Follows.{edge_in}

-- a walk from a node ends at a node
pub reaches_in : (g : List (List ℕ)) (a b : ℕ) → IsGraph g → a < length g → Reaches g a b → b < length g
reaches_in g a b graph lt walk = along g (λ v. v < length g) (λ v w before edge. edge_in g v w graph edge) a b lt walk

-- no walk leads to a higher number
pub never_up : (g : List (List ℕ)) (numbers : List ℕ) (a b : ℕ) → IsGraph g → AreComponentNumbers g numbers → a < length g → Reaches g a b → number_of numbers b ≤ number_of numbers a
never_up g numbers a b graph h lt walk = ⊎_elim
    (λ (up : number_of numbers a < number_of numbers b).
    let in_b : b < length g = reaches_in g a b graph lt walk in
    let down = h.lower a b lt walk (λ back. let e = (h.same a b lt in_b).1 (walk, back) in absurd (omega (arith, e, up))) in
    absurd (omega (arith, up, down)))
    (λ (le : number_of numbers b ≤ number_of numbers a). le)
    (cases_lt (number_of numbers a) (number_of numbers b))

-- no edge leads to a higher number
pub edge_never_up : (g : List (List ℕ)) (numbers : List ℕ) (a b : ℕ) → IsGraph g → AreComponentNumbers g numbers → a < length g → HasEdge g a b → number_of numbers b ≤ number_of numbers a
edge_never_up g numbers a b graph h lt edge = never_up g numbers a b graph h lt (reaches_edge g a b edge)
