-- Finite graphs, and numbers of their strongly connected components. The nodes of a graph are counted from 0, and each has the
-- list of its successors.
use Rattle.std.specs.Prelude.{◌≡◌, ℕ, ◌<◌, ◌≤◌, ◌↔◌, List, [], length, slice_index_or, All, Contains}

abbrev pub successors_of : List (List ℕ) → ℕ → List ℕ
successors_of graph a = slice_index_or graph a []

-- an edge leads from the first node to the second
abbrev pub HasEdge : List (List ℕ) → ℕ → ℕ → Type 0
HasEdge graph a b = Contains (successors_of graph a) b

-- each successor is a node
abbrev pub IsGraph : List (List ℕ) → Type 0
IsGraph graph = All (All (λ b. b < length graph)) graph

-- a walk leads from the first node to the second: it has no edge, or one more than another walk
pub data Reaches (graph : List (List ℕ)) (a : ℕ) : ℕ → Type 0 where
  here : Reaches graph a a
  step : {b c : ℕ} → Reaches graph a b → HasEdge graph b c → Reaches graph a c

-- each of the two nodes reaches the other
abbrev pub AreMutual : List (List ℕ) → ℕ → ℕ → Type 0
AreMutual graph a b = Reaches graph a b × Reaches graph b a

abbrev pub number_of : List ℕ → ℕ → ℕ
number_of numbers a = slice_index_or numbers a 0

-- Each node has a number, from 1 on and with no gap. Nodes have one number where each reaches the other, and a node that is
-- reached without a way back has a lower one.
pub record AreComponentNumbers (graph : List (List ℕ)) (numbers : List ℕ) : Type 0 where
  pub size : length numbers ≡ length graph
  pub positive : (a : ℕ) → a < length graph → 1 ≤ number_of numbers a
  pub gapless : (a k : ℕ) → a < length graph → 1 ≤ k → k ≤ number_of numbers a → Contains numbers k
  pub same : (a b : ℕ) → a < length graph → b < length graph → (number_of numbers a ≡ number_of numbers b) ↔ AreMutual graph a b
  pub lower : (a b : ℕ) → a < length graph → Reaches graph a b → ¬ (Reaches graph b a) → number_of numbers b < number_of numbers a
