-- What holds while the components are searched for.
use Rattle.std.specs.Prelude.{◌≡◌, ◌≢◌, ℕ, ◌+◌, ◌-◌, ◌*◌, ◌<◌, ◌≤◌, ◌⊎◌, List, [], ◌∷◌, ◌++◌, length, map, replicate, take, drop, slice_set, slice_index_or, Contains}
use Rattle.std.specs.List.{AllPairs, sum_by}
use Rattle.components.specs.Graphs.{successors_of, HasEdge, Reaches}
use Rattle.components.specs.declared.search.Search.{Search}
use Rattle.components.specs.declared.search.Status.{Status}
use Rattle.components.specs.declared.search.Status.TheVariants.{New, Open, Closed}

abbrev pub status_of : List Status → ℕ → Status
status_of statuses v = slice_index_or statuses v New

abbrev pub at : List ℕ → ℕ → ℕ
at list i = slice_index_or list i 0

-- the list without its last element
abbrev pub front : List ℕ → List ℕ
front list = take (length list - 1) list

abbrev pub IsLast : List ℕ → ℕ → Type 0
IsLast list x = list ≡ front list ++ x ∷ []

-- The stack has the open nodes, each at the place that its status tells.
pub record IsStack (statuses : List Status) (stack : List ℕ) : Type 0 where
  pub place : (i : ℕ) → i < length stack → status_of statuses (at stack i) ≡ Open i
  pub inside : (v i : ℕ) → status_of statuses v ≡ Open i → i < length stack
  pub node : (v i : ℕ) → status_of statuses v ≡ Open i → at stack i ≡ v

-- place j is in the segment of place i or in a later one
abbrev pub IsSince : List ℕ → ℕ → ℕ → Type 0
IsSince starts i j = (t : ℕ) → Contains starts t → t ≤ i → t ≤ j

-- Each node of the stack reaches those above it, and those below it in its segment.
pub record IsPath (graph : List (List ℕ)) (stack starts : List ℕ) : Type 0 where
  pub up : (i j : ℕ) → i ≤ j → j < length stack → Reaches graph (at stack i) (at stack j)
  pub down : (i j : ℕ) → i ≤ j → j < length stack → IsSince starts j i → Reaches graph (at stack j) (at stack i)

-- An edge from place i to this node leads to a closed node, or into the same segment or a later one.
abbrev pub Leads : List Status → List ℕ → ℕ → ℕ → Type 0
Leads statuses starts i w = ((k : ℕ) × (status_of statuses w ≡ Closed k)) ⊎ ((j : ℕ) × (status_of statuses w ≡ Open j) × IsSince starts i j)

-- Of each node the first successors are left, and those behind them have been looked at.
pub record AreLooked (graph : List (List ℕ)) (statuses : List Status) (left stack starts : List ℕ) : Type 0 where
  pub looked : (i k : ℕ) → i < length stack → at left (at stack i) ≤ k → k < length (successors_of graph (at stack i)) → Leads statuses starts i (at (successors_of graph (at stack i)) k)
  pub fresh : (v : ℕ) → status_of statuses v ≡ New → at left v ≡ length (successors_of graph v)
  pub fits : (v : ℕ) → at left v ≤ length (successors_of graph v)

-- The stack is cut into segments, which start at these places.
pub record AreStarts (stack starts : List ℕ) : Type 0 where
  pub ascending : AllPairs (λ (s t : ℕ). s < t) starts
  pub inside : (t : ℕ) → Contains starts t → t < length stack
  pub first : 0 < length stack → Contains starts 0

-- The places of the nodes that have successors left are among these.
pub record AreUnfinished (left stack unfinished : List ℕ) : Type 0 where
  pub ascending : AllPairs (λ (s t : ℕ). s < t) unfinished
  pub inside : (i : ℕ) → Contains unfinished i → i < length stack
  pub covers : (i : ℕ) → i < length stack → 0 < at left (at stack i) → Contains unfinished i

-- The closed nodes have the numbers up to this one. No edge leads to a higher number, and nodes of one number reach each other.
pub record AreClosed (graph : List (List ℕ)) (statuses : List Status) (closed : ℕ) : Type 0 where
  pub edges : (v w k : ℕ) → status_of statuses v ≡ Closed k → HasEdge graph v w → (m : ℕ) × (status_of statuses w ≡ Closed m) × (m ≤ k)
  pub same : (v w k : ℕ) → status_of statuses v ≡ Closed k → status_of statuses w ≡ Closed k → Reaches graph v w
  pub low : (v k : ℕ) → status_of statuses v ≡ Closed k → 1 ≤ k
  pub high : (v k : ℕ) → status_of statuses v ≡ Closed k → k ≤ closed
  pub used : (k : ℕ) → 1 ≤ k → k ≤ closed → (v : ℕ) × (status_of statuses v ≡ Closed k)

-- a new node will take three steps: it becomes an open one, and starts a segment, and is unfinished
abbrev pub fresh_weight : Status → ℕ
fresh_weight New = 3
fresh_weight (Open i) = 0
fresh_weight (Closed k) = 0

abbrev pub fresh_in : List Status → ℕ
fresh_in statuses = sum_by fresh_weight statuses

-- how many steps are left at most
abbrev pub weight : Search → ℕ
weight s = sum_by (λ (n : ℕ). n) s.left + fresh_in s.statuses + length s.starts + length s.unfinished

pub record IsSearch (graph : List (List ℕ)) (s : Search) : Type 0 where
  pub statuses_size : length s.statuses ≡ length graph
  pub left_size : length s.left ≡ length graph
  pub stack : IsStack s.statuses s.stack
  pub path : IsPath graph s.stack s.starts
  pub looked : AreLooked graph s.statuses s.left s.stack s.starts
  pub starts : AreStarts s.stack s.starts
  pub unfinished : AreUnfinished s.left s.stack s.unfinished
  pub closed : AreClosed graph s.statuses s.closed
  pub count : 3 * s.closed + 3 * length s.starts + fresh_in s.statuses ≤ 3 * length graph

-- each node is new, with all its successors
abbrev pub start_of : List (List ℕ) → Search
start_of graph = record { statuses = replicate (length graph) New; left = map length graph; stack = []; starts = []; unfinished = []; closed = 0 }

-- ---- what the single steps do

-- the node is the new top of the stack, and a segment of its own
abbrev pub opened : Search → ℕ → Search
opened s v = record s {
  statuses = slice_set s.statuses v (Open (length s.stack));
  stack = s.stack ++ v ∷ [];
  starts = s.starts ++ length s.stack ∷ [];
  unfinished = s.unfinished ++ length s.stack ∷ [];
}

-- one successor fewer of the node is left
abbrev pub passed : Search → ℕ → Search
passed s v = record s { left = slice_set s.left v (at s.left v - 1) }

-- the two uppermost segments are one
abbrev pub joined : Search → Search
joined s = record s { starts = front s.starts }

-- the uppermost node that was unfinished is finished
abbrev pub finished : Search → Search
finished s = record s { unfinished = front s.unfinished }

-- the nodes of this list are closed with this number, and the others are as they were
pub record AreNumbered (old new : List Status) (nodes : List ℕ) (number : ℕ) : Type 0 where
  pub size : length new ≡ length old
  pub listed : (v : ℕ) → Contains nodes v → status_of new v ≡ Closed number
  pub others : (v : ℕ) → ¬ (Contains nodes v) → status_of new v ≡ status_of old v
  pub fresh : fresh_in new ≤ fresh_in old

-- the segment from this place on is closed, with the next number
pub record IsCut (s t : Search) (top : ℕ) : Type 0 where
  pub statuses : AreNumbered s.statuses t.statuses (drop top s.stack) (s.closed + 1)
  pub rest : t ≡ record s { statuses = t.statuses; stack = take top s.stack; starts = front s.starts; closed = s.closed + 1 }

-- what any step does
pub record IsStep (graph : List (List ℕ)) (s t : Search) : Type 0 where
  pub search : IsSearch graph t
  pub smaller : weight t < weight s
  pub kept : (v : ℕ) → status_of t.statuses v ≡ New → status_of s.statuses v ≡ New

abbrev pub number_in : Status → ℕ
number_in New = 0
number_in (Open i) = 0
number_in (Closed k) = k

-- the successor of this node that is looked at next
pub record IsNext (graph : List (List ℕ)) (s : Search) (v w : ℕ) : Type 0 where
  pub some : 0 < at s.left v
  pub is : w ≡ at (successors_of graph v) (at s.left v - 1)

-- the node is in the uppermost segment, and this is the successor of it that is looked at next
pub record CanFollow (graph : List (List ℕ)) (s : Search) (top v w : ℕ) : Type 0 where
  pub place : ℕ
  pub inside : place < length s.stack
  pub node : v ≡ at s.stack place
  pub upper : top ≤ place
  pub next : IsNext graph s v w

-- what some steps do that empty the stack
pub record IsRun (graph : List (List ℕ)) (s t : Search) : Type 0 where
  pub search : IsSearch graph t
  pub empty : t.stack ≡ []
  pub kept : (v : ℕ) → status_of t.statuses v ≡ New → status_of s.statuses v ≡ New

-- the first n nodes are not new
abbrev pub AllMet : ℕ → List Status → Type 0
AllMet n statuses = (v : ℕ) → v < n → status_of statuses v ≢ New
