-- Walks, one after another.
use Rattle.std.proofs.Common.{ℕ, List}
use Rattle.components.specs.Graphs.{HasEdge, Reaches}
use Rattle.components.specs.Graphs.Reaches.{here, step}

pub reaches_then : (g : List (List ℕ)) (a b c : ℕ) → Reaches g a b → Reaches g b c → Reaches g a c
reaches_then g a b c p here = p
reaches_then g a b c p (step {b = m} q e) = step (reaches_then g a b m p q) e

pub reaches_edge : (g : List (List ℕ)) (a b : ℕ) → HasEdge g a b → Reaches g a b
reaches_edge g a b e = step here e

-- what each edge keeps a walk keeps
pub along : (g : List (List ℕ)) (P : ℕ → Type 0) → ((b c : ℕ) → P b → HasEdge g b c → P c) → (a c : ℕ) → P a → Reaches g a c → P c
along g P keeps a c p here = p
along g P keeps a c p (step {b = m} q e) = keeps m c (along g P keeps a m p q) e
