-- How the statements that reach themselves are found.
use Rattle.std.specs.Prelude.{ℕ, ◌+◌, Bool, ◌==◌, List, [], ◌∷◌, if◌then◌else◌}
use Rattle.std.specs.List.{list_any}
use Rattle.ap_syntax.specs.declared.preferences.Preference.{Preference}
use Rattle.components.specs.Graphs.{number_of, successors_of}

-- a successor of the node is in the node's component
abbrev pub is_cyclic : (graph : List (List ℕ)) (numbers : List ℕ) → ℕ → Bool
is_cyclic graph numbers a = list_any (λ b. number_of numbers b == number_of numbers a) (successors_of graph a)

-- the names of the statements whose nodes are so, where those are counted from k on
abbrev pub cyclic_from : (graph : List (List ℕ)) (numbers : List ℕ) → ℕ → List Preference → List (List ℕ)
cyclic_from graph numbers k [] = []
cyclic_from graph numbers k (p ∷ ps) =
    if is_cyclic graph numbers k then p.name ∷ cyclic_from graph numbers (k + 1) ps else cyclic_from graph numbers (k + 1) ps
