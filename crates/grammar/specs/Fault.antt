-- Texts of a grammar, and the place of a fault.
use Rattle.std.specs.Prelude.{◌≡◌, List, [], ◌∷◌, ◌++◌, Option, Some, None}
use Rattle.grammar.specs.Form.{Form, Grammar, Derives}

abbrev pub next_kind : {N K C T V : Type 0} → Grammar N K C T V → List T → Option K
next_kind g [] = None
next_kind g (t ∷ ts) = Some (g.kind t)

-- the rule n derives all of the tokens, with the value v
abbrev pub IsText : {N K C T V : Type 0} → Grammar N K C T V → N → List T → V → Type 0
IsText g n xs v = Derives g (Form.Call n) xs [] (v ∷ [])

-- Some text begins with the tokens that were read, and none goes on with a token of the next one's kind, or ends where they end.
pub record IsFault {N K C T V : Type 0} (g : Grammar N K C T V) (n : N) (read rest : List T) : Type 0 where
  pub begins : (more : List T) × (v : V) × IsText g n (read ++ more) v
  pub stops : (more : List T) (v : V) → next_kind g more ≡ next_kind g rest → IsText g n (read ++ more) v → ⊥
