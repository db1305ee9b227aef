-- Which unsupported construct a token begins, by what was read before it.
use Rattle.std.specs.Prelude.{ℕ, ◌+◌, ◌-◌, Bool, true, false, List, [], ◌∷◌, Option, None, Some, codes, fold, nat_lt, if◌then◌else◌}
use Rattle.ap_lexemes.specs.declared.context.Context.{Context}
use Rattle.std.specs.Str.{bytes_eq}
use Rattle.std.specs.Borrow.{Bor}
use Rattle.ap_grammar.specs.Lexemes.{Lexeme}
use Rattle.ap_grammar.specs.declared.terminals.Terminal.{Terminal}
use Rattle.ap_grammar.specs.declared.terminals.Terminal.TheVariants as t
use Rattle.ap_lexemes.specs.declared.construct.Construct.{Construct}
use Rattle.ap_lexemes.specs.declared.construct.Construct.TheVariants as c

abbrev pub name_of : Construct → List ℕ
name_of c.External = codes "external"
name_of c.Script = codes "script"
name_of c.Include = codes "include"
name_of c.Theory = codes "theory"
name_of c.Minimize = codes "minimize"
name_of c.Weak = codes "weak"
name_of c.Disjunction = codes "disjunction"
name_of c.Pool = codes "pool"
name_of c.Braces = codes "braces"
name_of c.Constraint = codes "constraint"
name_of c.MinMax = codes "minmax"
name_of c.Infimum = codes "infimum"
name_of c.Truth = codes "truth"
name_of c.Heuristic = codes "heuristic"
name_of c.Edge = codes "edge"
name_of c.Project = codes "project"
name_of c.Function = codes "function"
name_of c.Bits = codes "bits"
name_of c.Power = codes "power"
name_of c.Comment = codes "comment"

-- ---- by its characters alone

abbrev pub constructs : List (List ℕ × Construct)
constructs =
    (codes "#external", c.External) ∷ (codes "#script", c.Script) ∷ (codes "#include", c.Include) ∷ (codes "#theory", c.Theory) ∷ (codes "&", c.Theory)
    ∷ (codes "#minimize", c.Minimize) ∷ (codes "#maximize", c.Minimize) ∷ (codes ":~", c.Weak) ∷ (codes "|", c.Disjunction) ∷ (codes "{", c.Braces)
    ∷ (codes "#min", c.MinMax) ∷ (codes "#max", c.MinMax) ∷ (codes "#inf", c.Infimum) ∷ (codes "#sup", c.Infimum)
    ∷ (codes "#true", c.Truth) ∷ (codes "#false", c.Truth) ∷ (codes "#heuristic", c.Heuristic) ∷ (codes "#edge", c.Edge) ∷ (codes "#project", c.Project)
    ∷ (codes "@", c.Function) ∷ (codes "?", c.Bits) ∷ (codes "^", c.Bits) ∷ (codes "~", c.Bits) ∷ (codes "**", c.Power) ∷ (codes "%*", c.Comment) ∷ []

-- the construct of this spelling in a table
abbrev pub spelled : List (List ℕ × Construct) → List ℕ → Option Construct
spelled [] bytes = None
spelled (row ∷ rows) bytes = if bytes_eq row.0 bytes then Some row.1 else spelled rows bytes

abbrev pub spelled_in : List (Bor (List ℕ) × Construct) → List ℕ → Option Construct
spelled_in [] bytes = None
spelled_in (row ∷ rows) bytes = if bytes_eq row.0.now bytes then Some row.1 else spelled_in rows bytes

-- ---- by what was read before it

-- no parentheses are open and no `#program` has begun, where the text begins in a type's part or in the base
abbrev pub begun : Bool → Context
begun of_type = record { parentheses = 0; of_type = of_type; opening = None }

-- the part that is in force behind a dot: that of a `#program` statement, if this is its dot
abbrev pub in_force : Option Bool → Bool → Bool
in_force None of_type = of_type
in_force (Some opened) of_type = opened

-- a `#program` statement with the word `preference` opens a type's part
abbrev pub preferring : Option Bool → Option Bool
preferring None = None
preferring (Some opened) = Some true

abbrev pub behind : Context → Terminal → Context
behind s t.Open = record { parentheses = s.parentheses + 1; of_type = s.of_type; opening = s.opening }
behind s t.Close = record { parentheses = s.parentheses - 1; of_type = s.of_type; opening = s.opening }
behind s t.Program = record { parentheses = s.parentheses; of_type = s.of_type; opening = Some false }
behind s t.Preference = record { parentheses = s.parentheses; of_type = s.of_type; opening = preferring s.opening }
behind s t.Dot = begun (in_force s.opening s.of_type)
behind s other = s

-- what stands behind these tokens
abbrev pub context_of : Bool → List Lexeme → Context
context_of of_type read = fold (λ s x. behind s x.terminal) (begun of_type) read

abbrev pub semicolon : ℕ → Construct
semicolon parentheses = if nat_lt 0 parentheses then c.Pool else c.Disjunction

abbrev pub rule_sign : Bool → Option Construct
rule_sign of_type = if of_type then Some c.Constraint else None

abbrev pub construct_in : Context → Terminal → List ℕ → Option Construct
construct_in s t.Semicolon bytes = Some (semicolon s.parentheses)
construct_in s t.If bytes = rule_sign s.of_type
construct_in s other bytes = spelled constructs bytes

-- the construct that a token begins behind these tokens, in a text that begins in a type's part or in the base
abbrev pub construct_of : Bool → List Lexeme → Lexeme → Option Construct
construct_of of_type read x = construct_in (context_of of_type read) x.terminal x.bytes
