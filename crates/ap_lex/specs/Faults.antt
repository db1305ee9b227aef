-- Why a text was not split into tokens.
use Rattle.std.specs.Prelude.{◌≡◌, ℕ, List}
use Rattle.ap_lex.specs.Tokens.{IsFault}
use Rattle.ap_lex.specs.declared.fault.LexFault.{LexFault}
use Rattle.ap_lex.specs.declared.fault.LexFault.TheVariants.{At, Memory}

-- the cause of a fault
abbrev pub HasCause : List ℕ → LexFault → Type 0
HasCause text (At at) = IsFault text at
HasCause text Memory = Unit {0}

-- the fault is at this place, unless memory ran out
abbrev pub IsAt : ℕ → LexFault → Type 0
IsAt place (At at) = at ≡ place
IsAt place Memory = Unit {0}
