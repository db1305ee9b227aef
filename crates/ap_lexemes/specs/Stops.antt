-- What a text comes to, by where its reading stops. A reader reads the tokens up to the first limit.
use Rattle.std.specs.Prelude.{ℕ, ◌+◌, Bool, false, List, [], ◌∷◌, Option, None, Some, Result, Ok, Err, take}
use Rattle.ap_grammar.specs.Lexemes.{Lexeme}
use Rattle.ap_grammar.specs.Values.{Value}
use Rattle.ap_lexemes.specs.Constructs.{construct_of}
use Rattle.ap_lexemes.specs.Texts.{fault_of, place_of}
use Rattle.ap_lexemes.specs.declared.limit.LimitAt.{LimitAt}
use Rattle.ap_lexemes.specs.declared.fault.ParseFault.{ParseFault}
use Rattle.ap_lexemes.specs.declared.fault.ParseFault.TheVariants.{Syntax, Limit}

-- the tokens up to a limit, with that at which it stands
abbrev pub up_to : Option LimitAt → List Lexeme → List Lexeme
up_to None xs = xs
up_to (Some l) xs = take (l.index + 1) xs

-- the fault behind all of them
abbrev pub last_fault : Option LimitAt → List Lexeme → ℕ → ParseFault
last_fault None xs end = Syntax end
last_fault (Some l) xs end = Limit l.which (place_of xs l.index)

-- the fault where some were read and these are left
abbrev pub stopped : Bool → Option LimitAt → List Lexeme → ℕ → List Lexeme → List Lexeme → ParseFault
stopped of_type limit xs end read [] = last_fault limit xs end
stopped of_type limit xs end read (x ∷ rest) = fault_of (construct_of of_type read x) x.at

-- what comes of it where all of them are a text with this value
abbrev pub finished : Option LimitAt → List Lexeme → ℕ → Bool → Value → Result Value ParseFault
finished None xs end false v = Ok v
finished limit xs end is_cut v = Err (last_fault limit xs end)
