-- What reading by one token of foresight says of the documented grammar: the laws that a parser rests on.
use Rattle.std.proofs.Common.{◌≡◌, List, [], ◌∷◌, ◌++◌}
use Rattle.grammar.specs.Form.Form.{Call}
use Rattle.grammar.specs.Fault.{IsText, IsFault}
use Rattle.grammar.specs.Takes.{Takes, Fails}
use Rattle.grammar.proofs.Main as main
use Rattle.ap_grammar.specs.Lexemes.{Lexeme}
use Rattle.ap_grammar.specs.Values.{Value, Class}
use Rattle.ap_grammar.specs.declared.terminals.Terminal.{Terminal}
use Rattle.ap_grammar.specs.Grammar.{Name, grammar}
use Rattle.ap_grammar.specs.Factored.{Part, factored}
use Rattle.ap_grammar.specs.Tables.{tables}
use Rattle.ap_grammar.proofs.Readable.{readable}
use Rattle.ap_grammar.proofs.ToDocument.{to_document}
use Rattle.ap_grammar.proofs.FromDocument.{from_document}

-- the place of a fault is the same in both grammars
document_fault : {n : Name} {read rest : List Lexeme} → IsFault factored (Part.Of n) read rest → IsFault grammar n read rest
document_fault f = record { begins = (f.begins.0, f.begins.1, to_document f.begins.2); stops = λ more v e d. f.stops more v e (from_document d) }

-- what takes all the tokens is a text, with that value
pub whole : {n : Name} {xs : List Lexeme} {v : Value} → Takes factored tables (Call (Part.Of n)) xs [] (v ∷ []) → IsText grammar n xs v
whole d = to_document (main.whole Part Terminal Class Lexeme Value factored tables readable d)

-- and it has no other one
pub only : {n : Name} {xs : List Lexeme} {v w : Value} → Takes factored tables (Call (Part.Of n)) xs [] (v ∷ []) → IsText grammar n xs w → w ≡ v
only d e = main.only Part Terminal Class Lexeme Value factored tables readable d (from_document e)

-- where reading fails is the fault
pub fault : {n : Name} {xs ys : List Lexeme} → Fails factored tables (Call (Part.Of n)) xs ys → (read : List Lexeme) × (xs ≡ read ++ ys) × IsFault grammar n read ys
fault f = let q = main.fault Part Terminal Class Lexeme Value factored tables readable f in (q.0, q.1, document_fault q.2)

-- and so is the token behind what was read, where one is left
pub left_over : {n : Name} {xs : List Lexeme} {vs : List Value} (t : Lexeme) (ts : List Lexeme) → Takes factored tables (Call (Part.Of n)) xs (t ∷ ts) vs → (read : List Lexeme) × (xs ≡ read ++ (t ∷ ts)) × IsFault grammar n read (t ∷ ts)
left_over t ts d = let q = main.left_over Part Terminal Class Lexeme Value factored tables readable t ts d in (q.0, q.1, document_fault q.2)

-- a text has at most one value
pub one_value : {n : Name} {xs : List Lexeme} {v w : Value} → IsText grammar n xs v → IsText grammar n xs w → w ≡ v
one_value d e = main.one_value Part Terminal Class Lexeme Value factored tables readable (from_document d) (from_document e)
