-- What the functions that read the rest of a term did to the tokens.
use Rattle.std.specs.Prelude.{List, [], ◌∷◌, Option}
use Rattle.ap_syntax.specs.declared.terms.Atom.{Atom}
use Rattle.ap_syntax.specs.declared.terms.Term.{Term}
use Rattle.ap_grammar.specs.Lexemes.{Lexeme}
use Rattle.ap_grammar.specs.Values.{Value}
use Rattle.ap_grammar.specs.Factored.{operated}

-- operators with their second operands make the second term of the first one
pub data Operates : Term → Term → List Value → Type 0 where
  none : {x : Term} → Operates x x []
  more : {sign other : Lexeme} {name : Option Atom} {x y z : Term} {vs : List Value} → Operates (operated sign.terminal x y) z vs → Operates x z (Value.token sign ∷ Value.term other name y ∷ vs)
