-- What the functions that read terms or formulas did to the tokens.
use Rattle.std.specs.Prelude.{◌≡◌, List, ◌∷◌, None, Result, Ok, Err}
use Rattle.grammar.specs.Form.{◌∣◌}
use Rattle.grammar.specs.Form.Form.{Tok, Call, Then}
use Rattle.ap_syntax.specs.declared.terms.Atom.{Atom}
use Rattle.ap_grammar.specs.declared.terminals.Terminal.TheVariants as t
use Rattle.ap_grammar.specs.Lexemes.{Lexeme}
use Rattle.ap_grammar.specs.Values.{Value, Class}
use Rattle.ap_grammar.specs.Factored.{Part, Rhs, front_group, inner_behind, mixed_made}
use Rattle.literal_parse.specs.declared.error.Stop.{Stop}
use Rattle.literal_parse.specs.declared.error.Stop.TheVariants.{Syntax}
use Rattle.literal_parse.specs.Literals.{Brings}
use Rattle.literal_parse.specs.Operands.{term_of}
use Rattle.literal_parse.specs.declared.operand.Operand.{Operand}
use Rattle.literal_parse.specs.declared.operand.Operand.TheVariants as Operands
use Rattle.pref_parse.specs.declared.mixed.Mixed.{Mixed}
use Rattle.pref_parse.specs.declared.mixed.Mixed.TheVariants.{Either, Formed, Other}

abbrev pub either : Atom → Mixed
either a = Either a

abbrev pub value_of : Lexeme → Mixed → Value
value_of first (Either a) = Value.either first a (term_of a)
value_of first (Formed f) = Value.formula first f
value_of first (Other x) = Value.term first None x

abbrev pub class_of : Mixed → Class
class_of (Either a) = Class.Either
class_of (Formed f) = Class.Formed
class_of (Other x) = Class.Other

abbrev pub IsMixed : List Lexeme → Mixed → List Value → Type 0
IsMixed old x vs = Brings old (λ first. value_of first x) vs

-- what was read of a term, where it may be one, and else a fault
abbrev pub OperandOr : Mixed → Result Operand Stop → Type 0
OperandOr (Either a) r = r ≡ Ok (Operands.Bare a)
OperandOr (Formed f) r = r ≡ Err Syntax
OperandOr (Other x) r = r ≡ Ok (Operands.Other x)

-- behind the first primary term or the first member
abbrev pub IsMixedRest : Mixed → Mixed → List Value → Type 0
IsMixedRest front x vs = (first : Lexeme) → mixed_made (value_of first front ∷ vs) ≡ value_of first x

-- a number, a string, a variable or `_`
abbrev pub simple : Rhs
simple = Tok t.Number ∣ Tok t.String ∣ Tok t.Variable ∣ Tok t.Any

-- behind a parenthesis
abbrev pub inner : Rhs
inner = Tok t.Close ∣ Then (Call Part.Mixed) inner_behind

abbrev pub IsInner : Mixed → List Value → Type 0
IsInner x vs = (first : Lexeme) → front_group first vs ≡ value_of first x

abbrev pub IsInnerRest : Mixed → Mixed → List Value → Type 0
IsInnerRest inner x vs = (first other : Lexeme) → front_group first (value_of other inner ∷ vs) ≡ value_of first x
