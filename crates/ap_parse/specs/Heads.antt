-- What the functions that read heads did to the tokens.
use Rattle.std.specs.Prelude.{List}
use Rattle.ap_syntax.specs.declared.rules.HeadForm.{HeadForm}
use Rattle.ap_grammar.specs.Lexemes.{Lexeme}
use Rattle.ap_grammar.specs.Values.{Value}
use Rattle.literal_parse.specs.Literals.{Brings}

abbrev pub IsHead : List Lexeme → HeadForm → List Value → Type 0
IsHead old h vs = Brings old (λ first. Value.head first h) vs
