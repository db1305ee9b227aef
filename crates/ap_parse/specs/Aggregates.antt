-- What the functions that read aggregates did to the tokens.
use Rattle.std.specs.Prelude.{◌≡◌, List, [], ◌∷◌, Option, Some, None}
use Rattle.grammar.specs.Form.{◌⨾◌, opt}
use Rattle.grammar.specs.Form.Form.{Tok}
use Rattle.ap_syntax.specs.declared.rules.AggElement.{AggElement}
use Rattle.ap_syntax.specs.declared.rules.Function.{Function}
use Rattle.ap_syntax.specs.declared.rules.Guard.{Guard}
use Rattle.ap_grammar.specs.declared.terminals.Terminal.TheVariants as t
use Rattle.ap_grammar.specs.Lexemes.{Lexeme}
use Rattle.ap_grammar.specs.Values.{Value, as_agg_element, collected}
use Rattle.ap_grammar.specs.Grammar.{Name, function_of}
use Rattle.ap_grammar.specs.Factored.{Rhs, call, many}
use Rattle.ap_parse.specs.declared.aggregates.Aggregate.{Aggregate}

abbrev pub IsAggElement : AggElement → List Value → Type 0
IsAggElement e vs = vs ≡ Value.agg_element e ∷ []

-- the elements among the values
abbrev pub IsAggElements : List AggElement → List Value → Type 0
IsAggElements es vs = collected as_agg_element vs ≡ es

-- elements in braces, with semicolons between them
abbrev pub braced : Rhs
braced = Tok t.OpenBrace ⨾ opt (many (call Name.AggElement) t.Semicolon) ⨾ Tok t.CloseBrace

-- the function of a token
pub record IsFunction (f : Function) (vs : List Value) : Type 0 where
  pub first : Lexeme
  pub is : vs ≡ Value.token first ∷ []
  pub function : function_of first.terminal ≡ f

-- the value of a guard, or no value
abbrev pub guarding : Option Guard → List Value
guarding None = []
guarding (Some g) = Value.right g ∷ []

-- an aggregate, which brings its first token, and the guard behind it
pub record IsAggregate (a : Aggregate) (vs : List Value) : Type 0 where
  pub first : Lexeme
  pub is : vs ≡ Value.aggregate first a.function a.elements ∷ guarding a.right
