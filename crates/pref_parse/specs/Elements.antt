-- What the functions that read elements did to the tokens.
use Rattle.std.specs.Prelude.{◌≡◌, List, [], ◌∷◌, ◌++◌, Option, Some, None}
use Rattle.grammar.specs.Form.{◌⨾◌, opt}
use Rattle.grammar.specs.Form.Form.{Tok}
use Rattle.ap_syntax.specs.declared.preferences.Element.{Element}
use Rattle.ap_syntax.specs.declared.preferences.Ranked.{Ranked}
use Rattle.ap_grammar.specs.declared.terminals.Terminal.TheVariants as t
use Rattle.ap_grammar.specs.Lexemes.{Lexeme}
use Rattle.ap_grammar.specs.Values.{Value, as_condition, as_element, as_given, as_ranked, collected, first_of, found}
use Rattle.ap_grammar.specs.Grammar.{Name}
use Rattle.ap_grammar.specs.Factored.{Rhs, call, many}
use Rattle.literal_parse.specs.Reads.{Leads}

-- the ranks among the values, the first of which brings the first token, and nothing else that an element has
pub record IsRanks (old : List Lexeme) (ranks : List Ranked) (vs : List Value) : Type 0 where
  pub first : Lexeme
  pub leads : Leads old first
  pub begins : (ws : List Value) → first_of (vs ++ ws) ≡ first
  pub is : collected as_ranked vs ≡ ranks
  pub no_given : found as_given vs ≡ None
  pub no_domain : found as_condition vs ≡ None

pub data IsOptionalGiven : Option Ranked → List Value → Type 0 where
  absent : IsOptionalGiven None []
  present : {r : Ranked} → IsOptionalGiven (Some r) (Value.given r ∷ [])

abbrev pub IsElement : Element → List Value → Type 0
IsElement e vs = vs ≡ Value.element e ∷ []

-- elements, among tokens
abbrev pub IsElements : List Element → List Value → Type 0
IsElements es vs = collected as_element vs ≡ es

abbrev pub in_braces : Rhs
in_braces = Tok t.OpenBrace ⨾ opt (many (call Name.Element) t.Semicolon) ⨾ Tok t.CloseBrace
