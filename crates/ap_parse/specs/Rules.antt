-- What the functions that read rules did to the tokens.
use Rattle.std.specs.Prelude.{◌≡◌, false, List, [], ◌∷◌}
use Rattle.grammar.specs.Form.{◌⨾◌, opt}
use Rattle.grammar.specs.Form.Form.{Tok}
use Rattle.ap_syntax.specs.declared.programs.Statement.TheVariants as statements
use Rattle.ap_syntax.specs.declared.rules.BodyItem.{BodyItem}
use Rattle.ap_syntax.specs.declared.rules.HeadForm.{HeadForm}
use Rattle.ap_syntax.specs.declared.rules.Rule.{Rule}
use Rattle.ap_grammar.specs.declared.terminals.Terminal.TheVariants as t
use Rattle.ap_grammar.specs.Lexemes.{Lexeme}
use Rattle.ap_grammar.specs.Values.{Value, as_body, found, or_empty}
use Rattle.ap_grammar.specs.Grammar.{Name, made}
use Rattle.ap_grammar.specs.Factored.{Rhs, call}
use Rattle.literal_parse.specs.declared.cursor.Place.{Place}

abbrev pub IsRule : Rule → List Value → Type 0
IsRule r vs = vs ≡ Value.statement (statements.Rule r) ∷ []

-- a body behind `:-`, or none
abbrev pub optional_body : Rhs
optional_body = opt (Tok t.If ⨾ call Name.Body)

pub data IsOptionalBody : List BodyItem → List Value → Type 0 where
  absent : IsOptionalBody [] []
  present : {items : List BodyItem} (sign : Lexeme) → IsOptionalBody items (Value.token sign ∷ Value.body items ∷ [])

-- the rule of this head at this place, by what stands behind the head
abbrev pub IsRuleOf : Place → HeadForm → Rule → List Value → Type 0
IsRuleOf place head r vs = r ≡ record { file = place.file; at = place.at; head = head; body = or_empty (found as_body vs) }

-- a rule without head
abbrev pub IsConstraint : Rule → List Value → Type 0
IsConstraint r vs = made (Name.Rule false) vs ≡ Value.statement (statements.Rule r)
