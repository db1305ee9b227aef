-- What the functions that read choices did to the tokens.
use Rattle.std.specs.Prelude.{◌≡◌, List, [], ◌∷◌, Option, None}
use Rattle.grammar.specs.Form.{◌⨾◌, opt}
use Rattle.grammar.specs.Form.Form.{Tok}
use Rattle.ap_syntax.specs.declared.rules.ChoiceElement.{ChoiceElement}
use Rattle.ap_syntax.specs.declared.rules.Guard.{Guard}
use Rattle.ap_syntax.specs.declared.rules.HeadForm.{HeadForm}
use Rattle.ap_syntax.specs.declared.rules.HeadForm.TheVariants as heads
use Rattle.ap_grammar.specs.declared.terminals.Terminal.TheVariants as t
use Rattle.ap_grammar.specs.Lexemes.{Lexeme}
use Rattle.ap_grammar.specs.Values.{Value, as_choice_element, as_left, as_right, collected, found}
use Rattle.ap_grammar.specs.Grammar.{Name}
use Rattle.ap_grammar.specs.Factored.{Rhs, call, many}
use Rattle.literal_parse.specs.Reads.{Leads}

abbrev pub IsChoiceElement : ChoiceElement → List Value → Type 0
IsChoiceElement e vs = vs ≡ Value.choice_element e ∷ []

-- ---- elements in braces

-- elements with semicolons between them, or none
abbrev pub listed : Rhs
listed = opt (many (call Name.ChoiceElement) t.Semicolon)

abbrev pub braced : Rhs
braced = Tok t.OpenBrace ⨾ listed ⨾ Tok t.CloseBrace

-- no guard stands among the values
pub record IsUnguarded (vs : List Value) : Type 0 where
  pub left : found as_left vs ≡ None
  pub right : found as_right vs ≡ None

-- the elements among the values, where no guard is
pub record IsListed (elements : List ChoiceElement) (vs : List Value) : Type 0 where
  pub are : elements ≡ collected as_choice_element vs
  pub unguarded : IsUnguarded vs

-- the elements behind the brace
pub record IsBraced (old : List Lexeme) (elements : List ChoiceElement) (vs : List Value) : Type 0 where
  pub brace : Lexeme
  pub leads : Leads old brace
  pub others : List Value
  pub is : vs ≡ Value.token brace ∷ others
  pub listed : IsListed elements others

-- ---- choices

-- the choice behind a guard or none, by its elements and the guard on its right
pub record IsChoice (old : List Lexeme) (guard : Option Guard) (h : HeadForm) (vs : List Value) : Type 0 where
  pub brace : Lexeme
  pub leads : Leads old brace
  pub others : List Value
  pub is : vs ≡ Value.token brace ∷ others
  pub makes : h ≡ heads.Choice guard (collected as_choice_element others) (found as_right others)
  pub unguarded : found as_left others ≡ None
