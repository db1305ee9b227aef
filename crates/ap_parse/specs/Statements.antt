-- What the functions that read statements did to the tokens.
use Rattle.std.specs.Prelude.{◌≡◌, ℕ, List, [], ◌∷◌, Option, Some, None}
use Rattle.grammar.specs.Form.{◌⨾◌}
use Rattle.grammar.specs.Form.Form.{Tok}
use Rattle.ap_syntax.specs.declared.terms.Term.{Term}
use Rattle.ap_syntax.specs.declared.programs.Statement.{Statement}
use Rattle.ap_grammar.specs.declared.terminals.Terminal.TheVariants as t
use Rattle.ap_grammar.specs.Lexemes.{Lexeme, decimal}
use Rattle.ap_grammar.specs.Values.{Value}
use Rattle.ap_grammar.specs.Grammar.{Name}
use Rattle.ap_grammar.specs.Factored.{Rhs, call}

abbrev pub IsStatement : Statement → List Value → Type 0
IsStatement s vs = vs ≡ Value.statement s ∷ []

-- a number, by its token
abbrev pub IsNumber : ℕ → List Value → Type 0
IsNumber n vs = (token : Lexeme) × (n ≡ decimal token.bytes) × (vs ≡ Value.token token ∷ [])

-- ---- predicates: a name and an arity

abbrev pub signature : Rhs
signature = call Name.Ident ⨾ Tok t.Slash ⨾ Tok t.Number

pub record IsSignature (s : List ℕ × ℕ) (vs : List Value) : Type 0 where
  pub name : Lexeme
  pub slash : Lexeme
  pub number : Lexeme
  pub is : vs ≡ Value.token name ∷ Value.token slash ∷ Value.token number ∷ []
  pub named : s.0 ≡ name.bytes
  pub arity : s.1 ≡ decimal number.bytes

-- a predicate, or none
pub data IsOptionalSignature : Option (List ℕ × ℕ) → List Value → Type 0 where
  absent : IsOptionalSignature None []
  present : {s : List ℕ × ℕ} {vs : List Value} → IsSignature s vs → IsOptionalSignature (Some s) vs

-- ---- constants

-- a term that is no name with arguments, or not read as one
abbrev pub IsConstant : Term → List Value → Type 0
IsConstant x vs = (first : Lexeme) × (vs ≡ Value.term first None x ∷ [])
