-- What the functions that read `#program` did to the tokens.
use Rattle.std.specs.Prelude.{◌≡◌, ℕ, Bool, true, false, List, [], ◌∷◌}
use Rattle.grammar.specs.Form.{◌⨾◌, ◌∣◌}
use Rattle.grammar.specs.Form.Form.{Tok, Empty}
use Rattle.ap_syntax.specs.declared.programs.PartKind.{PartKind}
use Rattle.ap_syntax.specs.declared.programs.PartKind.TheVariants as parts
use Rattle.ap_syntax.specs.declared.programs.Statement.{Statement}
use Rattle.ap_syntax.specs.declared.programs.Statement.TheVariants as statements
use Rattle.ap_grammar.specs.declared.terminals.Terminal.TheVariants as t
use Rattle.ap_grammar.specs.Lexemes.{Lexeme}
use Rattle.ap_grammar.specs.Values.{Value}
use Rattle.ap_grammar.specs.Factored.{Rhs, base_opening, type_opening}
use Rattle.ap_parse.specs.declared.openings.Opening.{Opening}

abbrev pub IsKind : List ℕ → List Value → Type 0
IsKind k vs = vs ≡ Value.kind k ∷ []

-- what stands behind `#program`
abbrev pub part_form : Rhs
part_form = base_opening Empty ∣ type_opening Empty

-- `#program` and what stands behind it
abbrev pub opening_form : Rhs
opening_form = Tok t.Program ⨾ part_form

-- the part, by the values of its tokens and of its type
abbrev pub IsPart : PartKind → List Value → Type 0
IsPart parts.Base vs = (word dot : Lexeme) × (vs ≡ Value.token word ∷ Value.token dot ∷ [])
IsPart (parts.Kind name) vs = (word paren close dot : Lexeme) × (vs ≡ Value.token word ∷ Value.token paren ∷ Value.kind name ∷ Value.token close ∷ Value.token dot ∷ [])

-- whether a part is that of a type
abbrev pub is_of_type : PartKind → Bool
is_of_type parts.Base = false
is_of_type (parts.Kind name) = true

-- the statement of an opening
abbrev pub opening_statement : Opening → Statement
opening_statement o = statements.Part o.place.file o.place.at o.part

-- an opening, by its first token and its part
pub record IsOpening (o : Opening) (vs : List Value) : Type 0 where
  pub first : Lexeme
  pub rest : List Value
  pub values : vs ≡ Value.token first ∷ rest
  pub part : IsPart o.part rest
  pub file : o.place.file ≡ first.file
  pub at : o.place.at ≡ first.at
