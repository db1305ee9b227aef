-- What the functions that read atoms, relations, literals and conditions did to the tokens.
use Rattle.std.specs.Prelude.{◌≡◌, false, List, [], ◌∷◌, Option, Some, None}
use Rattle.grammar.specs.Takes.{NotStarts}
use Rattle.ap_syntax.specs.declared.terms.Atom.{Atom}
use Rattle.ap_syntax.specs.declared.terms.Literal.{Literal}
use Rattle.ap_syntax.specs.declared.terms.Rel.{Rel}
use Rattle.ap_syntax.specs.declared.terms.Rel.TheVariants.{Eq, Ne, Lt, Le, Gt, Ge}
use Rattle.ap_grammar.specs.declared.terminals.Terminal.{Terminal}
use Rattle.ap_grammar.specs.declared.terminals.Terminal.TheVariants as t
use Rattle.ap_grammar.specs.Lexemes.{Lexeme}
use Rattle.ap_grammar.specs.Values.{Value}
use Rattle.ap_grammar.specs.Grammar.{Name}
use Rattle.ap_grammar.specs.Factored.{Part, call, factored}
use Rattle.ap_grammar.specs.Tables.{tables}
use Rattle.literal_parse.specs.Reads.{Leads}

-- one value, which brings the first token
pub record Brings (old : List Lexeme) (value : Lexeme → Value) (vs : List Value) : Type 0 where
  pub first : Lexeme
  pub leads : Leads old first
  pub makes : vs ≡ value first ∷ []

abbrev pub IsAtom : List Lexeme → Atom → List Value → Type 0
IsAtom old a vs = Brings old (λ first. Value.atom first a) vs

abbrev pub IsLiteral : List Lexeme → Literal → List Value → Type 0
IsLiteral old l vs = Brings old (λ first. Value.literal first l) vs

abbrev pub IsLiterals : List Literal → List Value → Type 0
IsLiterals ls vs = vs ≡ Value.literals ls ∷ []

-- ---- relations

pub data IsRel : Terminal → Rel → Type 0 where
  equal : IsRel t.Equal Eq
  same : IsRel t.Same Eq
  unequal : IsRel t.Unequal Ne
  less : IsRel t.Less Lt
  at_most : IsRel t.AtMost Le
  greater : IsRel t.Greater Gt
  at_least : IsRel t.AtLeast Ge

-- the relation of a sign, or nothing for another token
abbrev pub RelOf : Terminal → Option Rel → Type 0
RelOf k (Some r) = IsRel k r
RelOf k None = tables.first (Part.Of Name.Relation) k ≡ false

-- a sign was read
pub record IsSign (old new : List Lexeme) (r : Rel) : Type 0 where
  pub token : Lexeme
  pub is : old ≡ token ∷ new
  pub kind : IsRel token.terminal r

abbrev pub Relations : List Lexeme → List Lexeme → Option Rel → Type 0
Relations old new (Some r) = IsSign old new r
Relations old new None = (new ≡ old) × NotStarts factored tables (call Name.Relation) old

-- ---- conditions

abbrev pub IsCondition : List Literal → List Value → Type 0
IsCondition ls vs = vs ≡ Value.condition ls ∷ []

-- the literals of a condition, or none where there is no colon
pub data IsOptionalCondition : List Literal → List Value → Type 0 where
  absent : IsOptionalCondition [] []
  present : {ls : List Literal} → IsOptionalCondition ls (Value.condition ls ∷ [])
