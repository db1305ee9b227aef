-- What the functions that read bodies did to the tokens.
use Rattle.std.specs.Prelude.{◌≡◌, ◌⊎◌, Bool, true, false, List, [], ◌∷◌, Option, Result, Ok, Err}
use Rattle.grammar.specs.Form.{◌⨾◌, opt}
use Rattle.grammar.specs.Form.Form.{Tok}
use Rattle.grammar.specs.Takes.{Takes, Fails}
use Rattle.ap_syntax.specs.declared.rules.BodyItem.{BodyItem}
use Rattle.ap_syntax.specs.declared.rules.BodyItem.TheVariants as items
use Rattle.ap_syntax.specs.declared.terms.Atom.{Atom}
use Rattle.ap_syntax.specs.declared.terms.Rel.{Rel}
use Rattle.ap_syntax.specs.declared.terms.Term.{Term}
use Rattle.ap_grammar.specs.declared.terminals.Terminal.{Terminal}
use Rattle.ap_grammar.specs.declared.terminals.Terminal.TheVariants as t
use Rattle.ap_grammar.specs.Lexemes.{Lexeme}
use Rattle.ap_grammar.specs.Values.{Class, Value, as_body, found, or_empty}
use Rattle.ap_grammar.specs.Grammar.{Name}
use Rattle.ap_grammar.specs.Factored.{Rhs, call, core_made, factored, negated_made, next_item}
use Rattle.ap_grammar.specs.Tables.{tables}
use Rattle.ap_parse.specs.declared.bodies.Core.{Core}
use Rattle.ap_parse.specs.declared.bodies.Core.TheVariants as cores
use Rattle.literal_parse.specs.declared.error.Stop.{Stop}
use Rattle.literal_parse.specs.declared.error.Stop.TheVariants.{Memory, Syntax}
use Rattle.literal_parse.specs.declared.operand.Operand.{Operand}
use Rattle.literal_parse.specs.declared.operand.Operand.TheVariants.{Bare, Other}
use Rattle.literal_parse.specs.Operands.{value_of}
use Rattle.literal_parse.specs.Reads.{Lacks, Leads}

-- ---- literals and aggregates

-- what may stand behind a term hangs on whether it may be an atom
abbrev pub kind_of : Operand → Class
kind_of (Bare a) = Class.Bare
kind_of (Other x) = Class.Other

-- the value of a literal, which brings its first token, or of an aggregate
abbrev pub core_value : Lexeme → Core → Value
core_value first (cores.Literal l) = Value.literal first l
core_value first (cores.Aggregate negated left a) = Value.item (items.Agg negated left a.function a.elements a.right)

pub record IsCore (old : List Lexeme) (x : Core) (vs : List Value) : Type 0 where
  pub first : Lexeme
  pub leads : Leads old first
  pub is : vs ≡ core_value first x ∷ []

-- behind a term
abbrev pub IsBehind : Operand → Core → List Value → Type 0
IsBehind left x vs = (first : Lexeme) → core_made (value_of first left ∷ vs) ≡ core_value first x

-- behind a term and a relation
abbrev pub IsRelated : Term → Rel → Core → List Value → Type 0
IsRelated left r x vs = (first : Lexeme) (name : Option Atom) → core_made (Value.term first name left ∷ Value.relation r ∷ vs) ≡ core_value first x

-- behind `not`
abbrev pub IsNegated : Core → List Value → Type 0
IsNegated x vs = (first : Lexeme) → core_made (Value.token first ∷ vs) ≡ core_value first x

-- behind `not` and a term
abbrev pub IsNegatedBehind : Operand → Core → List Value → Type 0
IsNegatedBehind left x vs = (first : Lexeme) → IsNegated x (negated_made (value_of first left ∷ vs) ∷ [])

-- ---- items

-- What may stand behind an item: a separator and further items, or nothing. Behind a condition a comma is no separator.
abbrev pub behind_item : BodyItem → Rhs
behind_item (items.All at l ls) = opt (Tok t.Semicolon ⨾ call Name.Body)
behind_item i = next_item

-- An item was read: what comes of the tokens behind it comes of the body that it begins.
pub record Begins (old new : List Lexeme) (i : BodyItem) : Type 0 where
  pub takes : (end : List Lexeme) (vs : List Value) → Takes factored tables (behind_item i) new end vs → Takes factored tables (call Name.Body) old end (Value.body (i ∷ or_empty (found as_body vs)) ∷ [])
  pub fails : (end : List Lexeme) → Fails factored tables (behind_item i) new end → Fails factored tables (call Name.Body) old end

pub data ReadsItem (old new : List Lexeme) : Result BodyItem Stop → Type 0 where
  ok : {i : BodyItem} → Begins old new i → ReadsItem old new (Ok i)
  syntax : Fails factored tables (call Name.Body) old new → ReadsItem old new (Err Syntax)
  memory : ReadsItem old new (Err Memory)

-- the separators behind an item
abbrev pub IsSeparator : BodyItem → Terminal → Type 0
IsSeparator (items.All at l ls) k = k ≡ t.Semicolon
IsSeparator i k = (k ≡ t.Semicolon) ⊎ (k ≡ t.Comma)

pub record IsSeparated (i : BodyItem) (old new : List Lexeme) : Type 0 where
  pub token : Lexeme
  pub is : old ≡ token ∷ new
  pub kind : IsSeparator i token.terminal

-- no separator comes next
abbrev pub Ends : BodyItem → List Lexeme → Type 0
Ends i ts = (k : Terminal) → IsSeparator i k → Lacks k ts

abbrev pub Separates : BodyItem → List Lexeme → List Lexeme → Bool → Type 0
Separates i old new true = IsSeparated i old new
Separates i old new false = (new ≡ old) × Ends i old

-- ---- bodies

abbrev pub IsBody : List BodyItem → List Value → Type 0
IsBody is vs = vs ≡ Value.body is ∷ []
