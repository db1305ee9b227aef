-- Terms that may be atoms.
use Rattle.std.specs.Prelude.{◌≡◌, ℕ, List, [], ◌∷◌, Some, None, Result, Ok, Err}
use Rattle.ap_syntax.specs.declared.terms.Atom.{Atom}
use Rattle.ap_syntax.specs.declared.terms.Term.{Term}
use Rattle.ap_syntax.specs.declared.terms.Term.TheVariants as terms
use Rattle.ap_grammar.specs.Lexemes.{Lexeme}
use Rattle.ap_grammar.specs.Values.{Value}
use Rattle.literal_parse.specs.declared.error.Stop.{Stop}
use Rattle.literal_parse.specs.declared.error.Stop.TheVariants.{Syntax}
use Rattle.literal_parse.specs.declared.operand.Operand.{Operand}
use Rattle.literal_parse.specs.declared.operand.Operand.TheVariants.{Bare, Other}
use Rattle.literal_parse.specs.Reads.{Leads}

-- a name with its arguments, as a term
abbrev pub named : List ℕ → List Term → Term
named x [] = terms.Const x
named x (y ∷ ys) = terms.Fun x (y ∷ ys)

abbrev pub term_of : Atom → Term
term_of a = named a.name a.terms

abbrev pub tree_of : Operand → Term
tree_of (Bare a) = term_of a
tree_of (Other x) = x

-- the value of a term, which brings its first token
abbrev pub value_of : Lexeme → Operand → Value
value_of first (Bare a) = Value.term first (Some a) (term_of a)
value_of first (Other x) = Value.term first None x

-- the term that was read, by its value
pub record IsOperand (old : List Lexeme) (x : Operand) (vs : List Value) : Type 0 where
  pub first : Lexeme
  pub leads : Leads old first
  pub is : vs ≡ value_of first x ∷ []

-- the atom of a bare term, and else a fault
abbrev pub BareOr : Operand → Result Atom Stop → Type 0
BareOr (Bare a) r = r ≡ Ok a
BareOr (Other x) r = r ≡ Err Syntax
