-- What the functions that read terms did to the tokens.
use Rattle.std.specs.Prelude.{◌≡◌, List, [], ◌∷◌, ◌++◌, Option, Some, None, Result, Ok, Err}
use Rattle.ap_syntax.specs.declared.terms.ProductOp.{ProductOp}
use Rattle.ap_syntax.specs.declared.terms.ProductOp.TheVariants as products
use Rattle.ap_syntax.specs.declared.terms.SumOp.{SumOp}
use Rattle.ap_syntax.specs.declared.terms.SumOp.TheVariants as sums
use Rattle.ap_syntax.specs.declared.terms.Term.{Term}
use Rattle.ap_syntax.specs.declared.terms.Term.TheVariants as terms
use Rattle.ap_grammar.specs.declared.terminals.Terminal.{Terminal}
use Rattle.ap_grammar.specs.declared.terminals.Terminal.TheVariants as t
use Rattle.ap_grammar.specs.Lexemes.{Lexeme}
use Rattle.ap_grammar.specs.Values.{Value, as_term, collected}
use Rattle.ap_grammar.specs.Grammar.{Name, group}
use Rattle.ap_grammar.specs.Factored.{call}
use Rattle.literal_parse.specs.declared.error.Stop.{Stop}
use Rattle.literal_parse.specs.declared.error.Stop.TheVariants.{Memory}
use Rattle.literal_parse.specs.declared.operand.Operand.TheVariants.{Other}
use Rattle.literal_parse.specs.Reads.{IsNext, Lacks, Reads}
use Rattle.literal_parse.specs.Operands.{IsOperand}

-- ---- operators

abbrev pub sum_terminal : SumOp → Terminal
sum_terminal sums.Plus = t.Plus
sum_terminal sums.Less = t.Minus

abbrev pub Signs : List Lexeme → List Lexeme → Option SumOp → Type 0
Signs old new (Some op) = IsNext (sum_terminal op) old new
Signs old new None = (new ≡ old) × Lacks t.Plus old × Lacks t.Minus old

abbrev pub product_terminal : ProductOp → Terminal
product_terminal products.Times = t.Times
product_terminal products.Over = t.Slash
product_terminal products.Rest = t.Backslash

abbrev pub Factors : List Lexeme → List Lexeme → Option ProductOp → Type 0
Factors old new (Some op) = IsNext (product_terminal op) old new
Factors old new None = (new ≡ old) × Lacks t.Times old × Lacks t.Slash old × Lacks t.Backslash old

-- ---- numbers, strings, variables and `_`

pub record IsNotSimple (ts : List Lexeme) : Type 0 where
  pub number : Lacks t.Number ts
  pub string : Lacks t.String ts
  pub variable : Lacks t.Variable ts
  pub any : Lacks t.Any ts

abbrev pub Simple : List Lexeme → List Lexeme → Result (Option Term) Stop → Type 0
Simple old new (Ok (Some x)) = Reads (call Name.Primary) (IsOperand old) old new (Ok (Other x))
Simple old new (Ok None) = (new ≡ old) × IsNotSimple old
Simple old new (Err e) = e ≡ Memory

-- ---- terms in parentheses

-- behind a parenthesis
abbrev pub IsGroup : Term → List Value → Type 0
IsGroup x vs = (first : Lexeme) → group first vs ≡ Value.term first None x

-- behind the first member and its comma
pub record IsTuple (first x : Term) (vs : List Value) : Type 0 where
  pub is : x ≡ terms.Tuple (first ∷ collected as_term vs)
  pub some : vs ≡ [] → ⊥

-- the arguments, of which there is one or more where there are parentheses
abbrev pub IsArguments : List Term → List Value → Type 0
IsArguments [] vs = vs ≡ []
IsArguments (x ∷ xs) vs = vs ≡ Value.terms (x ∷ xs) ∷ []

-- the terms before, and those among the values, of which there is one or more
pub record IsTerms (before xs : List Term) (vs : List Value) : Type 0 where
  pub all : before ++ collected as_term vs ≡ xs
  pub some : collected as_term vs ≡ [] → ⊥
