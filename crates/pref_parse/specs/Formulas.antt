-- What the functions that read formulas did to the tokens.
use Rattle.std.specs.Prelude.{◌≡◌, List, [], ◌∷◌, ◌++◌}
use Rattle.grammar.specs.Form.{◌⨾◌, ◌∣◌}
use Rattle.grammar.specs.Form.Form.{Tok}
use Rattle.ap_syntax.specs.declared.terms.Atom.{Atom}
use Rattle.ap_syntax.specs.declared.preferences.Formula.{Formula}
use Rattle.ap_syntax.specs.declared.preferences.Formula.TheVariants as formulas
use Rattle.ap_grammar.specs.declared.terminals.Terminal.{Terminal}
use Rattle.ap_grammar.specs.declared.terminals.Terminal.TheVariants as t
use Rattle.ap_grammar.specs.Lexemes.{Lexeme}
use Rattle.ap_grammar.specs.Values.{Value}
use Rattle.ap_grammar.specs.Grammar.{Name, conjunction_of, disjunction_of}
use Rattle.ap_grammar.specs.Factored.{Rhs, call}
use Rattle.literal_parse.specs.Reads.{Leads}
use Rattle.literal_parse.specs.Literals.{Brings}

abbrev pub IsFormula : List Lexeme → Formula → List Value → Type 0
IsFormula old f vs = Brings old (λ first. Value.formula first f) vs

-- an atom, or a formula in parentheses
abbrev pub unit : Rhs
unit = call Name.Atom ∣ Tok t.Open ⨾ call Name.Formula ⨾ Tok t.Close

pub data IsUnit (old : List Lexeme) : Formula → List Value → Type 0 where
  atom : {first : Lexeme} {a : Atom} → Leads old first → IsUnit old (formulas.Atom a) (Value.atom first a ∷ [])
  group : {paren inner close : Lexeme} {f : Formula} → Leads old paren → IsUnit old f (Value.token paren ∷ Value.formula inner f ∷ Value.token close ∷ [])

-- formulas, each behind a sign of this kind
pub data Joins (sign : Terminal) : List Value → List Formula → Type 0 where
  none : Joins sign [] []
  more : {token first : Lexeme} {f : Formula} {vs : List Value} {fs : List Formula} → token.terminal ≡ sign → Joins sign vs fs → Joins sign (Value.token token ∷ Value.formula first f ∷ vs) (f ∷ fs)

-- the first formula and those behind the signs, joined
pub record IsJoined (sign : Terminal) (join : List Formula → Formula) (first f : Formula) (vs : List Value) : Type 0 where
  pub others : List Formula
  pub values : Joins sign vs others
  pub is : f ≡ join (first ∷ others)

abbrev pub IsConjunction : Formula → Formula → List Value → Type 0
IsConjunction first f vs = IsJoined t.And conjunction_of first f vs

abbrev pub IsDisjunction : Formula → Formula → List Value → Type 0
IsDisjunction first f vs = IsJoined t.Or disjunction_of first f vs

-- the conjunction that begins with the first formula, and then the disjunction that begins with the conjunction
pub record IsFormulaRest (first f : Formula) (vs : List Value) : Type 0 where
  pub middle : Formula
  pub members : List Value
  pub conjunctions : List Value
  pub is : vs ≡ members ++ conjunctions
  pub conjunction : IsConjunction first middle members
  pub disjunction : IsDisjunction middle f conjunctions
