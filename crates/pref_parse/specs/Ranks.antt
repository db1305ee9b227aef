-- What the functions that read ranks did to the tokens.
use Rattle.std.specs.Prelude.{◌≡◌, List, [], ◌∷◌, None}
use Rattle.grammar.specs.Form.{◌⨾◌}
use Rattle.grammar.specs.Form.Form.{Tok}
use Rattle.ap_syntax.specs.declared.terms.Term.{Term}
use Rattle.ap_syntax.specs.declared.preferences.Ranked.{Ranked}
use Rattle.ap_syntax.specs.declared.preferences.Target.{Target}
use Rattle.ap_grammar.specs.declared.terminals.Terminal.TheVariants as t
use Rattle.ap_grammar.specs.Lexemes.{Lexeme}
use Rattle.ap_grammar.specs.Values.{Value, as_target, as_term, collected, found}
use Rattle.ap_grammar.specs.Grammar.{Name, or_nothing}
use Rattle.ap_grammar.specs.Factored.{Rhs, call, ranked_made}
use Rattle.literal_parse.specs.Literals.{Brings}
use Rattle.pref_parse.specs.declared.mixed.Mixed.{Mixed}
use Rattle.pref_parse.specs.Mixed.{value_of}

abbrev pub IsRanked : List Lexeme → Ranked → List Value → Type 0
IsRanked old r vs = Brings old (λ first. Value.ranked first r) vs

abbrev pub IsTarget : List Lexeme → Target → List Value → Type 0
IsTarget old x vs = Brings old (λ first. Value.target first x) vs

-- behind the first term or formula
abbrev pub IsRankedRest : Mixed → Ranked → List Value → Type 0
IsRankedRest mixed r vs = (first : Lexeme) → ranked_made (value_of first mixed ∷ vs) ≡ Value.ranked first r

-- another weight
abbrev pub weight_item : Rhs
weight_item = Tok t.Comma ⨾ call Name.Term

-- the first weight, and those among the values, which have no target
pub record IsWeights (first : Term) (weights : List Term) (vs : List Value) : Type 0 where
  pub is : weights ≡ first ∷ collected as_term vs
  pub none : found as_target vs ≡ None

-- the first weight, and the other weights and the target among the values, of which there is one or more
pub record IsWeighed (first : Term) (r : Ranked) (vs : List Value) : Type 0 where
  pub is : r ≡ record { weights = first ∷ collected as_term vs; target = or_nothing (found as_target vs) }
  pub some : vs ≡ [] → ⊥
