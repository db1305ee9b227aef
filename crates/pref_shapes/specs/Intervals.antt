-- Intervals in what stands in an element outside its `:` part.
use Rattle.std.specs.Prelude.{Bool, true, false, ◌||◌, List, Option, Some, None}
use Rattle.std.specs.List.{list_any}
use Rattle.ap_syntax.specs.declared.preferences.Element.{Element}
use Rattle.ap_syntax.specs.declared.preferences.Formula.{Formula, fold-Formula}
use Rattle.ap_syntax.specs.declared.preferences.Formula.TheOpen.{Formula-F}
use Rattle.ap_syntax.specs.declared.preferences.Ranked.{Ranked}
use Rattle.ap_syntax.specs.declared.preferences.Target.{Target}
use Rattle.ap_syntax.specs.declared.preferences.Target.TheVariants.{For, Name}
use Rattle.ap_syntax.specs.declared.terms.Term.{Term, fold-Term}
use Rattle.ap_syntax.specs.declared.terms.Term.TheOpen.{Term-F}

abbrev pub some_of : List Bool → Bool
some_of parts = list_any (λ part. part) parts

-- one level of a term, where it is known which of its parts have an interval
abbrev pub term_step : Term-F Bool → Bool
term_step (Term-F.Int number) = false
term_step (Term-F.Str text) = false
term_step (Term-F.Const name) = false
term_step (Term-F.Var name) = false
term_step Term-F.Any = false
term_step (Term-F.Fun name parts) = some_of parts
term_step (Term-F.Tuple parts) = some_of parts
term_step (Term-F.Minus part) = part
term_step (Term-F.Sum left op right) = right || left
term_step (Term-F.Product left op right) = right || left
term_step (Term-F.Range low high) = true

-- whether an interval stands in a term
abbrev pub has_interval : Term → Bool
has_interval = fold-Term Bool term_step

abbrev pub formula_step : Formula-F Bool → Bool
formula_step (Formula-F.Atom atom) = list_any has_interval atom.terms
formula_step (Formula-F.Not part) = part
formula_step (Formula-F.And parts) = some_of parts
formula_step (Formula-F.Or parts) = some_of parts

-- whether one stands in an atom of a formula
abbrev pub formula_has_interval : Formula → Bool
formula_has_interval = fold-Formula Bool formula_step

abbrev pub target_has_interval : Target → Bool
target_has_interval (For formula) = formula_has_interval formula
target_has_interval (Name name) = false

-- in the weights, or behind them
abbrev pub ranked_has_interval : Ranked → Bool
ranked_has_interval ranked = list_any has_interval ranked.weights || target_has_interval ranked.target

abbrev pub given_has_interval : Option Ranked → Bool
given_has_interval (Some ranked) = ranked_has_interval ranked
given_has_interval None = false

-- in a rank, or behind `||`
abbrev pub element_has_interval : Element → Bool
element_has_interval e = list_any ranked_has_interval e.ranks || given_has_interval e.given
