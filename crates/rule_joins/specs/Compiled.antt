-- What a step of compiling a term does.
use Rattle.std.specs.Prelude.{◌≡◌, ◌+◌, List, [], ◌∷◌, ◌++◌}
use Rattle.ap_syntax.specs.declared.terms.Term as written
use Rattle.ap_term.specs.declared.shape.TermId.{TermId}
use Rattle.ap_term.specs.Table.{IsIdOf, value_at}
use Rattle.ap_term.specs.Value.{Value}
use Rattle.join_form.specs.declared.pattern.Pattern.{Pattern}
use Rattle.join_form.specs.declared.pattern.Pattern.TheVariants.{Place, Known}
use Rattle.join_form.specs.declared.step.Step.{Step}
use Rattle.rule_form.specs.Readings.{read_term}
use Rattle.rule_joins.specs.Chains.{first_of}
use Rattle.rule_joins.specs.Drafts.{Drafted}
use Rattle.rule_joins.specs.Terms.{IsTermPlan}

-- the pattern is this value of the table
abbrev pub IsKnownAs : List Value → Value → Pattern → Type 0
IsKnownAs table v pattern = (id : TermId) × (pattern ≡ Known id) × IsIdOf table id × (value_at table id ≡ v)

-- the pattern is a new place, and the step is behind the others
abbrev pub IsAtNewPlace : Drafted → Drafted → Step → Pattern → Type 0
IsAtNewPlace old new step pattern = (pattern ≡ Place old.places)
    × (new ≡ record { variables = old.variables; places = old.places + 1; steps = old.steps ++ step ∷ [] })

-- where the first operand of the term has this pattern, the term has that one
abbrev pub IsApplied : written.Term → Pattern → Pattern → List Value → Drafted → List Value → Drafted → Type 0
IsApplied term first pattern old from new to = (table : List Value) (draft : Drafted)
    → IsTermPlan (read_term (first_of term)) first table draft old from
    → IsTermPlan (read_term term) pattern table draft new to
