-- What trying all sets of a program's atoms comes to.
use Rattle.std.specs.Prelude.{◌<◌, length}
use Rattle.ap_eval.specs.AnswerSets.{IsAnswerSet}
use Rattle.ap_eval.specs.AtomSets.{AtomSet}
use Rattle.ap_syntax.specs.declared.small.Program.{Program}
use Rattle.small_optima.specs.Optimal.{IsSortedListing}
use Rattle.small_optima.specs.declared.optima.Optima.{Optima}
use Rattle.small_optima.specs.declared.optima.Optima.TheVariants.{Unsatisfiable, Listing}

-- there is no answer set, or these are the optimal ones, of which there is at least one
abbrev pub AreOptima : Program → Optima → Type 0
AreOptima p Unsatisfiable = (x : AtomSet) → IsAnswerSet p x → ⊥
AreOptima p (Listing sets) = IsSortedListing p sets.items × (0 < length sets.items)
