-- What a look at all clauses tells.
use Rattle.std.specs.Prelude.{Bool, List, Option}
use Rattle.theory_form.specs.declared.literals.Lit.{Lit}
use Rattle.asp_store.specs.declared.plain.Open.{Open}
use Rattle.asp_store.specs.declared.plain.Open.TheVariants.{Nothing, Conflict, Implied}
use Rattle.asp_store.specs.Store.{AllSettled, IsConflict, IsReason}

abbrev pub ShowsOpen : List (Option (List Lit)) → List (Option Bool) → Open → Type 0
ShowsOpen cs a Nothing = AllSettled cs a
ShowsOpen cs a (Conflict id) = IsConflict cs a id.0
ShowsOpen cs a (Implied id l) = IsReason cs a l id.0
