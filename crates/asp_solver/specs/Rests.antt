-- The rest of a solver behind its log.
use Rattle.asp_solver.specs.declared.kept.Kept.{Kept}
use Rattle.asp_solver.specs.Lent.{RestView}

-- what is kept beside the log
abbrev pub rest_of : Kept → RestView
rest_of kept = kept.rest
