-- Two programs that no text comes to, with one canonical text.
use Rattle.std.proofs.Common.{◌≡◌, ◌≢◌, [], ◌∷◌, map, refl}
use Rattle.std.specs.Prelude.{codes}
use Rattle.ap_syntax.specs.declared.programs.Program.{Program}
use Rattle.ap_syntax.specs.declared.programs.Statement.TheVariants as statements
use Rattle.ap_syntax.specs.Canonical.{canonical_text}
use Rattle.canonical_law.specs.Unplaced.{unplaced}

-- a name that spells the end of one statement and the beginning of another
pub one_statement : Program
one_statement = record { statements = statements.Optimize 0 0 (codes "a).\n#optimize(b") ∷ [] }

pub two_statements : Program
two_statements = record { statements = statements.Optimize 0 0 (codes "a") ∷ statements.Optimize 0 0 (codes "b") ∷ [] }

pub two_differ : map unplaced one_statement.statements ≢ map unplaced two_statements.statements
unfolding one_statement two_statements
two_differ e = absurd cc

pub same_text : canonical_text one_statement ≡ canonical_text two_statements
unfolding one_statement two_statements
same_text = refl
