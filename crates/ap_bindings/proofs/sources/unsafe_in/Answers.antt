use Rattle.std.proofs.Common.{refl, sym, subst, ℕ, List, ◌++◌, map, Option}
use Rattle.std.specs.Prelude.{flat_map}
use Rattle.ap_bindings.specs.declared.search.Failing.{Failing}
use Rattle.ap_pieces.specs.Pieces.{rule_source, statement_sources}
use Rattle.ap_bindings.specs.Unsafe.{definite_by, IsFirstUnsafe}
use Rattle.ap_bindings.proofs.SourceLemmas.{more_sources}
use Rattle.ap_bindings.proofs.sources.unsafe_in.Goals as goal

pub returns : goal.returns
returns c =
    let rules = map rule_source c.args.rules.now in
    let statements = flat_map statement_sources c.args.statements.now in
    subst (λ (f : Option (Failing (List ℕ))). IsFirstUnsafe (definite_by c.args.safe.now) (rules ++ statements) f) (sym c.earlier.ensures)
    (more_sources (definite_by c.args.safe.now) rules statements (rules ++ statements) c.in_ok-first.first c.in_ok-other.other refl c.in_ok-first.ensures c.in_ok-other.ensures)
