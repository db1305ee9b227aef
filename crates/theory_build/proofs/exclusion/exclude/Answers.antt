use Rattle.std.proofs.Common.{◌≡◌, ◌∙◌, ◌++◌, ◌∷◌, [], ap, map, Some, List}
use Rattle.std.specs.List.{range_with_len}
use Rattle.theory_form.specs.declared.literals.Lit.{Lit}
use Rattle.theory_form.specs.Theories.{TheoryView}
use Rattle.theory_build.specs.Exclusion.{differs_at}
use Rattle.theory_build.proofs.ExclusionLemmas.{has_search, exclusion_made}
use Rattle.theory_build.proofs.exclusion.exclude.Goals as goal

pub search_guard-requires : goal.search_guard-requires
search_guard-requires c = has_search c.args.t.now c.requires.base

pub returns-clause-ok : goal.returns-clause-ok
returns-clause-ok c =
    let t = c.args.t.now in
    let differences = map (differs_at c.args.set.now) (range_with_len 1 c.base_atoms-atoms.result) in
    let lits =
    c.in_ok-push_differences.ensures
    ∙ ap (λ (ls : List Lit). ls ++ differences) c.in_ok-lits.ensures.items
    ∙ ap (λ (l : Lit). l ∷ differences) c.opposite.ensures
    in
    let excluded =
    c.in_ok-clause.ensures
    ∙ exclusion_made t c.args.set.now c.search_guard.result c.push_differences.new.lits.items c.base_atoms-atoms.result c.base_atoms-atoms.ensures.theory
    c.search_guard.ensures.guard c.search_guard.ensures.positive c.base_atoms-atoms.ensures.count lits
    in
    c.in_ok-id.ensures.ok ∙ ap (λ (x : List Lit). record t { clauses = t.clauses ++ Some x ∷ [] }) excluded
