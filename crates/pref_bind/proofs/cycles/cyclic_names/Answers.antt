-- The graph is one, and the names are those of the nodes that reach themselves.
use Rattle.std.proofs.Common.{List, ℕ, ap, subst, sym, ◌∙◌}
use Rattle.std.proofs.lemmas.Result.{IfOk-weaker}
use Rattle.components.specs.Graphs.{AreComponentNumbers, IsGraph}
use Rattle.pref_bind.specs.Cycles.{AreCyclic}
use Rattle.pref_bind.specs.Found.{cyclic_from}
use Rattle.pref_bind.specs.Stacks.{graph_of}
use Rattle.pref_bind.proofs.BoundLemmas.{bound_if}
use Rattle.pref_bind.proofs.CycleLemmas.{are_cyclic, is_graph}
use Rattle.program_form.specs.Programs.{preferences}
use Rattle.pref_bind.proofs.cycles.cyclic_names.Goals as goal

pub components-requires : goal.components-requires
components-requires c = subst IsGraph (sym c.requires.graph) (is_graph (preferences c.args.statements.now) (bound_if c.args.statements.now c.requires.bound))

pub returns : goal.returns
returns c =
    let ps = preferences c.args.statements.now in
    let numbers = subst (λ graph. AreComponentNumbers graph c.in_ok-numbers.numbers) c.requires.graph c.in_ok-numbers.ensures in
    let cyclic = are_cyclic ps (bound_if c.args.statements.now c.requires.bound) c.in_ok-numbers.numbers numbers in
    IfOk-weaker c.names_on_cycles.result _ (AreCyclic ps) (λ names e.
    subst (AreCyclic ps) (sym (e ∙ (ap (λ graph. cyclic_from graph c.as_slice.result.now 0 ps) c.requires.graph ∙ ap (λ (ns : List ℕ). cyclic_from (graph_of ps) ns 0 ps) c.as_slice.ensures))) cyclic) c.names_on_cycles.ensures
