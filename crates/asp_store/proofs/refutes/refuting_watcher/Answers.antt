use Rattle.std.proofs.Common.{◌≤◌, ◌*◌, ◌+◌, length, arith}
use Rattle.std.specs.List.{All}
use Rattle.theory_form.specs.declared.literals.Lit.{Lit}
use Rattle.theory_form.specs.Literals.{opposite}
use Rattle.asp_store.specs.declared.watches.Watcher.{Watcher}
use Rattle.asp_store.specs.Watch.{IsRefutingAt, code, list_at}
use Rattle.asp_store.proofs.ExamineLemmas.{zero_lit}
use Rattle.asp_store.proofs.RefuteLemmas.{each_more}
use Rattle.asp_store.proofs.refutes.refuting_watcher.Goals as goal

pub loop-l-preserved : goal.loop-l-preserved
loop-l-preserved c =
    each_more (λ (l : Lit). 2 * l.var.0 + 2 ≤ length c.args.lists.now → All (λ (w : Watcher). IsRefutingAt c.args.clauses.now.slots c.args.assume.now w.key → ⊥) (list_at c.args.lists.now (code (opposite l)))) c.args.assume.now c.loop-l.l-index zero_lit c.loop-l-test.true c.loop-l.invariant
    (rw c.opposite.ensures at c.in_default.ensures)

pub returns : goal.returns
returns c = λ k d within. let low = c.loop-l-test.false in c.loop-l.invariant k d (omega (arith, low, within))
