use Rattle.std.proofs.Common.{◌<◌, ◌≤◌, ◌*◌, ◌+◌, ℕ, length, get_or}
use Rattle.std.specs.List.{All}
use Rattle.theory_form.specs.declared.literals.Lit.{Lit}
use Rattle.theory_form.specs.Literals.{opposite}
use Rattle.asp_store.specs.declared.watches.Watcher.{Watcher}
use Rattle.asp_store.specs.Watch.{IsRefutingAt, code, list_at}
use Rattle.asp_store.proofs.refutes.refuting_watcher.Given as goal

abbrev pub invariant-loop-l : goal.invariant-loop-l
invariant-loop-l l = (k : ℕ) (d : Lit) → k < l.l-index → 2 * (get_or l.assume k d).var.0 + 2 ≤ length l.lists → All (λ (w : Watcher). IsRefutingAt l.clauses.slots l.assume w.key → ⊥) (list_at l.lists (code (opposite (get_or l.assume k d))))
