use Rattle.std.proofs.Common.{◌≡◌, ◌+◌, ◌*◌, ◌∷◌, ℕ, Bool, List, [], length, not, reverse, true}
use Rattle.std.specs.Prelude.{count_by}
use Rattle.asp_learn.specs.Descents.{IsDescended, StaysWithin}
use Rattle.asp_learn.specs.Marked.{AreMarked, has}
use Rattle.asp_learn.proofs.descents.Descent.descend.Given as goal

abbrev pub invariant-loop-frame : goal.invariant-loop-frame
invariant-loop-frame l = record {
  descended : IsDescended l.s (reverse l.self.path.items) l.self;
  met : has l.self.seen.items l.fn.l.var.0 ≡ true;
  kept : (v : ℕ) → has l.fn.self.seen.items v ≡ true → has l.self.seen.items v ≡ true;
  within : StaysWithin l.s (l.fn.l ∷ []) l.fn.self l.self;
  marked : (base : List Bool) → AreMarked l.fn.self.seen.items base l.fn.marks → AreMarked l.self.seen.items base l.marks;
}

abbrev pub decreases-loop-frame : goal.decreases-loop-frame
decreases-loop-frame l = 2 * count_by not l.marks + length l.self.path.items
