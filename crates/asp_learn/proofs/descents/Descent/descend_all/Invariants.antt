use Rattle.std.proofs.Common.{◌≡◌, Bool, List, take, true}
use Rattle.std.specs.List.{All}
use Rattle.asp_learn.specs.Descents.{IsAtRest, StaysWithin}
use Rattle.asp_learn.specs.Marked.{AreMarked, has}
use Rattle.asp_learn.proofs.descents.Descent.descend_all.Given as goal

abbrev pub invariant-loop-l : goal.invariant-loop-l
invariant-loop-l l = record {
  rest : IsAtRest l.s l.self;
  met : All (λ m. has l.self.seen.items m.var.0 ≡ true) (take l.l-index l.lits);
  within : StaysWithin l.s (take l.l-index l.lits) l.fn.self l.self;
  marked : (base : List Bool) → AreMarked l.fn.self.seen.items base l.fn.marks → AreMarked l.self.seen.items base l.marks;
}
