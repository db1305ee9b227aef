use Rattle.std.proofs.Common.{◌≡◌, ℕ, List, length, take}
use Rattle.std.specs.Prelude.{IsTrue, Contains}
use Rattle.std.specs.List.{list_all}
use Rattle.definite.specs.Rules.{marked}
use Rattle.definite.specs.Searches.{IsSearch, Step}
use Rattle.definite.specs.declared.Rule.{Rule}
use Rattle.definite.specs.declared.search.Waits.{Waits}
use Rattle.definite.proofs.search.add_heads.Given as goal

abbrev pub invariant-loop-atom : goal.invariant-loop-atom
invariant-loop-atom l = record {
  size : length l.found.marks ≡ length l.fn.found.marks;
  more : (a : ℕ) → IsTrue (marked l.fn.found.marks a) → IsTrue (marked l.found.marks a);
  step : (rules : List Rule) (waits : Waits) → Contains rules l.rule → IsSearch rules waits l.fn.found → IsTrue (list_all (marked l.fn.found.marks) l.rule.body) → Step rules waits l.fn.found waits l.found;
  marked : IsTrue (list_all (marked l.found.marks) (take l.atom-index l.atom-items));
}
