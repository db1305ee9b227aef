use Rattle.std.proofs.Common.{◌≡◌, ℕ, take}
use Rattle.std.specs.Prelude.{Contains, slice_get, Some}
use Rattle.definite.specs.declared.Rule.{Rule}
use Rattle.definite.specs.Searches.{IsSettled, Step}
use Rattle.definite.proofs.search.settle_all.Given as goal

abbrev pub invariant-loop-k : goal.invariant-loop-k
invariant-loop-k l = record {
  step : Step l.rules l.fn.waits l.fn.found l.waits l.found;
  settled : (k : ℕ) (rule : Rule) → Contains (take l.k-index l.list) k → slice_get l.rules k ≡ Some rule → IsSettled l.waits l.found k rule;
}
