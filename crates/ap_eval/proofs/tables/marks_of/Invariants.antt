use Rattle.std.proofs.Common.{◌≡◌, ℕ, length, take}
use Rattle.definite.specs.Rules.{marked}
use Rattle.ground_form.specs.Sets.{has}
use Rattle.ap_eval.proofs.tables.marks_of.Given as goal

abbrev pub invariant-loop-id : goal.invariant-loop-id
invariant-loop-id l = record {
  size : length l.marks ≡ l.places;
  same : (a : ℕ) → marked l.marks a ≡ has (take l.id-index l.ids) a;
}
