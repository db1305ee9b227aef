use Rattle.std.proofs.Common.{◌≡◌, ℕ, ◌<◌, ◌&&◌, nat_lt}
use Rattle.std.specs.Prelude.{All}
use Rattle.ground_form.specs.Sets.{has, IsAscending}
use Rattle.ground_form.specs.declared.atoms.AtomId.{AtomId}
use Rattle.definite.specs.Rules.{marked}
use Rattle.ap_eval.proofs.tables.members.Given as goal

abbrev pub invariant-loop-place : goal.invariant-loop-place
invariant-loop-place l = record {
  ascend : IsAscending l.ids.items;
  below : All (λ (id : AtomId). id.0 < l.place) l.ids.items;
  members : (a : ℕ) → has l.ids.items a ≡ (marked l.marks a && nat_lt a l.place);
}
