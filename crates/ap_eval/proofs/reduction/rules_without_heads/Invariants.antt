use Rattle.std.proofs.Common.{◌≡◌, map, take, []}
use Rattle.std.specs.Prelude.{All}
use Rattle.definite.specs.declared.Rule.{Rule}
use Rattle.ap_eval.specs.Reductions.{body_of, positives_in}
use Rattle.ap_eval.proofs.reduction.rules_without_heads.Given as goal

abbrev pub invariant-loop-body : goal.invariant-loop-body
invariant-loop-body l = record {
  bodies : map body_of l.rules.items ≡ map positives_in (take l.body-index l.bodies);
  heads : All (λ (rule : Rule). rule.heads ≡ []) l.rules.items;
}
