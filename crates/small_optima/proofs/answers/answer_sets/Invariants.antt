use Rattle.std.proofs.Common.{ℕ, List}
use Rattle.ap_eval.specs.AnswerSets.{IsAnswerSet}
use Rattle.ap_eval.specs.AtomSets.{has}
use Rattle.small_optima.specs.Kept.{Kept}
use Rattle.small_optima.proofs.answers.answer_sets.Given as goal

abbrev pub invariant-loop-set : goal.invariant-loop-set
invariant-loop-set l = Kept (λ (set : List (List ℕ)). IsAnswerSet l.p (has set)) l.yielded l.found.items
