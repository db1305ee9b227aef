use Rattle.std.proofs.Common.{◌++◌, List, map, take}
use Rattle.static_checks.specs.Judgements.{IsJudgement}
use Rattle.static_checks.specs.Programs.{Judged, type_program}
use Rattle.static_checks.proofs.judging.Judgement.add_kinds.Given as goal

abbrev pub invariant-loop-kind : goal.invariant-loop-kind
invariant-loop-kind l = (js : List Judged) → IsJudgement js l.initial.self → IsJudgement (js ++ map type_program (take l.kind-index l.kinds)) l.self
