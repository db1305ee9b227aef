use Rattle.std.proofs.Common.{◌≡◌, map, take, slice_index_or}
use Rattle.theory_form.specs.declared.literals.ClauseId.{ClauseId as Id}
use Rattle.asp_engine.proofs.learning.numbers_of.Given as goal

abbrev pub invariant-loop-key : goal.invariant-loop-key
invariant-loop-key l = l.list.items ≡ map (λ (k : Id). slice_index_or l.numbers k.0 (record { 0 = 0 })) (take l.key-index l.keys)
