use Rattle.std.proofs.Common.{◌≡◌, drop}
use Rattle.ap_base.specs.Inputs.{find_input}
use Rattle.ap_base.specs.MemSource.{inputs_of}
use Rattle.ap_base.proofs.mem_source.place_of.Given as goal

-- no file before this one has the name
abbrev pub invariant-loop-at : goal.invariant-loop-at
invariant-loop-at l = find_input (inputs_of l.files) l.name ≡ find_input (inputs_of (drop l.at l.files)) l.name
