use Rattle.std.proofs.Common.{◌≡◌, ◌++◌, drop, string_bytes}
use Rattle.std.specs.List.{flat_map}
use Rattle.asprin_cli.specs.Listed.{kept_text}
use Rattle.asprin_cli.proofs.print.push_atoms.Given as goal

-- what is there, with the atoms that are left, is the whole
abbrev pub invariant-loop-atom : goal.invariant-loop-atom
invariant-loop-atom l =
    string_bytes l.line ++ flat_map (kept_text l.shown) (drop l.atom-index l.set) ≡ string_bytes l.initial.line ++ flat_map (kept_text l.shown) l.set
