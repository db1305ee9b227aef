use Rattle.std.proofs.Common.{◌≡◌, ◌++◌, map, take, string_bytes}
use Rattle.std.specs.Prelude.{codes}
use Rattle.std.specs.List.{join_with_byte}
use Rattle.ap_term.specs.Printed.{text, comma}
use Rattle.ap_term.specs.Table.{value_at}
use Rattle.ap_term.proofs.terms.Terms.+append.Given as goal

-- arguments have smaller numbers
abbrev pub decreases-append : goal.decreases-append
decreases-append l = l.id.0

-- the arguments so far are written, parted by commas
abbrev pub invariant-loop-place : goal.invariant-loop-place
invariant-loop-place l =
    string_bytes l.out ≡ string_bytes l.fn.out ++ l.name ++ codes "(" ++ join_with_byte comma (map (λ id. text (value_at l.self id)) (take l.place l.argument-items))
