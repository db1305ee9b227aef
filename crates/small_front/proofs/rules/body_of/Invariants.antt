use Rattle.std.proofs.Common.{◌≡◌, ◌++◌, is_some, length, reverse}
use Rattle.std.specs.List.{filter_map, list_all}
use Rattle.small_front.specs.Forms.{item_of}
use Rattle.small_front.proofs.rules.body_of.Given as goal

-- all are small if those that are left are, and what stands for all is what stands for them, and what was found, from the last to the first
abbrev pub invariant-items : goal.invariant-items
invariant-items l =
    (list_all (λ x. is_some (item_of x)) l.initial.items ≡ list_all (λ x. is_some (item_of x)) l.items)
    × (filter_map item_of l.initial.items ≡ filter_map item_of l.items ++ reverse l.small.items)

abbrev pub decreases-items : goal.decreases-items
decreases-items l = length l.items
