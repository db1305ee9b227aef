use Rattle.std.proofs.Common.{◌≡◌, ◌++◌, is_some, length, reverse}
use Rattle.std.specs.List.{filter_map, list_all}
use Rattle.small_front.specs.Forms.{choice_element_of}
use Rattle.small_front.proofs.rules.choice_of.Given as goal

-- all are small if those that are left are, and what stands for all is what stands for them, and what was found, from the last to the first
abbrev pub invariant-elements : goal.invariant-elements
invariant-elements l =
    (list_all (λ x. is_some (choice_element_of x)) l.initial.elements ≡ list_all (λ x. is_some (choice_element_of x)) l.elements)
    × (filter_map choice_element_of l.initial.elements ≡ filter_map choice_element_of l.elements ++ reverse l.small.items)

abbrev pub decreases-elements : goal.decreases-elements
decreases-elements l = length l.elements
