-- What a contract sees of a core: sets, and chains that go from set to set.
use Rattle.std.specs.Prelude.{◌≡◌, IsSome, ℕ, zero, suc, Bool, false, List, [], ◌∷◌, ◌++◌, Option, Some, None, replicate, slice_set, if◌then◌else◌, ◌==◌}
use Rattle.std.specs.List.{filter_map, list_any}
use Rattle.ground_form.specs.declared.atoms.AtomId.{AtomId}
use Rattle.ground_form.specs.declared.atoms.SetId.{SetId}
use Rattle.ground_form.specs.Programs.{numbered}
use Rattle.opt_core.specs.declared.events.Passed.{Passed}
use Rattle.opt_core.specs.Numbers.{next_number}

-- The sets that were met, in order, each under its number from 1; the sets that were passed, each with that of the
-- set that passed it; the sets that are printed, in order; the set of each open chain, where the chains are counted
-- from 0; and whether the search has ended.
pub record CoreView : Type 0 where
  pub met : List (List AtomId)
  pub passed : List Passed
  pub printed : List SetId
  pub chains : List (Option SetId)
  pub ended : Bool

-- the state of so many chains before the first event
abbrev pub begin : ℕ → CoreView
begin chains = record { met = []; passed = []; printed = []; chains = replicate chains None; ended = false }

-- the number of a chain's set, if there is such a chain and it is open
abbrev pub at_chain : List (Option SetId) → ℕ → Option SetId
at_chain [] c = None
at_chain (o ∷ chains) zero = o
at_chain (o ∷ chains) (suc c) = at_chain chains c

-- the number is one of these
abbrev pub is_among : List SetId → SetId → Bool
is_among numbers i = list_any (λ (j : SetId). i.0 == j.0) numbers

-- the sets that are printed, in order
abbrev pub printed_sets : CoreView → List (List AtomId)
printed_sets s = filter_map (λ (i : SetId). numbered s.met i.0) s.printed

-- a new set is met, and a chain has it
abbrev pub with_new : CoreView → ℕ → List AtomId → CoreView
with_new s c x = record s { met = s.met ++ x ∷ []; chains = slice_set s.chains c (Some (next_number s.met)) }

-- the one set is passed by the other
abbrev pub with_passed : CoreView → SetId → SetId → CoreView
with_passed s i j = record s { passed = s.passed ++ record { set = i; by = j } ∷ [] }

-- a chain is closed
abbrev pub with_closed : CoreView → ℕ → CoreView
with_closed s c = record s { chains = slice_set s.chains c None }

-- a set is printed, once
abbrev pub with_printed : CoreView → SetId → CoreView
with_printed s i = record s { printed = if is_among s.printed i then s.printed else s.printed ++ i ∷ [] }

-- the set of each open chain was met
abbrev pub HasMet : CoreView → Type 0
HasMet s = (c : ℕ) (i : SetId) → at_chain s.chains c ≡ Some i → IsSome (numbered s.met i.0)
