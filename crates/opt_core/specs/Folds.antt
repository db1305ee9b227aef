-- The state after events, and what comes of them.
use Rattle.std.specs.Prelude.{◌≡◌, ℕ, ◌<◌, true, false, List, [], ◌∷◌, Option, Some, None, IsSome, length, if◌then◌else◌}
use Rattle.ground_form.specs.declared.atoms.AtomId.{AtomId}
use Rattle.ground_form.specs.declared.atoms.SetId.{SetId}
use Rattle.opt_core.specs.declared.events.Event.{Event}
use Rattle.opt_core.specs.declared.events.Event.TheVariants.{Start, Better, Stuck, Dry}
use Rattle.opt_core.specs.declared.events.Output.{Output}
use Rattle.opt_core.specs.declared.events.Output.TheVariants.{Nothing, Print, Closed, End}
use Rattle.opt_core.specs.States.{CoreView, at_chain, is_among, with_new, with_passed, with_closed, with_printed}
use Rattle.opt_core.specs.Numbers.{next_number, number_of, IsNewSet}

-- What the state itself tells of an event: only a closed chain starts, with a new set, and before the search has
-- ended; only an open one goes on; and the search ends once, when all chains are closed.
abbrev pub May : CoreView → Event → Type 0
May s (Start c x) = (c < length s.chains) × (at_chain s.chains c ≡ None) × IsNewSet s.met x × (s.ended ≡ false)
May s (Better c x) = IsSome (at_chain s.chains c)
May s (Stuck c) = IsSome (at_chain s.chains c)
May s Dry = ((c : ℕ) → at_chain s.chains c ≡ None) × (s.ended ≡ false)

-- Set i of a chain is passed by the set x. Where x was met, under number j, the chain is closed; else it has x from
-- now on.
abbrev pub after_better : CoreView → ℕ → List AtomId → SetId → Option SetId → CoreView
after_better s c x i None = with_new (with_passed s i (next_number s.met)) c x
after_better s c x i (Some j) = with_closed (with_passed s i j) c

-- the same where the chain may have no set: then nothing changes
abbrev pub bettered : CoreView → ℕ → List AtomId → Option SetId → CoreView
bettered s c x None = s
bettered s c x (Some i) = after_better s c x i (number_of s.met x)

-- the set of a chain is printed where it was not, and the chain is closed
abbrev pub stopped : CoreView → ℕ → Option SetId → CoreView
stopped s c None = s
stopped s c (Some i) = with_closed (with_printed s i) c

-- the state after an event
abbrev pub after : CoreView → Event → CoreView
after s (Start c x) = with_new s c x
after s (Better c x) = bettered s c x (at_chain s.chains c)
after s (Stuck c) = stopped s c (at_chain s.chains c)
after s Dry = record s { ended = true }

-- the state after events, one after another
abbrev pub after_all : CoreView → List Event → CoreView
after_all s [] = s
after_all s (e ∷ events) = after_all (after s e) events

-- what comes of a set that is preferred to a chain's, by its number where it was met
abbrev pub better_output : Option SetId → Output
better_output None = Nothing
better_output (Some j) = Closed

-- what comes of a chain's set to which none is preferred
abbrev pub stuck_output : CoreView → Option SetId → Output
stuck_output s None = Closed
stuck_output s (Some i) = if is_among s.printed i then Closed else Print i

-- what comes of an event
abbrev pub output : CoreView → Event → Output
output s (Start c x) = Nothing
output s (Better c x) = better_output (number_of s.met x)
output s (Stuck c) = stuck_output s (at_chain s.chains c)
output s Dry = End
