-- Which events are permitted, in any family of sets with any relation of preference; and what holds after them.
use Rattle.std.specs.Prelude.{◌≡◌, ◌≢◌, ℕ, Bool, true, false, ◌⊎◌, List, [], ◌∷◌, Some, None, IsSome, IsSomeAnd}
use Rattle.std.specs.List.{AllPairs, Contains}
use Rattle.ground_form.specs.declared.atoms.AtomId.{AtomId}
use Rattle.ground_form.specs.declared.atoms.SetId.{SetId}
use Rattle.ground_form.specs.Programs.{numbered}
use Rattle.ground_form.specs.Sets.{has}
use Rattle.opt_core.specs.declared.events.Event.{Event}
use Rattle.opt_core.specs.declared.events.Event.TheVariants.{Start, Better, Stuck, Dry}
use Rattle.opt_core.specs.States.{CoreView, at_chain, is_among}
use Rattle.opt_core.specs.Folds.{May, after}
use Rattle.opt_core.specs.Optima.{IsUnbeaten, ListsAnswer}

-- of the set of a chain
abbrev pub OfChain : CoreView → ℕ → (List AtomId → Type 0) → Type 0
OfChain s c P = IsSomeAnd (at_chain s.chains c) (λ i. IsSomeAnd (numbered s.met i.0) P)

-- every chain is closed
abbrev pub AreClosed : CoreView → Type 0
AreClosed s = (c : ℕ) → at_chain s.chains c ≡ None

-- the set of number i was passed by that of number j
abbrev pub IsPassedBy : CoreView → SetId → SetId → Type 0
IsPassedBy s i j = Contains s.passed (record { set = i; by = j })

module _ (IsAnswer : (ℕ → Bool) → Type 0) (IsPreferred : (ℕ → Bool) → (ℕ → Bool) → Type 0) where
  -- each of the sets was met, or a set that was met is preferred to it
  abbrev pub IsExhausted : List (List AtomId) → Type 0
  IsExhausted met =
      (x : ℕ → Bool) → IsAnswer x →
      (i : SetId) × (set : List AtomId) × (numbered met i.0 ≡ Some set) × ((has set ≡ x) ⊎ IsPreferred (has set) x)

  -- what an event says of the sets
  abbrev pub IsTruth : CoreView → Event → Type 0
  IsTruth s (Start c x) = ListsAnswer IsAnswer x
  IsTruth s (Better c x) = ListsAnswer IsAnswer x × OfChain s c (λ old. IsPreferred (has x) (has old))
  IsTruth s (Stuck c) = OfChain s c (λ old. IsUnbeaten IsAnswer IsPreferred (has old))
  IsTruth s Dry = IsExhausted s.met

  pub record IsPermitted (s : CoreView) (e : Event) : Type 0 where
    pub may : May s e
    pub truth : IsTruth s e

  -- these events are permitted, one after another
  abbrev pub ArePermitted : CoreView → List Event → Type 0
  ArePermitted s [] = Unit {0}
  ArePermitted s (e ∷ events) = IsPermitted s e × ArePermitted (after s e) events

  -- sets i and j were met, and the second is preferred to the first
  abbrev pub IsBeatenBy : List (List AtomId) → SetId → SetId → Type 0
  IsBeatenBy met i j =
      (x y : List AtomId) × (numbered met i.0 ≡ Some x) × (numbered met j.0 ≡ Some y) × IsPreferred (has y) (has x)

  -- What holds after permitted events. Each set that was met is one of the sets, no set was met twice, and each that
  -- was met is printed, is passed, or is the set of an open chain. A set that is passed is passed by one that is
  -- preferred to it; a set that is printed is met, none is preferred to it, and it is printed once. The set of an
  -- open chain is met, it is neither printed nor passed, and no other chain has it. Where the search has ended, every
  -- chain is closed, and each of the sets was met or has a preferred one that was met.
  pub record HoldsOf (s : CoreView) : Type 0 where
    pub answers : (i : SetId) (x : List AtomId) → numbered s.met i.0 ≡ Some x → ListsAnswer IsAnswer x
    pub met_once : AllPairs (λ x y. x ≢ y) s.met
    pub settled : (i : SetId) → IsSome (numbered s.met i.0) →
        (is_among s.printed i ≡ true) ⊎ (((j : SetId) × IsPassedBy s i j) ⊎ ((c : ℕ) × (at_chain s.chains c ≡ Some i)))
    pub passed_by : (i j : SetId) → IsPassedBy s i j → IsBeatenBy s.met i j
    pub unbeaten : (i : SetId) (x : List AtomId) → is_among s.printed i ≡ true → numbered s.met i.0 ≡ Some x →
        IsUnbeaten IsAnswer IsPreferred (has x)
    pub printed_met : (i : SetId) → is_among s.printed i ≡ true → IsSome (numbered s.met i.0)
    pub printed_once : AllPairs (λ (i j : SetId). i ≢ j) s.printed
    pub open_met : (c : ℕ) (i : SetId) → at_chain s.chains c ≡ Some i → IsSome (numbered s.met i.0)
    pub open_unprinted : (c : ℕ) (i : SetId) → at_chain s.chains c ≡ Some i → is_among s.printed i ≡ false
    pub open_unpassed : (c : ℕ) (i j : SetId) → at_chain s.chains c ≡ Some i → IsPassedBy s i j → ⊥
    pub open_apart : (c d : ℕ) (i : SetId) → at_chain s.chains c ≡ Some i → at_chain s.chains d ≡ Some i → c ≡ d
    pub ended : s.ended ≡ true → AreClosed s × IsExhausted s.met
