-- What a compiled part of a rule stands for.
use Rattle.std.specs.Prelude.{◌≡◌, ◌↔◌, ◌⊎◌, ℕ, List, Contains}
use Rattle.ap_term.specs.Table.{KeepsIds}
use Rattle.ap_term.specs.Value.{Value}
use Rattle.join_form.specs.Patterns.{Assignment}
use Rattle.rule_form.specs.Values.{Substitution}
use Rattle.rule_joins.specs.Drafts.{Drafted, names_of, Carries, AllHold, SameBelow, IsDraft, Grows}

-- The part has the variables `names`; `Means s x` says that x is one of its values under s, and `value` gives its value under an
-- assignment of values to places. As the part was compiled, the table and the draft grew.
pub record StandsFor {X : Type 0} (names : List (List ℕ)) (Means : Substitution → X
    → Type 0) (value : List Value → Assignment → X) (old : List Value) (from : Drafted) (new : List Value) (to : Drafted) : Type 0 where
  pub grows : Grows old from new to
  pub draft : IsDraft new to
  -- the variables of the part have places, and no others more
  pub named : (name : List ℕ)
      → Contains (names_of to.variables) name ↔ (Contains (names_of from.variables) name ⊎ Contains names name)
  -- what comes later does not change the value
  pub stays : (later : List Value) (a b : Assignment) → KeepsIds new later → SameBelow to.places a b
      → value later b ≡ value new a
  -- where the steps hold, the value is one of those under the substitution that the places carry
  pub sound : (rows : List (List (List Value))) (a : Assignment) (s : Substitution) → Carries to.variables a s
      → AllHold new rows a to.steps → Means s (value new a)
  -- and each value is that of an assignment, which is free at the places from before
  pub whole : (rows : List (List (List Value))) (a : Assignment) (s : Substitution) (x : X)
      → Carries from.variables a s → AllHold old rows a from.steps → Means s x → (b : Assignment)
      × SameBelow from.places a b × Carries to.variables b s × AllHold new rows b to.steps × (value new b ≡ x)
