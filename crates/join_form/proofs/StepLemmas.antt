-- Whether a step holds hangs on its places and ids alone.
use Rattle.std.proofs.Common.{◌≡◌, ◌↔◌, ℕ, List, [], ◌∷◌, ◌++◌, All, Contains, IsTrue, refl, sym, subst, ap, ap₂, ◌∙◌}
use Rattle.std.specs.List.{flat_map}
use Rattle.std.proofs.lemmas.List.Elements.{Contains-append_left, Contains-append_right, Contains-push, All-append, All-contains, All-weaker}
use Rattle.ap_term.specs.declared.shape.TermId.{TermId}
use Rattle.ap_term.specs.Table.{IsIdOf, value_at, KeepsIds}
use Rattle.ap_term.specs.Value.{Value, integer}
use Rattle.join_form.specs.declared.pattern.Pattern.{Pattern}
use Rattle.join_form.specs.declared.step.Step.{Step}
use Rattle.join_form.specs.declared.step.Step.TheVariants as steps
use Rattle.join_form.specs.Patterns.{Assignment, pattern_value, pattern_values, places_of, ids_of, IsPatternOf}
use Rattle.join_form.specs.Steps.{compares, HasRow, StepHolds, step_places, IsStepOf}
use Rattle.join_form.proofs.PatternLemmas.{AgreeOn, same_value, same_values, left_agree, right_agree, all_inside}

-- the ids of a step
abbrev pub step_ids : Step → List TermId
step_ids (steps.Row relation patterns key) = flat_map ids_of patterns
step_ids (steps.Missing relation patterns) = flat_map ids_of patterns
step_ids (steps.Compute op left right place) = ids_of left ++ ids_of right
step_ids (steps.Between low high place) = ids_of low ++ ids_of high
step_ids (steps.Same left right) = ids_of left ++ ids_of right
step_ids (steps.Compare left order right) = ids_of left ++ ids_of right

module _ (t u : List Value) (rows : List (List (List Value))) (a b : Assignment) where
  -- two patterns
  both : (l r : Pattern) → AgreeOn t u a b (places_of l ++ places_of r) (ids_of l ++ ids_of r) → (pattern_value t a l ≡ pattern_value u b l) × (pattern_value t a r ≡ pattern_value u b r)
  both l r h = (same_value t u a b l (left_agree t u a b (places_of l) (places_of r) (ids_of l) (ids_of r) h), same_value t u a b r (right_agree t u a b (places_of l) (places_of r) (ids_of l) (ids_of r) h))

  -- behind the place of a result
  behind : (place : ℕ) (places : List ℕ) (ids : List TermId) → AgreeOn t u a b (place ∷ places) ids → AgreeOn t u a b places ids
  behind place places ids h = (λ n c. h.0 n (Contains-append_right (place ∷ []) places n c), h.1)

  first : (place : ℕ) (places : List ℕ) (ids : List TermId) → AgreeOn t u a b (place ∷ places) ids → a place ≡ b place
  first place places ids h = h.0 place (Contains-append_left (place ∷ []) places place (Contains-push [] place))

  pub step_same : (step : Step) → AgreeOn t u a b (step_places step) (step_ids step) → StepHolds t rows a step → StepHolds u rows b step
  step_same (steps.Row relation ps key) h c = subst (HasRow rows relation) (same_values t u a b ps h) c
  step_same (steps.Missing relation ps) h c = λ r. c (subst (HasRow rows relation) (sym (same_values t u a b ps h)) r)
  step_same (steps.Compute op l r place) h c =
      let e = both l r (behind place (places_of l ++ places_of r) (ids_of l ++ ids_of r) h) in
      let at = first place (places_of l ++ places_of r) (ids_of l ++ ids_of r) h in
      (c.0, c.1, c.2, sym e.0 ∙ c.3, sym e.1 ∙ c.4, c.5, sym at ∙ c.6)
  step_same (steps.Between l r place) h c =
      let e = both l r (behind place (places_of l ++ places_of r) (ids_of l ++ ids_of r) h) in
      let at = first place (places_of l ++ places_of r) (ids_of l ++ ids_of r) h in
      (c.0, c.1, c.2, sym e.0 ∙ c.3, sym e.1 ∙ c.4, c.5, c.6, sym at ∙ c.7)
  step_same (steps.Same l r) h c = let e = both l r h in sym e.0 ∙ (c ∙ e.1)
  step_same (steps.Compare l order r) h c = let e = both l r h in subst IsTrue (ap₂ (compares order) e.0 e.1) c

-- the ids of a step are those of the table
both_ids : (table : List Value) (places : ℕ) (l r : Pattern) → IsPatternOf table places l → IsPatternOf table places r → All (IsIdOf table) (ids_of l ++ ids_of r)
both_ids table places l r is js = All-append (IsIdOf table) (ids_of l) (ids_of r) is.1 js.1

all_ids : (table : List Value) (places : ℕ) (ps : List Pattern) → All (IsPatternOf table places) ps → All (IsIdOf table) (flat_map ids_of ps)
all_ids table places ps is = all_inside (IsIdOf table) ids_of ps (All-weaker (IsPatternOf table places) (λ p. All (IsIdOf table) (ids_of p)) (λ p h. h.1) ps is)

pub ids_are_known : (table : List Value) (places : ℕ) (step : Step) → IsStepOf table places step → All (IsIdOf table) (step_ids step)
ids_are_known table places (steps.Row relation ps key) is = all_ids table places ps is
ids_are_known table places (steps.Missing relation ps) is = all_ids table places ps is
ids_are_known table places (steps.Compute op l r place) is = both_ids table places l r is.0 is.1
ids_are_known table places (steps.Between l r place) is = both_ids table places l r is.0 is.1
ids_are_known table places (steps.Same l r) is = both_ids table places l r is.0 is.1
ids_are_known table places (steps.Compare l order r) is = both_ids table places l r is.0 is.1

-- a step means the same in a table that grew
pub step_kept : (old new : List Value) (keeps : KeepsIds old new) (places : ℕ) (rows : List (List (List Value))) (a : Assignment) (step : Step) → IsStepOf old places step → StepHolds new rows a step ↔ StepHolds old rows a step
step_kept old new keeps places rows a step is =
    let same : (id : TermId) → Contains (step_ids step) id → value_at new id ≡ value_at old id = λ id c. keeps.same id (All-contains (IsIdOf old) (step_ids step) id (ids_are_known old places step is) c) in
    (step_same new old rows a a step (λ n c. refl, same), step_same old new rows a a step (λ n c. refl, λ id c. sym (same id c)))
