-- Assignments that are changed at one place, and steps of a draft that grows.
use Rattle.std.proofs.Common.{◌≡◌, ◌<◌, ◌≤◌, ◌+◌, ℕ, Bool, true, false, List, [], ◌∷◌, ◌++◌, All, Contains, if◌then◌else◌, refl, sym, subst, ap, ◌∙◌, inr, arith, length-append}
use Rattle.std.specs.Prelude.{nat_eq}
use Rattle.std.specs.List.{flat_map}
use Rattle.std.proofs.lemmas.Bool.{eq-eqb, eqb-true}
use Rattle.std.proofs.lemmas.List.{get_or_append_left}
use Rattle.std.proofs.lemmas.List.Elements.{All-append, All-cons, All-contains, All-nil, All-weaker, Contains-push}
use Rattle.ap_term.proofs.CallerLemmas.{IsIdOf-kept}
use Rattle.ap_term.specs.Table.{IsIdOf, KeepsIds}
use Rattle.ap_term.specs.Value.{Value}
use Rattle.join_form.proofs.PatternLemmas.{all_inside}
use Rattle.join_form.proofs.StepLemmas.{step_ids, step_same, ids_are_known}
use Rattle.join_form.specs.declared.pattern.Pattern.{Pattern}
use Rattle.join_form.specs.declared.step.Step.{Step}
use Rattle.join_form.specs.declared.step.Step.TheVariants as steps
use Rattle.join_form.specs.Patterns.{Assignment, places_of, ids_of, IsPatternOf}
use Rattle.join_form.specs.Steps.{StepHolds, step_places, IsStepOf}
use Rattle.rule_form.specs.Values.{Substitution}
use Rattle.rule_joins.specs.Drafts.{Placed, Drafted, names_of, Carries, AllHold, SameBelow, IsDraft, IsPlacedIn}

-- ---- one more value

abbrev pub put : Assignment → ℕ → Value → Assignment
put a n v m = if nat_eq m n then v else a m

pub put_there : (a : Assignment) (n : ℕ) (v : Value) → put a n v n ≡ v
put_there a n v = ap (λ (t : Bool). if t then v else a n) (eq-eqb n n refl)

pub put_below : (a : Assignment) (n : ℕ) (v : Value) → SameBelow n a (put a n v)
put_below a n v m l = by (nat_eq m n) refl
  where
    by : (t : Bool) → nat_eq m n ≡ t → (if t then v else a m) ≡ a m
    by true e = let same : m ≡ n = eqb-true m n e in absurd (omega (arith, same, l))
    by false e = refl

-- ---- parts of lists

pub all_front : {X : Type 0} (P : X → Type 0) (xs ys zs : List X) → zs ≡ xs ++ ys → All P zs → All P xs
all_front P xs ys zs e h k d l = subst P (get_or_append_left xs ys d k l) (subst (All P) e h k d (omega (arith, l, length-append xs ys)))

pub all_last : {X : Type 0} (P : X → Type 0) (xs : List X) (x : X) → All P (xs ++ x ∷ []) → P x
all_last P xs x h = All-contains P (xs ++ x ∷ []) x h (Contains-push xs x)

-- ---- variables

pub carries_stay : (variables : List Placed) (n : ℕ) (a b : Assignment) (s : Substitution) → All (λ (v : Placed). v.1 < n) variables → SameBelow n a b → Carries variables a s → Carries variables b s
carries_stay variables n a b s within same h k d l = same _ (within k d l) ∙ h k d l

-- ---- patterns and steps stay those of a table that grew, with more places

module _ (old new : List Value) (keeps : KeepsIds old new) (n m : ℕ) (le : n ≤ m) where
  pub pattern_more : (p : Pattern) → IsPatternOf old n p → IsPatternOf new m p
  pattern_more p is = (
    All-weaker (λ q. q < n) (λ q. q < m) (λ q l. omega (arith, l, le)) (places_of p) is.0,
    All-weaker (IsIdOf old) (IsIdOf new) (IsIdOf-kept old new keeps) (ids_of p) is.1,
  )

  pub patterns_more : (ps : List Pattern) → All (IsPatternOf old n) ps → All (IsPatternOf new m) ps
  patterns_more ps is = All-weaker (IsPatternOf old n) (IsPatternOf new m) pattern_more ps is

  pub step_more : (step : Step) → IsStepOf old n step → IsStepOf new m step
  step_more (steps.Row relation ps key) is = patterns_more ps is
  step_more (steps.Missing relation ps) is = patterns_more ps is
  step_more (steps.Compute op l r place) is = (pattern_more l is.0, pattern_more r is.1, omega (arith, is.2, le))
  step_more (steps.Between l r place) is = (pattern_more l is.0, pattern_more r is.1, omega (arith, is.2, le))
  step_more (steps.Same l r) is = (pattern_more l is.0, pattern_more r is.1)
  step_more (steps.Compare l order r) is = (pattern_more l is.0, pattern_more r is.1)

  pub steps_more : (xs : List Step) → All (IsStepOf old n) xs → All (IsStepOf new m) xs
  steps_more xs is = All-weaker (IsStepOf old n) (IsStepOf new m) step_more xs is

-- ---- steps stay true

module _ (table : List Value) (n : ℕ) where
  patterns_within : (ps : List Pattern) → All (IsPatternOf table n) ps → All (λ p. p < n) (flat_map places_of ps)
  patterns_within ps is = all_inside (λ p. p < n) places_of ps (All-weaker (IsPatternOf table n) (λ p. All (λ q. q < n) (places_of p)) (λ p h. h.0) ps is)

  both_within : (l r : Pattern) → IsPatternOf table n l → IsPatternOf table n r → All (λ p. p < n) (places_of l ++ places_of r)
  both_within l r is js = All-append (λ p. p < n) (places_of l) (places_of r) is.0 js.0

  pub places_within : (step : Step) → IsStepOf table n step → All (λ p. p < n) (step_places step)
  places_within (steps.Row relation ps key) is = patterns_within ps is
  places_within (steps.Missing relation ps) is = patterns_within ps is
  places_within (steps.Compute op l r place) is = All-cons (λ p. p < n) place (places_of l ++ places_of r) is.2 (both_within l r is.0 is.1)
  places_within (steps.Between l r place) is = All-cons (λ p. p < n) place (places_of l ++ places_of r) is.2 (both_within l r is.0 is.1)
  places_within (steps.Same l r) is = both_within l r is.0 is.1
  places_within (steps.Compare l order r) is = both_within l r is.0 is.1

module _ (old new : List Value) (keeps : KeepsIds old new) (n : ℕ) (rows : List (List (List Value))) (a b : Assignment) (same : SameBelow n a b) where
  step_stays : (step : Step) → IsStepOf old n step → StepHolds old rows a step → StepHolds new rows b step
  step_stays step is = step_same old new rows a b step (
    λ p c. sym (same p (All-contains (λ q. q < n) (step_places step) p (places_within old n step is) c)),
    λ id c. sym (keeps.same id (All-contains (IsIdOf old) (step_ids step) id (ids_are_known old n step is) c)),
  )

  step_before : (step : Step) → IsStepOf old n step → StepHolds new rows b step → StepHolds old rows a step
  step_before step is = step_same new old rows b a step (
    λ p c. same p (All-contains (λ q. q < n) (step_places step) p (places_within old n step is) c),
    λ id c. keeps.same id (All-contains (IsIdOf old) (step_ids step) id (ids_are_known old n step is) c),
  )

  pub steps_stay : (xs : List Step) → All (IsStepOf old n) xs → AllHold old rows a xs → AllHold new rows b xs
  steps_stay xs is h k d l = step_stays _ (is k d l) (h k d l)

  pub steps_before : (xs : List Step) → All (IsStepOf old n) xs → AllHold new rows b xs → AllHold old rows a xs
  steps_before xs is h k d l = step_before _ (is k d l) (h k d l)

-- ---- the draft without anything

pub empty_draft : (table : List Value) → IsDraft table (record { variables = []; places = 0; steps = [] })
empty_draft table = record {
  within = All-nil (λ (v : Placed). v.1 < 0);
  once = λ i j d lt below. absurd (omega (arith, below));
  over = All-nil (IsStepOf table 0);
}

-- ---- a variable at the next place

pub placed_new : (old : Drafted) (vs : List Placed) (n : ℕ) (xs : List Step) (name given : List ℕ) (ws : List Placed) (m : ℕ) → record { variables = vs; places = n; steps = xs } ≡ old → given ≡ name → (Contains (names_of vs) given → ⊥) → ws ≡ vs ++ (given, n) ∷ [] → m ≡ n + 1
    → IsPlacedIn old name n (record { variables = ws; places = m; steps = xs })
placed_new old vs n xs name given ws m e f absent g h = subst (λ (d : Drafted). IsPlacedIn d name n (record { variables = ws; places = m; steps = xs })) e
    (inr (
      subst (λ name. Contains (names_of vs) name → ⊥) f absent,
      refl,
      ap (λ us. record { variables = us; places = m; steps = xs }) (g ∙ ap (λ name. vs ++ (name, n) ∷ []) f) ∙ ap (λ k. record { variables = vs ++ (name, n) ∷ []; places = k; steps = xs }) h,
    ))
