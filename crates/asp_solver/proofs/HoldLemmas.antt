-- What a call leaves of a solver.
use Rattle.std.proofs.Common.{◌≡◌, ◌≢◌, ℕ, zero, suc, ◌+◌, ◌-◌, ◌*◌, ◌/◌, ◌^◌, ◌<◌, ◌≤◌, ◌⊎◌, inl, inr, ◌++◌, Bool, true, false, if◌then◌else◌, List, [], ◌∷◌, length, Option, Some, None, get_or, refl, ap, sym, ◌∙◌, subst, arith, mul_comm}
use Rattle.std.specs.List.{All, AllPairs}
use Rattle.std.proofs.lemmas.Bool.{cases_eq, cases_lt}
use Rattle.std.proofs.Math.Nat.{add-mul, mul-suc}
use Rattle.std.proofs.lemmas.Nat.{mul-le}
use lib.Pointwise.{pointwise}
use Rattle.std.proofs.Math.Nat.{one-le-pow}
use Rattle.theory_form.specs.declared.literals.Lit.{Lit}
use Rattle.theory_form.specs.declared.literals.ClauseId.{ClauseId}
use Rattle.theory_form.specs.Order.{lit_eq}
use Rattle.theory_form.specs.Theories.{Extends, TheoryView, clause_of, kind_of}
use Rattle.ground_form.specs.Programs.{Parts}
use Rattle.ground_form.specs.Ranges.{IsInRange}
use Rattle.theory_law.specs.Standing.{StandsOn}
use Rattle.proof_log.specs.declared.steps.Step.{Step}
use Rattle.proof_log.specs.States.{StateView, clause_in}
use Rattle.asp_engine.specs.declared.engine.Engine.{Engine}
use Rattle.asp_engine.specs.declared.periods.Period.{Period}
use Rattle.asp_engine.specs.declared.periods.Query.{Query}
use Rattle.asp_engine.specs.Keys.{AreUnmarked, HasTaken, IsIn, IsSameTheory}
use Rattle.asp_engine.specs.Moves.{IsMove, Leads, Makes, Moment, Went, at_moment, learned, held_by as held_in}
use Rattle.asp_engine.specs.Periods.{AreAscendingIds, IsPeriod, enough, learned_by, up_to}
use Rattle.asp_solver.specs.Conditions.{CanSearch}
use Rattle.asp_solver.specs.Holding.{Holds}
use Rattle.asp_solver.specs.Views.{AreApart, next_period, period_of, period_or_first, without}
use Rattle.asp_solver.proofs.PeriodLemmas.{AreFew, Goes, period_begun, period_same}
use Rattle.asp_solver.proofs.QueryLemmas.{all_without, bool_cases, held_of}
use Rattle.asp_solver.proofs.StepsLemmas.{Grown, goes_on, grown_on, held_stays, theory_on}

-- ---- the period of the query in work

first_or_next : (P : Period → Type 0) (qs : List Query) (assume : List Lit) → All (λ (q : Query). P q.period) qs → P (period_or_first None) → P (next_period qs assume)
first_or_next P [] assume h first = first
first_or_next P (q ∷ qs) assume h first = elim (bool_cases (pointwise lit_eq q.assume assume)) [
  | inl own ↦ subst (λ o. P (period_or_first o)) (sym (if_true (pointwise lit_eq q.assume assume) (Some q.period) (period_of qs assume) own)) (h 0 q (omega arith))
  | inr other ↦ subst (λ o. P (period_or_first o)) (sym (if_false (pointwise lit_eq q.assume assume) (Some q.period) (period_of qs assume) other)) (first_or_next P qs assume (λ k d w. h (suc k) d (omega (arith, w))) first)
] where
  if_true : {A : Type 0} (b : Bool) (x y : A) → b ≡ true → (if b then x else y) ≡ x
  if_true b x y h = rw h refl

  if_false : {A : Type 0} (b : Bool) (x y : A) → b ≡ false → (if b then x else y) ≡ y
  if_false b x y h = rw h refl

pow_above : (n : ℕ) → 1 ≤ 3 ^ n
pow_above n = one-le-pow n 3 (omega arith)

pub next_is_period : (span vars : ℕ) (v : StateView) (qs : List Query) (assume : List Lit) → 0 < span → All (λ (q : Query). IsPeriod span vars v q.period) qs → IsPeriod span vars v (next_period qs assume)
next_is_period span vars v qs assume positive h =
    first_or_next (IsPeriod span vars v) qs assume h (period_begun span vars v (period_or_first None) positive (omega arith) (omega arith) refl)

pub goes_start : (span taken : ℕ) (e : Engine) (qs : List Query) (assume : List Lit) → 0 < span → (h : Holds span e qs taken) → Goes span (length e.theory.variables) (at_moment h.state (next_period qs assume))
goes_start span taken e qs assume positive h = record {
  variables = ap length h.has_taken.theory.variables;
  beyond = h.has_taken.beyond;
  period = next_is_period span (length e.theory.variables) h.state qs assume positive h.periods;
  fresh = λ x. absurd (let z : false ≡ true = x in cc);
}

-- ---- the periods of the others

pub others_stay : (span vars : ℕ) (qs : List Query) (v : StateView) (p : Period) (steps : List Step) (n : Moment) → ((k : ℕ) → length v.theory.clauses < k → clause_in v k ≡ None) → Leads span (held_in qs) (at_moment v p) steps n → All (λ (q : Query). IsPeriod span vars v q.period) qs → All (λ (q : Query). IsPeriod span vars n.state q.period) qs
others_stay span vars qs v p steps n beyond leads h i d w =
    let q : Query = get_or qs i d in
    let x = h i d w in
    period_same span vars v n.state q.period (λ j e u.
    let k : ClauseId = get_or q.period.learned j e in
    let kept = x.kept j e u in
    let le : k.0 ≤ length v.theory.clauses = elim (cases_lt (length v.theory.clauses) k.0) [
      | inl above ↦ absurd (let z : Some kept.0 ≡ None = sym kept.1 ∙ beyond k.0 above in cc)
      | inr inside ↦ inside
    ] in
    held_stays span (held_in qs) k.0 (held_of qs i d k j e w u refl) (at_moment v p) n steps leads le) x

pub ascending_ids : (span vars : ℕ) (v : StateView) (qs : List Query) → All (λ (q : Query). IsPeriod span vars v q.period) qs → All (λ (q : Query). AreAscendingIds q.period.learned) qs
ascending_ids span vars v qs h i d w = (h i d w).ascending

-- ---- how much a query can learn

pub few_learned : (span vars : ℕ) (v : StateView) (p : Period) → 0 < span → IsPeriod span vars v p → learned_by span p < enough span vars
few_learned span vars v p positive h =
    bound span (3 ^ vars) p.number (length p.learned) positive h.number h.before h.few where
      up_to-le : (i j : ℕ) → i ≤ j → up_to i ≤ up_to j
      up_to-le zero j h = omega arith
      up_to-le (suc i) zero h = absurd (omega (arith, h))
      up_to-le (suc i) (suc j) h = let r = up_to-le i j (omega (arith, h)) in omega (arith, r, h)

      bound : (s m j l : ℕ) → 0 < s → 0 < j → s * j ≤ m + s → l < s * j → s * up_to (j - 1) + l < s * up_to (m / s + 2)
      bound s m zero l above number before few = absurd (omega (arith, number))
      bound s m (suc i) l above number before few =
          let a : suc i - 1 ≡ i = omega arith in
          let q : ℕ = m / s in
          let d = add-mul (suc i) (up_to i) s in
          let x = mul_comm (suc i + up_to i) s in
          let y = mul_comm (suc i) s in
          let z = mul_comm (up_to i) s in
          let upper : s * up_to i + l < s * up_to (suc i) = omega (arith, d, x, y, z, few) in
          let top : suc i ≤ q + 2 = number_le s m i q above refl before in
          let le = mul-le s (up_to (suc i)) s (up_to (q + 2)) (omega arith) (up_to-le (suc i) (q + 2) top) in
          subst (λ k. s * up_to k + l < s * up_to (q + 2)) (sym a) (omega (arith, upper, le)) where
            number_le : (s m i q : ℕ) → 0 < s → q ≡ m / s → s * suc i ≤ m + s → suc i ≤ q + 2
            number_le s m i q above is before = elim (cases_lt (q + 2) (suc i)) [
              | inr le ↦ le
              | inl big ↦ absurd (
                  let a = mul-le s (q + 3) s (suc i) (omega arith) (omega (arith, big)) in
                  let b = mul-suc s (q + 2) in
                  let c = mul-suc s (q + 1) in
                  let e = mul-suc s q in
                  let f : s * (q + 3) ≡ s * (q + 2) + s = let g : q + 3 ≡ suc (q + 2) = omega arith in rw g b in
                  let i2 : s * (q + 2) ≡ s * (q + 1) + s = let g : q + 2 ≡ suc (q + 1) = omega arith in rw g c in
                  let i1 : s * (q + 1) ≡ s * q + s = let g : q + 1 ≡ suc q = omega arith in rw g e in
                  let low : m < s * q + s = below s m q above is in
                  omega (arith, a, f, i2, i1, low, before))
            ] where
              below : (s m q : ℕ) → 0 < s → q ≡ m / s → m < s * q + s
              below s m q above is = rw is (omega arith)
