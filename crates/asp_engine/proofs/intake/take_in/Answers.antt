use Rattle.std.proofs.Common.{◌≡◌, ℕ, zero, suc, ◌+◌, ◌-◌, ◌≤◌, ◌++◌, Bool, false, inl, inr, List, [], ◌∷◌, length, get_or, replicate, sym, ◌∙◌, ap, subst, refl, arith, length-append}
use Rattle.std.specs.Prelude.{IsFalse}
use Rattle.std.proofs.lemmas.Bool.{cases_lt}
use Rattle.std.proofs.Math.ListN.{length-replicate}
use Rattle.loop_nogoods.specs.Marks.{marked}
use Rattle.theory_form.specs.Numbers.{grown}
use Rattle.asp_store.specs.Store.{State, clause_at}
use Rattle.asp_engine.specs.Keys.{AreUnmarked, HasTaken}
use Rattle.asp_engine.proofs.KeyLemmas.{same_self, taken_same}
use Rattle.asp_engine.proofs.intake.take_in.Goals as goal

pub returns-in-Err-clause-taken : goal.returns-in-Err-clause-taken
returns-in-Err-clause-taken c = λ v h. c.in-Err.ensures.taken c.args.e.now.log.steps v h

pub returns-in-Err-reserve_trail-clause-taken : goal.returns-in-Err-reserve_trail-clause-taken
returns-in-Err-reserve_trail-clause-taken c = λ v h.
    let e = c.args.e.now in
    subst (λ (s : State). HasTaken c.take_clauses.new.taken e.theory e.log.steps s c.take_clauses.new.numbers.items v) (sym c.in-Err-reserve_trail.ensures.err) (c.in-Ok.ensures.taken e.log.steps v h)

pub returns-in-Err-reserve-clause-taken : goal.returns-in-Err-reserve-clause-taken
returns-in-Err-reserve-clause-taken c = λ v h.
    let e = c.args.e.now in
    taken_same c.take_clauses.new.taken e.theory e.theory e.log.steps c.take_clauses.new.store _ c.take_clauses.new.numbers.items c.take_clauses.new.numbers.items v (same_self e.theory)
    (λ k. ap (λ (s : State). clause_at s.clauses k) c.in_default.ensures.ok) (λ k. refl) (c.in-Ok.ensures.taken e.log.steps v h)

pub returns-in-Err-reserve-2-clause-taken : goal.returns-in-Err-reserve-2-clause-taken
returns-in-Err-reserve-2-clause-taken c = λ v h.
    let e = c.args.e.now in
    taken_same c.take_clauses.new.taken e.theory e.theory e.log.steps c.take_clauses.new.store _ c.take_clauses.new.numbers.items c.take_clauses.new.numbers.items v (same_self e.theory)
    (λ k. ap (λ (s : State). clause_at s.clauses k) c.in_default.ensures.ok) (λ k. refl) (c.in-Ok.ensures.taken e.log.steps v h)

pub returns-clause-taken : goal.returns-clause-taken
returns-clause-taken c = λ v h.
    let e = c.args.e.now in
    taken_same c.take_clauses.new.taken e.theory e.theory e.log.steps c.take_clauses.new.store _ c.take_clauses.new.numbers.items c.take_clauses.new.numbers.items v (same_self e.theory)
    (λ k. ap (λ (s : State). clause_at s.clauses k) c.in_default.ensures.ok) (λ k. refl) (c.in-Ok.ensures.taken e.log.steps v h)

-- ---- bits

bits_none : (m k : ℕ) → get_or (replicate m false) k false ≡ false
bits_none zero k = refl
bits_none (suc m) zero = refl
bits_none (suc m) (suc k) = bits_none m k

bits_padded : (xs : List Bool) (m k : ℕ) → get_or (xs ++ replicate m false) k false ≡ get_or xs k false
bits_padded [] m k = bits_none m k
bits_padded (x ∷ xs) m zero = refl
bits_padded (x ∷ xs) m (suc k) = bits_padded xs m k

bits_beyond : (xs : List Bool) (k : ℕ) → length xs ≤ k → get_or xs k false ≡ false
bits_beyond [] k h = refl
bits_beyond (x ∷ xs) zero h = absurd (omega (arith, h))
bits_beyond (x ∷ xs) (suc k) h = bits_beyond xs k (omega (arith, h))

clear_padded : (xs : List Bool) (m k : ℕ) → AreUnmarked (length xs) xs → IsFalse (marked (xs ++ replicate m false) k)
clear_padded xs m k h = elim (cases_lt k (length xs)) [
  | inl low ↦ bits_padded xs m k ∙ (h k low).1
  | inr high ↦ bits_padded xs m k ∙ bits_beyond xs k high
]

unmarked_grown : (xs : List Bool) (n : ℕ) → AreUnmarked (length xs) xs → AreUnmarked n (grown xs n false)
unmarked_grown xs n h k low =
    let len = length-append xs (replicate (n - length xs) false) in
    let rep = length-replicate (n - length xs) false in
    (omega (arith, len, rep, low), clear_padded xs (n - length xs) k h)

unmarked_all : (xs : List Bool) (n : ℕ) → AreUnmarked (length xs) xs → AreUnmarked (length (grown xs n false)) (grown xs n false)
unmarked_all xs n h k low = (low, clear_padded xs (n - length xs) k h)

pub returns-clause-marks : goal.returns-clause-marks
returns-clause-marks c = subst (λ (m : List Bool). AreUnmarked (length m) m) (sym c.in_default-reserve.ensures.ok) (unmarked_all c.args.e.now.parts.marks (c.var_count-vars.result + 1) c.requires.marks)

pub returns-clause-ok : goal.returns-clause-ok
returns-clause-ok c = λ v h.
    let e = c.args.e.now in
    let x = c.in-Ok.ensures in
    let n : c.take_clauses.new.taken ≡ length e.theory.clauses = (let a = x.all in let b = x.most in omega (arith, a, b)) in
    let taken = returns-clause-taken c v h in
    record {
      taken = subst (λ k. HasTaken k e.theory e.log.steps c.reserve_trail.new.self c.take_clauses.new.numbers.items v) n taken;
      places = (
          let p = ap (λ (s : State). s.places) c.in_default.ensures.ok in
          let few = x.places in
          let vars = c.var_count-vars.ensures.count in
          omega (arith, p, few, vars));
      marks = subst (AreUnmarked (length e.theory.variables + 1)) (sym c.in_default-reserve.ensures.ok)
          (subst (λ k. AreUnmarked (k + 1) (grown e.parts.marks (c.var_count-vars.result + 1) false)) c.var_count-vars.ensures.count (unmarked_grown e.parts.marks (c.var_count-vars.result + 1) c.requires.marks));
    }
