-- A valid step keeps a log valid.
use Rattle.std.proofs.Common.{◌≡◌, ℕ, zero, suc, ◌+◌, ◌-◌, ◌<◌, ◌≤◌, ◌++◌, Bool, true, false, List, [], ◌∷◌, length, Option, None, refl, ap, sym, ◌∙◌, subst, arith, length-append}
use Rattle.std.specs.Prelude.{reverse, slice_get, IsSome, nat_lt}
use Rattle.std.specs.Option.{option_and_then}
use Rattle.std.proofs.lemmas.Bool.{ltb-false}
use Rattle.std.proofs.lemmas.List.{reverse-append}
use mathlib.Core.Path.{fun_ext}
use Rattle.theory_form.specs.declared.literals.Lit.{Lit}
use Rattle.theory_form.specs.Theories.{TheoryView, clause_of}
use Rattle.proof_log.specs.declared.steps.Step.{Step}
use Rattle.proof_log.specs.declared.steps.Step.TheVariants.{Found, Passed, Improve, Dominate, Exclude, Learn, Loop, Sum, Erase, Optimal, Closed}
use Rattle.proof_log.specs.After.{IsAfter}
use Rattle.proof_log.specs.Logs.{IsLog, IsLogged, IsNextSkipped, IsStepOver, LogStep, below}
use Rattle.proof_log.specs.States.{StateView, clause_in, either, entry_of, put, taken}
use Rattle.proof_log.specs.Steps.{IsJudged}
use Rattle.proof_log.specs.Valid.{IsValid, LearnAsks}
use Rattle.proof_log.proofs.LogLemmas.{log_within}
use Rattle.proof_log.proofs.TruthLemmas.{Slots}

-- ---- a theory that skipped one number more

abbrev skipping : TheoryView → ℕ → TheoryView
skipping t r = record t { clauses = t.clauses ++ None ∷ []; reserved = r }

joined : (xs : Slots) (k : ℕ) → option_and_then (λ (s : Option (List Lit)). s) (slice_get (xs ++ None ∷ []) k) ≡ option_and_then (λ (s : Option (List Lit)). s) (slice_get xs k)
joined [] zero = refl
joined [] (suc k) = refl
joined (x ∷ xs) zero = refl
joined (x ∷ xs) (suc k) = joined xs k

same_clauses : (t : TheoryView) (r : ℕ) → clause_of (skipping t r) ≡ clause_of t
same_clauses t r = fun_ext (λ id. at id) where
  at : (id : ℕ) → clause_of (skipping t r) id ≡ clause_of t id
  at zero = refl
  at (suc k) = joined t.clauses k

longer : (t : TheoryView) (r : ℕ) → length (skipping t r).clauses ≡ length t.clauses + 1
longer t r = let none : Option (List Lit) = None in let e = length-append t.clauses (none ∷ []) in omega (arith, e)

next_longer : (t : TheoryView) (r last n : ℕ) → IsNextSkipped t last n → IsNextSkipped (skipping t r) last n
next_longer t r last n h = record {
  behind = h.behind;
  within = (let e = longer t r in let w = h.within in omega (arith, e, w));
  skipped = ap (λ (f : ℕ → Option (List Lit)). f n) (same_clauses t r) ∙ h.skipped;
  between = λ k a b. subst (λ (f : ℕ → Option (List Lit)). IsSome (f k)) (sym (same_clauses t r)) (h.between k a b);
}

step_longer : (t : TheoryView) (r : ℕ) (old : Slots) (last : ℕ) (step : Step) (new : Slots) (n : ℕ) → LogStep t old last step new n → LogStep (skipping t r) old last step new n
step_longer t r old last (Found atoms) new n h = h
step_longer t r old last (Passed set better) new n h = h
step_longer t r old last Improve new n h = h
step_longer t r old last (Dominate set) new n h = h
step_longer t r old last (Exclude set) new n h = h
step_longer t r old last (Learn lits hints) new n h = (
  (next_longer t r last n h.0.0, h.0.1),
  h.1,
  subst (λ (f : ℕ → Option (List Lit)). LearnAsks (below n (λ id. either (f id) (entry_of old id))) (length t.variables + 1) lits hints None) (sym (same_clauses t r)) h.2,
)
step_longer t r old last (Loop atom others) new n h = (
  record { apart = h.0.apart; program = h.0.program },
  (h.1.0, record { ascending = h.1.1.ascending; literals = h.1.1.literals }, (next_longer t r last n h.1.2.0, h.1.2.1)),
)
step_longer t r old last (Sum guard lits) new n h = ((next_longer t r last n h.0.0, h.0.1), h.1, h.2)
step_longer t r old last (Erase clause) new n h = h
step_longer t r old last (Optimal set clause) new n h = h
step_longer t r old last (Closed clause) new n h = h

logged_longer : (t : TheoryView) (r : ℕ) (steps : List Step) (added : Slots) (last : ℕ) → IsLogged t steps added last → IsLogged (skipping t r) steps added last
logged_longer t r [] added last h = h
logged_longer t r (step ∷ older) added last h =
    (h.0, h.1, logged_longer t r older h.0 h.1 h.2, step_longer t r h.0 h.1 step added last h.3)

-- ---- a step that adds a clause

-- the clauses of smaller numbers than the next are all there are
below_all : (n : ℕ) (look : ℕ → Option (List Lit)) → ((id : ℕ) → n < id → look id ≡ None) → below (n + 1) look ≡ look
below_all n look none = fun_ext (λ id. by_test id (nat_lt id (n + 1)) refl) where
  by_test : (id : ℕ) (b : Bool) → nat_lt id (n + 1) ≡ b → below (n + 1) look id ≡ look id
  by_test id true e = rw e refl
  by_test id false e = rw e (sym (none id (let x : n + 1 ≤ id = ltb-false id (n + 1) e in omega (arith, x))))

past_end : (xs : Slots) (k : ℕ) → length xs ≤ k → option_and_then (λ (s : Option (List Lit)). s) (slice_get xs k) ≡ None
past_end [] k h = refl
past_end (x ∷ xs) zero h = absurd (omega arith)
past_end (x ∷ xs) (suc k) h = past_end xs k (omega arith)

clause_past : (t : TheoryView) (id : ℕ) → length t.clauses < id → clause_of t id ≡ None
clause_past t zero h = absurd (omega arith)
clause_past t (suc k) h = past_end t.clauses k (omega arith)

-- the number that the step takes is the next one that is skipped
next_of : (t : TheoryView) (r : ℕ) (steps : List Step) (added : Slots) → (h : IsLog t steps added) → IsNextSkipped (skipping t r) h.last (length t.clauses + 1)
next_of t r steps added h = record {
  behind = (let w = h.within in omega (arith, w));
  within = (let e = longer t r in omega (arith, e));
  skipped = ap (λ (f : ℕ → Option (List Lit)). f (length t.clauses + 1)) (same_clauses t r) ∙ clause_past t (length t.clauses + 1) (omega arith);
  between = λ k a b. subst (λ (f : ℕ → Option (List Lit)). IsSome (f k)) (sym (same_clauses t r)) (h.none_behind k a (omega (arith, b)));
}

-- a log with one step more, where the theory has one number more
grown_log : (t : TheoryView) (r : ℕ) (steps : List Step) (step : Step) (old new : Slots) → (h : IsLog t steps old) → LogStep (skipping t r) old h.last step new (length t.clauses + 1) → IsLog (skipping t r) (steps ++ step ∷ []) new
grown_log t r steps step old new h s = record {
  last = length t.clauses + 1;
  logged = subst (λ (xs : List Step). IsLogged (skipping t r) xs new (length t.clauses + 1)) (sym (reverse-append steps (step ∷ [])))
      (old, h.last, logged_longer t r (reverse steps) old h.last h.logged, s);
  within = (let e = longer t r in omega (arith, e));
  none_behind = λ k a b. absurd (let e = longer t r in omega (arith, e, a, b));
}

put_at : (old : Slots) (n : ℕ) (c : List Lit) → put old n c ≡ put old ((n + 1) - 1) c
put_at old n c = ap (λ k. put old k c) (let e : n ≡ (n + 1) - 1 = omega arith in e)

-- a log with one step more over the same theory
kept_log : (t : TheoryView) (steps : List Step) (step : Step) (old new : Slots) → (h : IsLog t steps old) → LogStep t old h.last step new h.last → IsLog t (steps ++ step ∷ []) new
kept_log t steps step old new h s = record {
  last = h.last;
  logged = subst (λ (xs : List Step). IsLogged t xs new h.last) (sym (reverse-append steps (step ∷ []))) (old, h.last, h.logged, s);
  within = h.within;
  none_behind = h.none_behind;
}

pub log_step : (s after : StateView) (steps : List Step) (step : Step) → IsLog s.theory steps s.added → IsValid s step → IsStepOver (length s.theory.variables) step → IsAfter s step after → IsLog after.theory (steps ++ step ∷ []) after.added
log_step s w steps (Found atoms) h valid over after = absurd valid
log_step s w steps (Passed set better) h valid over after = absurd valid
log_step s w steps Improve h valid over after = absurd valid
log_step s w steps (Dominate set) h valid over after = absurd valid
log_step s w steps (Exclude set) h valid over after = absurd valid
log_step s w steps (Learn lits hints) h valid over after =
    let r : ℕ = s.theory.reserved - 1 in
    let n : ℕ = length s.theory.clauses in
    let look = ap (λ (f : ℕ → Option (List Lit)). below (n + 1) (λ id. either (f id) (entry_of s.added id))) (same_clauses s.theory r) ∙ below_all n (clause_in s) (log_within s.theory steps s.added h) in
    subst (λ (x : StateView). IsLog x.theory (steps ++ Learn lits hints ∷ []) x.added) (sym after)
    (grown_log s.theory r steps (Learn lits hints) s.added (put s.added n lits) h
    ((next_of s.theory r steps s.added h, put_at s.added n lits), over, subst (λ (f : ℕ → Option (List Lit)). LearnAsks f (length s.theory.variables + 1) lits hints None) (sym look) valid))
log_step s w steps (Loop atom others) h valid over after =
    let r : ℕ = s.theory.reserved - 1 in
    let n : ℕ = length s.theory.clauses in
    let c = after.0 in
    subst (λ (x : StateView). IsLog x.theory (steps ++ Loop atom others ∷ []) x.added) (sym after.2)
    (grown_log s.theory r steps (Loop atom others) s.added (put s.added n c) h
    (record { apart = valid.0.apart; program = valid.0.program }, (c, record { ascending = after.1.ascending; literals = after.1.literals }, (next_of s.theory r steps s.added h, put_at s.added n c))))
log_step s w steps (Sum guard lits) h valid over after =
    let r : ℕ = s.theory.reserved - 1 in
    let n : ℕ = length s.theory.clauses in
    subst (λ (x : StateView). IsLog x.theory (steps ++ Sum guard lits ∷ []) x.added) (sym after)
    (grown_log s.theory r steps (Sum guard lits) s.added (put s.added n lits) h
    ((next_of s.theory r steps s.added h, put_at s.added n lits), over, valid.0))
log_step s w steps (Erase clause) h valid over after =
    subst (λ (x : StateView). IsLog x.theory (steps ++ Erase clause ∷ []) x.added) (sym after)
    (kept_log s.theory steps (Erase clause) s.added (taken s.added clause.0) h (valid.0, refl, refl))
log_step s w steps (Optimal set clause) h valid over after = absurd valid
log_step s w steps (Closed clause) h valid over after = absurd valid

-- ---- a step that is not judged

other_step : (t : TheoryView) (old : Slots) (last : ℕ) (step : Step) → (IsJudged step → ⊥) → LogStep t old last step old last
other_step t old last (Found atoms) other = (refl, refl)
other_step t old last (Passed set better) other = (refl, refl)
other_step t old last Improve other = (refl, refl)
other_step t old last (Dominate set) other = (refl, refl)
other_step t old last (Exclude set) other = (refl, refl)
other_step t old last (Learn lits hints) other = absurd (other tt)
other_step t old last (Loop atom others) other = absurd (other tt)
other_step t old last (Sum guard lits) other = absurd (other tt)
other_step t old last (Erase clause) other = absurd (other tt)
other_step t old last (Optimal set clause) other = (refl, refl)
other_step t old last (Closed clause) other = (refl, refl)

pub log_other : (t : TheoryView) (steps : List Step) (added : Slots) (step : Step) → (IsJudged step → ⊥) → IsLog t steps added → IsLog t (steps ++ step ∷ []) added
log_other t steps added step other h = kept_log t steps step added added h (other_step t added h.last step other)

pub log_none : (t : TheoryView) → ((k : ℕ) → 0 < k → k ≤ length t.clauses → IsSome (clause_of t k)) → IsLog t [] []
log_none t none = record { last = 0; logged = (refl, refl); within = omega arith; none_behind = none }
