-- A valid log has one state.
use Rattle.std.proofs.Common.{◌≡◌, ℕ, zero, suc, ◌+◌, ◌-◌, ◌<◌, ◌≤◌, ◌≢◌, ◌⊎◌, inl, inr, Bool, List, [], ◌∷◌, length, Option, Some, None, get_or, reverse, refl, ap, sym, ◌∙◌, subst, arith, true, false}
use Rattle.std.specs.Prelude.{IsSome}
use Rattle.std.proofs.lemmas.Bool.{cases_lt}
use Rattle.theory_form.specs.declared.literals.Lit.{Lit}
use Rattle.theory_form.specs.Theories.{TheoryView, clause_of}
use Rattle.theory_model.specs.Loops.{IsLoopClause}
use Rattle.loop_nogoods.specs.Sets.{has}
use Rattle.proof_log.specs.declared.steps.Step.{Step}
use Rattle.proof_log.specs.declared.steps.Step.TheVariants.{Found, Passed, Improve, Dominate, Exclude, Learn, Loop, Sum, Erase, Optimal, Closed}
use Rattle.proof_log.specs.Logs.{IsLog, IsLogged, IsNextSkipped, LogStep}
use Rattle.proof_log.specs.States.{StateView, put, taken}

abbrev Slots : Type 0
Slots = List (Option (List Lit))

-- the law of loop clauses
abbrev pub AreOne : Type 0
AreOne = (t : TheoryView) (u : ℕ → Bool) (v : ℕ) (c d : List Lit) → IsLoopClause t u v c → IsLoopClause t u v d → c ≡ d

-- ---- steps

skipped_one : (t : TheoryView) (last n m : ℕ) → IsNextSkipped t last n → IsNextSkipped t last m → n ≡ m
skipped_one t last n m x y = elim (cases_lt n m) [
  | inl less ↦ absurd (none_some t n x.skipped (y.between n x.behind less))
  | inr le ↦ elim (cases_lt m n) [
    | inl more ↦ absurd (none_some t m y.skipped (x.between m y.behind more))
    | inr ge ↦ omega (arith, le, ge)
  ]
] where
  none_some : (t : TheoryView) (k : ℕ) → clause_of t k ≡ None → IsSome (clause_of t k) → ⊥
  none_some t k none some = by_none (clause_of t k) none some where
    by_none : (o : Option (List Lit)) → o ≡ None → IsSome o → ⊥
    by_none None e h = absurd (let z : false ≡ true = h in cc)
    by_none (Some c) e h = absurd (let z : Some c ≡ None = e in cc)

put_one : (t : TheoryView) (old a b : Slots) (last n m : ℕ) (c d : List Lit) → c ≡ d → IsNextSkipped t last n → IsNextSkipped t last m → a ≡ put old (n - 1) c → b ≡ put old (m - 1) d → (a ≡ b) × (n ≡ m)
put_one t old a b last n m c d same x y p q =
    let number = skipped_one t last n m x y in
    (p ∙ (ap (λ k. put old (k - 1) c) number ∙ (ap (λ (e : List Lit). put old (m - 1) e) same ∙ sym q)), number)

step_one : AreOne → (t : TheoryView) (old : Slots) (last : ℕ) (step : Step) (a b : Slots) (n m : ℕ) → LogStep t old last step a n → LogStep t old last step b m → (a ≡ b) × (n ≡ m)
step_one one t old last (Found atoms) a b n m x y = (x.0 ∙ sym y.0, x.1 ∙ sym y.1)
step_one one t old last (Passed set better) a b n m x y = (x.0 ∙ sym y.0, x.1 ∙ sym y.1)
step_one one t old last Improve a b n m x y = (x.0 ∙ sym y.0, x.1 ∙ sym y.1)
step_one one t old last (Dominate set) a b n m x y = (x.0 ∙ sym y.0, x.1 ∙ sym y.1)
step_one one t old last (Exclude set) a b n m x y = (x.0 ∙ sym y.0, x.1 ∙ sym y.1)
step_one one t old last (Learn lits hints) a b n m x y = put_one t old a b last n m lits lits refl x.0.0 y.0.0 x.0.1 y.0.1
step_one one t old last (Loop atom others) a b n m x y =
    put_one t old a b last n m x.1.0 y.1.0 (one t (has (atom ∷ others)) atom.0 x.1.0 y.1.0 x.1.1 y.1.1) x.1.2.0 y.1.2.0 x.1.2.1 y.1.2.1
step_one one t old last (Sum guard lits) a b n m x y = put_one t old a b last n m lits lits refl x.0.0 y.0.0 x.0.1 y.0.1
step_one one t old last (Erase clause) a b n m x y = (x.1 ∙ sym y.1, x.2 ∙ sym y.2)
step_one one t old last (Optimal set clause) a b n m x y = (x.0 ∙ sym y.0, x.1 ∙ sym y.1)
step_one one t old last (Closed clause) a b n m x y = (x.0 ∙ sym y.0, x.1 ∙ sym y.1)

logged_one : AreOne → (t : TheoryView) (steps : List Step) (a b : Slots) (n m : ℕ) → IsLogged t steps a n → IsLogged t steps b m → (a ≡ b) × (n ≡ m)
logged_one one t [] a b n m x y = (x.0 ∙ sym y.0, x.1 ∙ sym y.1)
logged_one one t (step ∷ older) a b n m x y =
    let r = logged_one one t older x.0 y.0 x.1 y.1 x.2 y.2 in
    let same : LogStep t x.0 y.1 step b m = subst (λ old. LogStep t old y.1 step b m) (sym r.0) y.3 in
    let two : LogStep t x.0 x.1 step b m = subst (λ last. LogStep t x.0 last step b m) (sym r.1) same in
    step_one one t x.0 x.1 step a b n m x.3 two

-- two states of one log have the same added clauses
pub log_one : AreOne → (t : TheoryView) (steps : List Step) (a b : Slots) → IsLog t steps a → IsLog t steps b → a ≡ b
log_one one t steps a b x y = (logged_one one t (reverse steps) a b x.last y.last x.logged y.logged).0
