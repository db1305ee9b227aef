-- What holds of the clauses that the steps of a log added and that are kept.
use Rattle.std.proofs.Common.{◌≡◌, ℕ, zero, suc, ◌+◌, ◌-◌, ◌<◌, ◌≤◌, inl, inr, Bool, true, false, List, [], ◌∷◌, length, Option, Some, None, refl, sym, ◌∙◌, subst, arith}
use Rattle.std.specs.Prelude.{reverse, IsTrue, nat_lt}
use Rattle.theory_form.specs.declared.literals.Lit.{Lit}
use Rattle.theory_form.specs.declared.literals.ClauseId.{ClauseId}
use Rattle.theory_form.specs.declared.literals.Var.{Var}
use Rattle.theory_form.specs.Hints.{FollowsByHints}
use Rattle.theory_form.specs.Numbers.{at_number}
use Rattle.theory_form.specs.Theories.{TheoryView, clause_of}
use Rattle.theory_form.proofs.NumberLemmas.{at_number_within}
use Rattle.theory_model.specs.Truth.{clause_true}
use Rattle.theory_model.specs.Loops.{AreAtomsOf, IsLoopClause}
use Rattle.theory_model.specs.Models.{IsModel}
use Rattle.theory_model.specs.Whole.{AreOver, IsWhole}
use Rattle.theory_model.proofs.GrowthLemmas.{clause_over, from_some}
use Rattle.loop_nogoods.specs.Sets.{has}
use Rattle.proof_log.specs.declared.steps.Step.{Step}
use Rattle.proof_log.specs.declared.steps.Step.TheVariants.{Found, Passed, Improve, Dominate, Exclude, Learn, Loop, Sum, Erase, Optimal, Closed}
use Rattle.proof_log.specs.Logs.{IsLog, IsLogged, IsNextSkipped, LogStep, below}
use Rattle.proof_log.specs.States.{clause_among, either, entry_of, put}
use Rattle.proof_log.specs.Valid.{AreOfProgram, IsSumClause, LearnAsks}
use Rattle.proof_log.proofs.ProgramLemmas.{has_first}
use Rattle.proof_log.proofs.TruthLemmas.{Slots, entry_put, entry_taken, sum_clause_true, true_of_either}

-- P holds of each clause that is kept, with its number
abbrev pub Each : (ℕ → List Lit → Type 0) → Slots → Type 0
Each P added = (id : ℕ) (c : List Lit) → entry_of added id ≡ Some c → P id c

nothing_each : (P : ℕ → List Lit → Type 0) → Each P []
nothing_each P zero c at = absurd (cc)
nothing_each P (suc k) c at = absurd (cc)

put_each : (P : ℕ → List Lit → Type 0) (old : Slots) (n : ℕ) (c : List Lit) → 0 < n → Each P old → P n c → Each P (put old (n - 1) c)
put_each P old n c some h here id d at = elim (entry_put old (n - 1) c id d at) [
  | inl own ↦ let is : n ≡ id = omega (arith, own.0) in subst (λ k. P k d) is (subst (P n) own.1 here)
  | inr older ↦ h id d older
]

pub below_some : (n : ℕ) (look : ℕ → Option (List Lit)) (id : ℕ) (d : List Lit) → below n look id ≡ Some d → look id ≡ Some d
below_some n look id d at = go (nat_lt id n) refl where
  go : (b : Bool) → nat_lt id n ≡ b → look id ≡ Some d
  go true e = sym (let x : below n look id ≡ look id = rw e refl in x) ∙ at
  go false e = absurd (let x : below n look id ≡ None = rw e refl in let z : Some d ≡ None = sym at ∙ x in cc)

-- P holds of a clause where the step that adds it is valid and P holds of the clauses before
pub record Holds (t : TheoryView) (P : ℕ → List Lit → Type 0) : Type 0 where
  pub learned : (old : Slots) (last n : ℕ) (lits : List Lit) (hints : List ClauseId) → Each P old → IsNextSkipped t last n → AreOver (length t.variables) lits → LearnAsks (below n (clause_among t old)) (length t.variables + 1) lits hints None → P n lits
  pub looped : (last n : ℕ) (atom : Var) (others : List Var) (c : List Lit) → IsNextSkipped t last n → AreOfProgram t atom others → IsLoopClause t (has (atom ∷ others)) atom.0 c → P n c
  pub summed : (last n : ℕ) (guard : Var) (lits : List Lit) → IsNextSkipped t last n → AreOver (length t.variables) lits → IsSumClause t guard lits → P n lits

module _ (t : TheoryView) (P : ℕ → List Lit → Type 0) (holds : Holds t P) where
  positive : (last n : ℕ) → IsNextSkipped t last n → 0 < n
  positive last n next = let b = next.behind in omega (arith, b)

  step_each : (old : Slots) (last : ℕ) (step : Step) (new : Slots) (n : ℕ) → Each P old → LogStep t old last step new n → Each P new
  step_each old last (Found atoms) new n h s = subst (Each P) (sym s.0) h
  step_each old last (Passed set better) new n h s = subst (Each P) (sym s.0) h
  step_each old last Improve new n h s = subst (Each P) (sym s.0) h
  step_each old last (Dominate set) new n h s = subst (Each P) (sym s.0) h
  step_each old last (Exclude set) new n h s = subst (Each P) (sym s.0) h
  step_each old last (Learn lits hints) new n h s =
      subst (Each P) (sym s.0.1) (put_each P old n lits (positive last n s.0.0) h (holds.learned old last n lits hints h s.0.0 s.1 s.2))
  step_each old last (Loop atom others) new n h s =
      let c = s.1.0 in
      subst (Each P) (sym s.1.2.1) (put_each P old n c (positive last n s.1.2.0) h (holds.looped last n atom others c s.1.2.0 s.0 s.1.1))
  step_each old last (Sum guard lits) new n h s =
      subst (Each P) (sym s.0.1) (put_each P old n lits (positive last n s.0.0) h (holds.summed last n guard lits s.0.0 s.1 s.2))
  step_each old last (Erase clause) new n h s = subst (Each P) (sym s.1) (λ id d at. h id d (entry_taken old clause.0 id d at))
  step_each old last (Optimal set clause) new n h s = subst (Each P) (sym s.0) h
  step_each old last (Closed clause) new n h s = subst (Each P) (sym s.0) h

  pub logged_each : (steps : List Step) (added : Slots) (last : ℕ) → IsLogged t steps added last → Each P added
  logged_each [] added last h = subst (Each P) (sym h.0) (nothing_each P)
  logged_each (step ∷ older) added last h = step_each h.0 h.1 step added last (logged_each older h.0 h.1 h.2) h.3

-- ---- the numbers are those that the theory skipped

abbrev IsSkipped : TheoryView → ℕ → List Lit → Type 0
IsSkipped t id c = (id ≤ length t.clauses) × (clause_of t id ≡ None)

skipped_holds : (t : TheoryView) → Holds t (IsSkipped t)
skipped_holds t = record {
  learned = λ old last n lits hints h next over asks. (next.within, next.skipped);
  looped = λ last n atom others c next program clause. (next.within, next.skipped);
  summed = λ last n guard lits next over implied. (next.within, next.skipped);
}

pub log_apart : (t : TheoryView) (steps : List Step) (added : Slots) → IsLog t steps added → (id : ℕ) (c : List Lit) → entry_of added id ≡ Some c → clause_of t id ≡ None
log_apart t steps added h id c at = (logged_each t (IsSkipped t) (skipped_holds t) (reverse steps) added h.last h.logged id c at).1

clause_within : (t : TheoryView) (id : ℕ) (c : List Lit) → clause_of t id ≡ Some c → id ≤ length t.clauses
clause_within t id c at = let x = from_some (λ slot. slot) (at_number t.clauses id) c at in at_number_within t.clauses id x.0 x.1

pub log_within : (t : TheoryView) (steps : List Step) (added : Slots) → IsLog t steps added → (id : ℕ) → length t.clauses < id → clause_among t added id ≡ None
log_within t steps added h id beyond = go (clause_among t added id) refl where
  inside : (c : List Lit) (o : Option (List Lit)) → clause_of t id ≡ o → either o (entry_of added id) ≡ Some c → id ≤ length t.clauses
  inside c None is at = (logged_each t (IsSkipped t) (skipped_holds t) (reverse steps) added h.last h.logged id c at).0
  inside c (Some d) is at = clause_within t id d is

  go : (o : Option (List Lit)) → clause_among t added id ≡ o → clause_among t added id ≡ None
  go None is = is
  go (Some c) is = absurd (let w = inside c (clause_of t id) refl is in omega (arith, w, beyond))

-- ---- they are over the theory's variables

-- that loop clauses are, as a law
abbrev pub LoopsAreOver : TheoryView → Type 0
LoopsAreOver t = (block : ℕ) (u : ℕ → Bool) (v : ℕ) (c : List Lit) → AreAtomsOf t block u → IsTrue (u v) → IsLoopClause t u v c → AreOver (length t.variables) c

over_holds : (t : TheoryView) → LoopsAreOver t → Holds t (λ id c. AreOver (length t.variables) c)
over_holds t loops = record {
  learned = λ old last n lits hints h next over asks. over;
  looped = λ last n atom others c next program clause. loops program.program.0 (has (atom ∷ others)) atom.0 c program.program.1 (has_first atom others) clause;
  summed = λ last n guard lits next over implied. over;
}

pub logged_over : (t : TheoryView) → LoopsAreOver t → (steps : List Step) (added : Slots) (last : ℕ) → IsLogged t steps added last → Each (λ id c. AreOver (length t.variables) c) added
logged_over t loops steps added last h = logged_each t (λ id c. AreOver (length t.variables) c) (over_holds t loops) steps added last h

pub among_over : (t : TheoryView) → IsWhole t → (added : Slots) → Each (λ id c. AreOver (length t.variables) c) added → (id : ℕ) (c : List Lit) → clause_among t added id ≡ Some c → AreOver (length t.variables) c
among_over t whole added h id c at = go (clause_of t id) refl at where
  go : (o : Option (List Lit)) → clause_of t id ≡ o → either o (entry_of added id) ≡ Some c → AreOver (length t.variables) c
  go None is q = h id c q
  go (Some d) is q = clause_over t whole id c (is ∙ q)

-- ---- they are true in each model

-- the laws of clauses that follow by hints, and of loop clauses
abbrev pub HintsAreTrue : (ℕ → Bool) → Type 0
HintsAreTrue f = (look : ℕ → Option (List Lit)) (places : ℕ) (c : List Lit) (hints : List ClauseId) → FollowsByHints look places c hints → ((id : ℕ) (d : List Lit) → look id ≡ Some d → IsTrue (clause_true f d)) → IsTrue (clause_true f c)

abbrev pub LoopsAreTrue : TheoryView → (ℕ → Bool) → Type 0
LoopsAreTrue t f = (block : ℕ) (u : ℕ → Bool) → AreAtomsOf t block u → (v : ℕ) → IsTrue (u v) → (c : List Lit) → IsLoopClause t u v c → IsTrue (clause_true f c)

module _ (t : TheoryView) (f : ℕ → Bool) (model : IsModel t f) (by_hints : HintsAreTrue f) (by_loop : LoopsAreTrue t f) where
  abbrev IsTrueHere : ℕ → List Lit → Type 0
  IsTrueHere id c = IsTrue (clause_true f c)

  among_true : (added : Slots) → Each IsTrueHere added → (id : ℕ) (c : List Lit) → clause_among t added id ≡ Some c → IsTrue (clause_true f c)
  among_true added h id c at = true_of_either f (clause_of t id) (entry_of added id) c (model.clauses id) (h id) at

  true_holds : Holds t IsTrueHere
  true_holds = record {
    learned = λ old last n lits hints h next over asks.
        by_hints (below n (clause_among t old)) (length t.variables + 1) lits hints asks.1.0 (λ id d at. among_true old h id d (below_some n (clause_among t old) id d at));
    looped = λ last n atom others c next program clause. by_loop program.program.0 (has (atom ∷ others)) program.program.1 atom.0 (has_first atom others) c clause;
    summed = λ last n guard lits next over implied. sum_clause_true t guard lits implied f model;
  }

  pub log_true : (steps : List Step) (added : Slots) → IsLog t steps added → (id : ℕ) (c : List Lit) → clause_among t added id ≡ Some c → IsTrue (clause_true f c)
  log_true steps added h id c at = among_true added (logged_each t IsTrueHere true_holds (reverse steps) added h.last h.logged) id c at
