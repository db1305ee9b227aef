-- A log that is valid over a theory is valid over a longer one, step by step.
use Rattle.std.proofs.Common.{◌≡◌, ℕ, ◌+◌, ◌<◌, ◌≤◌, inl, inr, Bool, true, false, List, [], ◌∷◌, length, take, drop, Option, Some, None, refl, ap, sym, ◌∙◌, subst, arith}
use Rattle.std.specs.Prelude.{reverse, IsSome, IsSomeAnd, nat_lt}
use Rattle.std.specs.List.{All}
use Rattle.std.proofs.lemmas.Bool.{cases_lt, ltb-true}
use mathlib.Core.Path.{fun_ext}
use Rattle.theory_form.specs.declared.literals.Lit.{Lit}
use Rattle.theory_form.specs.declared.literals.ClauseId.{ClauseId}
use Rattle.theory_form.specs.declared.rows.SumRow.{SumRow}
use Rattle.theory_form.specs.Hints.{FollowsByHints}
use Rattle.theory_form.specs.Kinds.{sum_row}
use Rattle.theory_form.specs.Theories.{TheoryView, Extends, row_of}
use Rattle.theory_model.specs.Loops.{AreAtomsOf, IsLoopClause}
use Rattle.theory_model.specs.Whole.{AreOver, IsWhole}
use Rattle.theory_model.proofs.GrowthLemmas.{atoms_longer, clause_kept, longer_look}
use Rattle.agg_nogoods.specs.Implied.{IsImplied}
use Rattle.loop_nogoods.specs.Sets.{has}
use Rattle.proof_log.specs.declared.steps.Step.{Step}
use Rattle.proof_log.specs.declared.steps.Step.TheVariants.{Found, Passed, Improve, Dominate, Exclude, Learn, Loop, Sum, Erase, Optimal, Closed}
use Rattle.proof_log.specs.Logs.{IsLog, IsLogged, IsNextSkipped, LogStep, SkipsNoMore, below}
use Rattle.proof_log.specs.States.{clause_among, either, entry_of}
use Rattle.proof_log.specs.Valid.{LearnAsks}
use Rattle.proof_log.proofs.LogLemmas.{LoopsAreOver, among_over, below_some, logged_over}
use Rattle.proof_log.proofs.TruthLemmas.{Slots}

front_length : {A : Type 0} (xs ys : List A) → take (length xs) ys ≡ xs → length xs ≤ length ys
front_length [] ys h = omega arith
front_length (x ∷ xs) [] h = absurd (let z : length (x ∷ xs) ≡ 0 = sym (ap length h) in omega (arith, z))
front_length (x ∷ xs) (y ∷ ys) h =
    let tail : take (length xs) ys ≡ xs = ap (λ zs. drop 1 zs) h in
    let r = front_length xs ys tail in
    omega (arith, r)

over_more : (n m : ℕ) → n ≤ m → (c : List Lit) → AreOver n c → AreOver m c
over_more n m le c h k d within = let x = h k d within in (x.0, let y = x.1 in omega (arith, y, le))

below_end : (n : ℕ) (c : List Lit) → AreOver n c → All (λ l. l.var.0 < n + 1) c
below_end n c h k d within = let x = (h k d within).1 in omega (arith, x)

-- the laws that are used
abbrev pub HintsHold : Type 0
HintsHold = (n m : ℕ) (look : ℕ → Option (List Lit)) (c : List Lit) (hints : List ClauseId) → n ≤ m → All (λ l. l.var.0 < n) c → ((id : ℕ) (d : List Lit) → look id ≡ Some d → All (λ l. l.var.0 < n) d) → FollowsByHints look n c hints → FollowsByHints look m c hints

abbrev pub LoopsStay : TheoryView → TheoryView → Type 0
LoopsStay s t = (block : ℕ) (u : ℕ → Bool) (v : ℕ) (c : List Lit) → AreAtomsOf s block u → IsLoopClause s u v c → IsLoopClause t u v c

module _ (s t : TheoryView) (e : Extends s t) (whole : IsWhole s) (hints_hold : HintsHold) (loops_over : LoopsAreOver s) (loops_stay : LoopsStay s t) where
  longer : length s.variables ≤ length t.variables
  longer = front_length s.variables t.variables e.variables

  next_stays : (last k : ℕ) → IsNextSkipped s last k → IsNextSkipped t last k
  next_stays last k h =
      let w = h.within in
      let le = front_length s.clauses t.clauses e.clauses in
      record {
        behind = h.behind;
        within = omega (arith, w, le);
        skipped = clause_kept s t e k w ∙ h.skipped;
        between = λ j a b. subst (λ o. IsSome o) (sym (clause_kept s t e j (omega (arith, w, b)))) (h.between j a b);
      }

  look_stays : (k : ℕ) (old : Slots) → k ≤ length s.clauses → below k (clause_among t old) ≡ below k (clause_among s old)
  look_stays k old le = fun_ext (λ id. go id (nat_lt id k) refl) where
    go : (id : ℕ) (b : Bool) → nat_lt id k ≡ b → below k (clause_among t old) id ≡ below k (clause_among s old) id
    go id false x = rw x refl
    go id true x = rw x (ap (λ o. either o (entry_of old id)) (clause_kept s t e id (let z = ltb-true id k x in omega (arith, z, le))))

  row_to : (v : ℕ) (c : List Lit) (o : Option SumRow) → row_of s v ≡ o → IsSomeAnd o (λ row. IsImplied row c) → IsSomeAnd (row_of t v) (λ row. IsImplied row c)
  row_to v c None is h = absurd h
  row_to v c (Some row) is h =
      let later : row_of t v ≡ Some row = longer_look (sum_row v) s.variables t.variables v row e.variables is in
      subst (λ o. IsSomeAnd o (λ r. IsImplied r c)) (sym later) h

  learned : (old : Slots) (k : ℕ) (lits : List Lit) (hints : List ClauseId) → ((id : ℕ) (c : List Lit) → clause_among s old id ≡ Some c → AreOver (length s.variables) c) → k ≤ length s.clauses → AreOver (length s.variables) lits → LearnAsks (below k (clause_among s old)) (length s.variables + 1) lits hints None → LearnAsks (below k (clause_among t old)) (length t.variables + 1) lits hints None
  learned old k lits hints over within o asks =
      let look = look_stays k old within in
      let le = longer in
      let follows = hints_hold (length s.variables + 1) (length t.variables + 1) (below k (clause_among s old)) lits hints (omega (arith, le)) (below_end (length s.variables) lits o)
      (λ id d at. below_end (length s.variables) d (over id d (below_some k (clause_among s old) id d at))) asks.1.0 in
      subst (λ (f : ℕ → Option (List Lit)). LearnAsks f (length t.variables + 1) lits hints None) (sym look) (asks.0, (follows, tt))

  step_stays : (old : Slots) (last : ℕ) (step : Step) (new : Slots) (k : ℕ) → ((id : ℕ) (c : List Lit) → clause_among s old id ≡ Some c → AreOver (length s.variables) c) → LogStep s old last step new k → LogStep t old last step new k
  step_stays old last (Found atoms) new k over x = x
  step_stays old last (Passed set better) new k over x = x
  step_stays old last Improve new k over x = x
  step_stays old last (Dominate set) new k over x = x
  step_stays old last (Exclude set) new k over x = x
  step_stays old last (Learn lits hints) new k over x = (
    (next_stays last k x.0.0, x.0.1),
    over_more (length s.variables) (length t.variables) longer lits x.1,
    learned old k lits hints over x.0.0.within x.1 x.2,
  )
  step_stays old last (Loop atom others) new k over x =
      let p = x.0.program in (
        record { apart = x.0.apart; program = (p.0, atoms_longer s t e p.0 (has (atom ∷ others)) p.1) },
        (x.1.0, loops_stay p.0 (has (atom ∷ others)) atom.0 x.1.0 p.1 x.1.1, (next_stays last k x.1.2.0, x.1.2.1)),
      )
  step_stays old last (Sum guard lits) new k over x =
      ((next_stays last k x.0.0, x.0.1), over_more (length s.variables) (length t.variables) longer lits x.1, row_to guard.0 lits (row_of s guard.0) refl x.2)
  step_stays old last (Erase clause) new k over x = x
  step_stays old last (Optimal set clause) new k over x = x
  step_stays old last (Closed clause) new k over x = x

  logged_stays : (steps : List Step) (added : Slots) (last : ℕ) → IsLogged s steps added last → IsLogged t steps added last
  logged_stays [] added last h = h
  logged_stays (step ∷ older) added last h =
      (h.0, h.1, logged_stays older h.0 h.1 h.2, step_stays h.0 h.1 step added last (among_over s whole h.0 (logged_over s loops_over older h.0 h.1 h.2)) h.3)

  pub log_stays : (steps : List Step) (added : Slots) → SkipsNoMore s t → IsLog s steps added → IsLog t steps added
  log_stays steps added fresh h =
      let le = front_length s.clauses t.clauses e.clauses in
      let w = h.within in
      record {
        last = h.last;
        logged = logged_stays (reverse steps) added h.last h.logged;
        within = omega (arith, w, le);
        none_behind = λ k a b. elim (cases_lt (length s.clauses) k) [
          | inl beyond ↦ fresh k beyond b
          | inr inside ↦ subst (λ x. IsSome x) (sym (clause_kept s t e k inside)) (h.none_behind k a inside)
        ];
      }
