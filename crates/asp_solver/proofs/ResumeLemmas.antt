-- A solver of a theory, and one whose theory came back with more.
use Rattle.std.proofs.Common.{◌≡◌, ℕ, zero, suc, ◌+◌, ◌*◌, ◌^◌, ◌<◌, ◌≤◌, ◌⊎◌, inl, inr, ◌++◌, Bool, false, List, [], ◌∷◌, length, take, Option, Some, None, get_or, refl, ap, sym, ◌∙◌, subst, arith, append_assoc}
use Rattle.std.specs.List.{All, AllPairs}
use Rattle.std.specs.Prelude.{IsSome}
use Rattle.std.proofs.lemmas.Bool.{cases_lt}
use Rattle.std.proofs.lemmas.List.{append-nil}
use Rattle.std.proofs.Math.Nat.{pow-le-pow_right}
use Rattle.theory_form.specs.declared.literals.Lit.{Lit}
use Rattle.theory_form.specs.declared.literals.ClauseId.{ClauseId}
use Rattle.theory_form.specs.Numbers.{at_number}
use Rattle.theory_form.proofs.NumberLemmas.{at_number-kept}
use Rattle.theory_form.specs.Theories.{Extends, TheoryView, clause_of}
use Rattle.std.specs.Option.{option_and_then}
use Rattle.theory_model.specs.Whole.{AreOver, IsWhole}
use Rattle.asp_store.specs.Store.{State, clause_at}
use Rattle.proof_log.specs.declared.steps.Step.{Step}
use Rattle.proof_log.specs.Logs.{IsLog}
use Rattle.proof_log.specs.States.{StateView, clause_among, clause_in, either, entry_of}
use Rattle.proof_log.specs.Steps.{IsJudged, LogView}
use Rattle.search_law.specs.Few.{IsPlainClause}
use Rattle.asp_engine.specs.declared.engine.Engine.{Engine}
use Rattle.asp_engine.specs.declared.engine.Parts.{Parts}
use Rattle.asp_engine.specs.declared.periods.Query.{Query}
use Rattle.asp_engine.specs.Keys.{AreUnmarked, HasTaken, IsSameTheory}
use Rattle.asp_engine.specs.Periods.{IsPeriod}
use Rattle.asp_solver.specs.Conditions.{CanSearch, ComesBack, SkipsNone}
use Rattle.asp_solver.specs.Holding.{Holds}
use Rattle.asp_solver.proofs.StateLemmas.{StayValid, log_same, same_back}
use Rattle.asp_engine.proofs.KeyLemmas.{same_self, whole_same}

-- the laws of clauses that are kept, and of logs without steps
abbrev pub AreOverLaw : Type 0
AreOverLaw = (t : TheoryView) (steps : List Step) (added : List (Option (List Lit))) → IsLog t steps added → IsWhole t → (id : ℕ) (c : List Lit) → clause_among t added id ≡ Some c → AreOver (length t.variables) c

abbrev pub AreWithinLaw : Type 0
AreWithinLaw = (t : TheoryView) (steps : List Step) (added : List (Option (List Lit))) → IsLog t steps added → (id : ℕ) → length t.clauses < id → clause_among t added id ≡ None

abbrev pub NoneLaw : Type 0
NoneLaw = (t : TheoryView) → ((k : ℕ) → 0 < k → k ≤ length t.clauses → IsSome (clause_of t k)) → IsLog t [] []

abbrev pub OthersLaw : Type 0
OthersLaw = (t : TheoryView) (steps : List Step) (added : List (Option (List Lit))) (step : Step) → (IsJudged step → ⊥) → IsLog t steps added → IsLog t (steps ++ step ∷ []) added

no_entry : (id : ℕ) → entry_of [] id ≡ None
no_entry zero = refl
no_entry (suc k) = refl

pub holds_new : AreOverLaw → AreWithinLaw → NoneLaw → (span : ℕ) (e : Engine) → CanSearch e.theory → SkipsNone e.theory → e.log.steps ≡ [] → e.parts.store ≡ record { clauses = []; entries = []; places = 0; next_key = 0 } → e.parts.numbers.items ≡ [] → e.parts.marks ≡ [] → e.parts.span ≡ span → Holds span e [] 0
holds_new over within none span e can skips steps store numbers marks span_is =
    let v : StateView = record { theory = e.theory; optimised = false; added = []; places = 0 } in
    let log : IsLog e.theory e.log.steps [] = subst (λ xs. IsLog e.theory xs []) (sym steps) (none e.theory skips) in
    let no_clause : (k : ℕ) (c : List Lit) → clause_at e.parts.store.clauses k ≡ Some c → ⊥ = λ k c at.
    let z : None ≡ Some c = ap (λ (s : State). clause_at s.clauses k) (sym store) ∙ at in absurd cc in
    record {
      state = v;
      has_taken = record {
        theory = same_self e.theory;
        whole = can.2.whole;
        log = log;
        beyond = λ id above. within e.theory e.log.steps [] log id above;
        over = λ id c at. over e.theory e.log.steps [] log can.2.whole id c at;
        keys = λ k c at. absurd (no_clause k c at);
        within = λ k c at. absurd (no_clause k c at);
        once = λ k m c d a b q. absurd (no_clause k c a);
        all = λ id c le at. absurd (
            let is : id ≡ 0 = omega (arith, le) in
            let z : None ≡ Some c = ap (λ k. clause_in v k) (sym is) ∙ at in cc);
        later = λ id above. no_entry id;
      };
      most = (omega arith);
      places = (let p = ap (λ (s : State). s.places) store in omega (arith, p));
      marks = subst (λ m. AreUnmarked (length m) m) (sym marks) (λ k low. absurd (omega (arith, low)));
      span_is = span_is;
      can_search = can;
      apart = λ i j d less w. absurd (omega (arith, w));
      periods = λ k d w. absurd (omega (arith, w));
    }

-- ---- what came back

front_length : {A : Type 0} (xs ys : List A) → take (length xs) ys ≡ xs → length xs ≤ length ys
front_length [] ys h = omega arith
front_length (x ∷ xs) [] h = absurd (let z : length (x ∷ xs) ≡ 0 = sym (ap length h) in omega (arith, z))
front_length (x ∷ xs) (y ∷ ys) h =
    let tail : take (length xs) ys ≡ xs = ap (λ zs. rest zs) h in
    let r = front_length xs ys tail in
    omega (arith, r) where
      rest : {A : Type 0} → List A → List A
      rest [] = []
      rest (z ∷ zs) = zs

-- a clause of an old number is what it was
clause_kept : (s t : TheoryView) → Extends s t → (id : ℕ) → id ≤ length s.clauses → clause_of t id ≡ clause_of s id
clause_kept s t e id le =
    ap (option_and_then (λ (slot : Option (List Lit)). slot)) (sym (at_number-kept t.clauses (length s.clauses) id le))
    ∙ ap (λ xs. option_and_then (λ (slot : Option (List Lit)). slot) (at_number xs id)) e.clauses

log_more : OthersLaw → (t : TheoryView) (steps more : List Step) (added : List (Option (List Lit))) → All (λ step. IsJudged step → ⊥) more → IsLog t steps added → IsLog t (steps ++ more) added
log_more law t steps [] added others h = subst (λ xs. IsLog t xs added) (sym (append-nil steps)) h
log_more law t steps (step ∷ more) added others h =
    subst (λ xs. IsLog t xs added) (append_assoc steps (step ∷ []) more)
    (log_more law t (steps ++ step ∷ []) more added (λ k d w. others (suc k) d (omega (arith, w))) (law t steps added step (others 0 step (omega arith)) h))

over_more : (n m : ℕ) (c : List Lit) → n ≤ m → AreOver n c → AreOver m c
over_more n m c le h k d w = let x = h k d w in (x.0, (let y = x.1 in omega (arith, y, le)))

period_longer : (span n m : ℕ) (v w : StateView) (q : Query) → n ≤ m → ((k : ClauseId) (c : List Lit) → clause_in v k.0 ≡ Some c → clause_in w k.0 ≡ clause_in v k.0) → IsPeriod span n v q.period → IsPeriod span m w q.period
period_longer span n m v w q le same h = record {
  number = h.number;
  before = (let x = h.before in let y = pow-le-pow_right {n = 3} (omega arith) {i = n} {j = m} le in omega (arith, x, y));
  few = h.few;
  ascending = h.ascending;
  kept = λ i d u.
      let x = h.kept i d u in
      (x.0, same (get_or q.period.learned i d) x.0 x.1 ∙ x.1, record { ascending = x.2.ascending; consistent = x.2.consistent; over = over_more n m x.0 le x.2.over });
  different = λ i j d less u c a b.
      let x = h.kept i d (omega (arith, less, u)) in
      let y = h.kept j d u in
      h.different i j d less u c (sym (same (get_or q.period.learned i d) x.0 x.1) ∙ a) (sym (same (get_or q.period.learned j d) y.0 y.1) ∙ b);
}

pub holds_resumed : StayValid → AreOverLaw → AreWithinLaw → OthersLaw → (span taken : ℕ) (s t : TheoryView) (old new : LogView) (parts : Parts) (qs : List Query) → ComesBack s old.steps t new.steps → Holds span (record { theory = s; log = old; parts = parts }) qs taken → Holds span (record { theory = t; log = new; parts = parts }) qs taken
holds_resumed stays over within others span taken s t old new parts qs back h =
    let x = h.has_taken in
    let v : StateView = h.state in
    let w : StateView = record { theory = t; optimised = false; added = v.added; places = 0 } in
    let e = back.extends in
    let more_vars = front_length s.variables t.variables e.variables in
    let more_clauses = front_length s.clauses t.clauses e.clauses in
    let whole_v = whole_same s v.theory (sym x.theory.variables) (sym x.theory.clauses) x.whole in
    let log_s : IsLog s old.steps v.added = log_same stays v.theory s old.steps v.added x.theory whole_v x.log in
    let log_t : IsLog t old.steps v.added = stays s t old.steps v.added e x.whole back.skips log_s in
    let log_all : IsLog t new.steps v.added = subst (λ xs. IsLog t xs v.added) (sym back.steps_are) (log_more others t old.steps back.more v.added back.others log_t) in
    let whole_t : IsWhole t = back.can_search.2.whole in
    let same : (id : ℕ) → id ≤ length s.clauses → clause_in w id ≡ clause_in v id = λ id le.
    ap (λ o. either o (entry_of v.added id)) (clause_kept s t e id le ∙ ap (λ cs. clause_of (record s { clauses = cs }) id) (sym x.theory.clauses)) in
    let low : (id : ℕ) (c : List Lit) → clause_in v id ≡ Some c → id ≤ length s.clauses = λ id c at. elim (cases_lt (length v.theory.clauses) id) [
      | inl above ↦ absurd (let z : Some c ≡ None = sym at ∙ x.beyond id above in cc)
      | inr le ↦ let count = ap length x.theory.clauses in omega (arith, le, count)
    ] in
    record {
      state = w;
      has_taken = record {
        theory = same_self t;
        whole = whole_t;
        log = log_all;
        beyond = λ id above. within t new.steps v.added log_all id above;
        over = λ id c at. over t new.steps v.added log_all whole_t id c at;
        keys = λ k c at. let there = x.keys k c at in same _ (low _ c there) ∙ there;
        within = x.within;
        once = x.once;
        all = λ id c le at. let most = h.most in x.all id c le (sym (same id (omega (arith, le, most))) ∙ at);
        later = x.later;
      };
      most = (let most = h.most in omega (arith, most, more_clauses));
      places = (let p = h.places in omega (arith, p, more_vars));
      marks = h.marks;
      span_is = h.span_is;
      can_search = back.can_search;
      apart = h.apart;
      periods = λ i d u. period_longer span (length s.variables) (length t.variables) v w (get_or qs i d) more_vars (λ k c at. same k.0 (low k.0 c at)) (h.periods i d u);
    }
