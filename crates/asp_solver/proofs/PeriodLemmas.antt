-- What the steps of a query do to the periods of open queries.
use Rattle.std.proofs.Common.{◌≡◌, ℕ, zero, suc, ◌+◌, ◌-◌, ◌*◌, ◌/◌, ◌%◌, ◌^◌, ◌<◌, ◌≤◌, ◌≢◌, ◌⊎◌, inl, inr, ◌++◌, Bool, true, false, if◌then◌else◌, List, [], ◌∷◌, length, Option, Some, None, get_or, refl, ap, sym, ◌∙◌, subst, arith, length-append, mul_comm}
use Rattle.std.specs.Prelude.{IsSomeAnd, IsFalse, nat_le}
use Rattle.std.specs.List.{All, AllPairs, Contains}
use Rattle.std.proofs.lemmas.Bool.{cases_eq, cases_lt}
use Rattle.std.proofs.Math.Nat.{add-mul, mul-suc, suc-mul}
use Rattle.std.proofs.lemmas.Nat.{mul-le}
use Rattle.std.proofs.lemmas.List.Elements.{Contains-get_or}
use Rattle.theory_form.specs.declared.literals.Lit.{Lit}
use Rattle.theory_form.specs.declared.literals.ClauseId.{ClauseId}
use Rattle.theory_form.specs.Theories.{Extends, TheoryView}
use Rattle.theory_form.proofs.ExtendLemmas.{Extends-same, Extends-clause, Extends-reserved}
use Rattle.proof_log.specs.declared.steps.Step.{Step}
use Rattle.proof_log.specs.declared.steps.Step.TheVariants.{Found, Passed, Improve, Dominate, Exclude, Learn, Loop, Sum, Erase, Optimal, Closed}
use Rattle.proof_log.specs.Logs.{IsNew}
use Rattle.proof_log.specs.States.{StateView, clause_in, with_clause, without_clause}
use Rattle.search_law.specs.Few.{AreDifferent, IsPlainClause}
use Rattle.asp_engine.specs.declared.periods.Period.{Period}
use Rattle.asp_engine.specs.Moves.{Does, IsMove, Leads, Moment, learned, learns, moment}
use Rattle.asp_engine.specs.Periods.{AreAscendingIds, IsPeriod, after_learning, begun, ends, enough, learned_by, up_to}
use Rattle.asp_engine.proofs.KeyLemmas.{clause_with_other, clause_with_own, clause_without_other}

-- ---- lists

pub all_push : {A : Type 0} (P : A → Type 0) (xs : List A) (x : A) → All P xs → P x → All P (xs ++ x ∷ [])
all_push P [] x h p zero d w = p
all_push P [] x h p (suc k) d w = absurd (omega arith)
all_push P (y ∷ xs) x h p zero d w = h 0 d (omega arith)
all_push P (y ∷ xs) x h p (suc k) d w = all_push P xs x (λ j e u. h (suc j) e (omega arith)) p k d (omega arith)

all_tail : {A : Type 0} (P : A → Type 0) (x : A) (xs : List A) → All P (x ∷ xs) → All P xs
all_tail P x xs h k d w = h (suc k) d (omega (arith, w))

pairs_tail : {A : Type 0} (R : A → A → Type 0) (x : A) (xs : List A) → AllPairs R (x ∷ xs) → AllPairs R xs
pairs_tail R x xs h i j d less w = h (suc i) (suc j) d (omega (arith, less)) (omega (arith, w))

pairs_head : {A : Type 0} (R : A → A → Type 0) (x : A) (xs : List A) → AllPairs R (x ∷ xs) → All (R x) xs
pairs_head R x xs h k d w = h 0 (suc k) d (omega arith) (omega (arith, w))

pairs_cons : {A : Type 0} (R : A → A → Type 0) (x : A) (xs : List A) → All (R x) xs → AllPairs R xs → AllPairs R (x ∷ xs)
pairs_cons R x xs a p zero zero d less w = absurd (omega (arith, less))
pairs_cons R x xs a p zero (suc j) d less w = a j d (omega (arith, w))
pairs_cons R x xs a p (suc i) zero d less w = absurd (omega (arith, less))
pairs_cons R x xs a p (suc i) (suc j) d less w = p i j d (omega (arith, less)) (omega (arith, w))

pairs_none : {A : Type 0} (R : A → A → Type 0) → AllPairs R []
pairs_none R i j d less w = absurd (omega (arith, w))

all_none : {A : Type 0} (P : A → Type 0) → All P []
all_none P k d w = absurd (omega (arith, w))

pub pairs_push : {A : Type 0} (R : A → A → Type 0) (xs : List A) (x : A) → AllPairs R xs → All (λ y. R y x) xs → AllPairs R (xs ++ x ∷ [])
pairs_push R [] x p a = pairs_cons R x [] (all_none (R x)) (pairs_none R)
pairs_push R (y ∷ xs) x p a =
    pairs_cons R y (xs ++ x ∷ []) (all_push (R y) xs x (pairs_head R y xs p) (a 0 y (omega arith))) (pairs_push R xs x (pairs_tail R y xs p) (all_tail (λ z. R z x) y xs a))

-- ---- the clauses of a period

abbrev Kept : ℕ → StateView → ClauseId → Type 0
Kept vars v k = (c : List Lit) × (clause_in v k.0 ≡ Some c) × IsPlainClause vars c

abbrev Differ : StateView → ClauseId → ClauseId → Type 0
Differ v k m = (c : List Lit) → clause_in v k.0 ≡ Some c → clause_in v m.0 ≡ Some c → ⊥

-- the clauses of these numbers
clauses_of : (vars : ℕ) (v : StateView) (ids : List ClauseId) → All (Kept vars v) ids → List (List Lit)
clauses_of vars v [] h = []
clauses_of vars v (k ∷ ids) h = (h 0 k (omega arith)).0 ∷ clauses_of vars v ids (all_tail (Kept vars v) k ids h)

length-clauses_of : (vars : ℕ) (v : StateView) (ids : List ClauseId) (h : All (Kept vars v) ids) → length (clauses_of vars v ids h) ≡ length ids
unfolding clauses_of
length-clauses_of vars v [] h = refl
length-clauses_of vars v (k ∷ ids) h = ap suc (length-clauses_of vars v ids (all_tail (Kept vars v) k ids h))

clauses_plain : (vars : ℕ) (v : StateView) (ids : List ClauseId) (h : All (Kept vars v) ids) → All (IsPlainClause vars) (clauses_of vars v ids h)
unfolding clauses_of
clauses_plain vars v [] h i d w = absurd (omega (arith, w))
clauses_plain vars v (k ∷ ids) h zero d w = (h 0 k (omega arith)).2
clauses_plain vars v (k ∷ ids) h (suc i) d w = clauses_plain vars v ids (all_tail (Kept vars v) k ids h) i d (omega (arith, w))

clauses_apart : (vars : ℕ) (v : StateView) (c : List Lit) (ids : List ClauseId) (h : All (Kept vars v) ids) → All (λ k. clause_in v k.0 ≡ Some c → ⊥) ids → All (λ d. c ≢ d) (clauses_of vars v ids h)
unfolding clauses_of
clauses_apart vars v c [] h a i d w = absurd (omega (arith, w))
clauses_apart vars v c (k ∷ ids) h a zero d w = λ same. a 0 k (omega arith) ((h 0 k (omega arith)).1 ∙ ap (λ (x : List Lit). Some x) (sym same))
clauses_apart vars v c (k ∷ ids) h a (suc i) d w = clauses_apart vars v c ids (all_tail (Kept vars v) k ids h) (all_tail (λ k. clause_in v k.0 ≡ Some c → ⊥) k ids a) i d (omega (arith, w))

clauses_different : (vars : ℕ) (v : StateView) (ids : List ClauseId) (h : All (Kept vars v) ids) → AllPairs (Differ v) ids → AreDifferent (clauses_of vars v ids h)
unfolding clauses_of
clauses_different vars v [] h p = pairs_none (λ c d. c ≢ d)
clauses_different vars v (k ∷ ids) h p =
    let x = h 0 k (omega arith) in
    pairs_cons (λ c d. c ≢ d) x.0 (clauses_of vars v ids (all_tail (Kept vars v) k ids h))
    (clauses_apart vars v x.0 ids (all_tail (Kept vars v) k ids h) (λ i d w at. pairs_head (Differ v) k ids p i d w x.0 x.1 at))
    (clauses_different vars v ids (all_tail (Kept vars v) k ids h) (pairs_tail (Differ v) k ids p))

-- the law of few clauses
abbrev pub AreFew : Type 0
AreFew = (n : ℕ) (cs : List (List Lit)) → All (IsPlainClause n) cs → AreDifferent cs → length cs ≤ 3 ^ n

few_ids : AreFew → (vars : ℕ) (v : StateView) (ids : List ClauseId) → All (Kept vars v) ids → AllPairs (Differ v) ids → length ids ≤ 3 ^ vars
few_ids few vars v ids h p =
    let le = few vars (clauses_of vars v ids h) (clauses_plain vars v ids h) (clauses_different vars v ids h p) in
    let len = length-clauses_of vars v ids h in
    omega (arith, le, len)

-- ---- where the clauses of a period stay

pub period_same : (span vars : ℕ) (v w : StateView) (p : Period) → All (λ k. clause_in w k.0 ≡ clause_in v k.0) p.learned → IsPeriod span vars v p → IsPeriod span vars w p
period_same span vars v w p same h = record {
  number = h.number;
  before = h.before;
  few = h.few;
  ascending = h.ascending;
  kept = λ i d u. let x = h.kept i d u in (x.0, same i d u ∙ x.1, x.2);
  different = λ i j d less u c a b. h.different i j d less u c (sym (same i d (omega (arith, less, u))) ∙ a) (sym (same j d u) ∙ b);
}

-- a period without clauses
pub period_begun : (span vars : ℕ) (v : StateView) (p : Period) → 0 < span → 0 < p.number → span * p.number ≤ 3 ^ vars + span → p.learned ≡ [] → IsPeriod span vars v p
period_begun span vars v p positive number before none = record {
  number = number;
  before = before;
  few = (let x = mul-le 1 1 span p.number (omega (arith, positive)) (omega (arith, number)) in let y = ap length none in omega (arith, x, y));
  ascending = subst AreAscendingIds (sym none) (pairs_none (λ (k m : ClauseId). k.0 < m.0));
  kept = subst (All (Kept vars v)) (sym none) (all_none (Kept vars v));
  different = subst (AllPairs (Differ v)) (sym none) (pairs_none (Differ v));
}

-- ---- one step

-- what holds at a moment of a query
pub record Goes (span vars : ℕ) (m : Moment) : Type 0 where
  pub variables : length m.state.theory.variables ≡ vars
  pub beyond : (id : ℕ) → length m.state.theory.clauses < id → clause_in m.state id ≡ None
  pub period : IsPeriod span vars m.state m.period
  pub fresh : m.ended ≡ true → m.period.learned ≡ []

inside : (v : StateView) (id : ℕ) (c : List Lit) → ((k : ℕ) → length v.theory.clauses < k → clause_in v k ≡ None) → clause_in v id ≡ Some c → id ≤ length v.theory.clauses
inside v id c beyond at = elim (cases_lt (length v.theory.clauses) id) [
  | inl above ↦ absurd (let z : Some c ≡ None = sym at ∙ beyond id above in cc)
  | inr le ↦ le
]

beyond_with : (v : StateView) (c : List Lit) → ((k : ℕ) → length v.theory.clauses < k → clause_in v k ≡ None) → (k : ℕ) → length (with_clause v c).theory.clauses < k → clause_in (with_clause v c) k ≡ None
beyond_with v c beyond k above =
    let none : Option (List Lit) = None in
    let len = length-append v.theory.clauses (none ∷ []) in
    clause_with_other v c k (λ e. absurd (omega (arith, len, above, e))) ∙ beyond k (omega (arith, len, above))

kept_with : (span vars : ℕ) (v : StateView) (c : List Lit) (p : Period) → ((k : ℕ) → length v.theory.clauses < k → clause_in v k ≡ None) → IsPeriod span vars v p → All (λ k. clause_in (with_clause v c) k.0 ≡ clause_in v k.0) p.learned
kept_with span vars v c p beyond h i d u =
    let x = h.kept i d u in
    let le = inside v (get_or p.learned i d).0 x.0 beyond x.1 in
    clause_with_other v c (get_or p.learned i d).0 (λ e. absurd (omega (arith, le, e)))

-- a clause more that is not of the period
pub goes_late : (span vars : ℕ) (m n : Moment) (c : List Lit) → n.state ≡ with_clause m.state c → n.period ≡ m.period → n.ended ≡ false → Goes span vars m → Goes span vars n
goes_late span vars m n c state period ended h =
    let x : Goes span vars (moment (with_clause m.state c) m.period false) = record {
      variables = h.variables;
      beyond = beyond_with m.state c h.beyond;
      period = period_same span vars m.state (with_clause m.state c) m.period (kept_with span vars m.state c m.period h.beyond h.period) h.period;
      fresh = λ e. absurd (let z : false ≡ true = e in cc);
    } in
    subst (Goes span vars) (λ i. record { state = sym state i; period = sym period i; ended = sym ended i }) x

bool_cases : (b : Bool) → (b ≡ true) ⊎ (b ≡ false)
bool_cases true = inl refl
bool_cases false = inr refl

nat_le-true : (a b : ℕ) → nat_le a b ≡ true → a ≤ b
nat_le-true a b h = grind (arith, h)

nat_le-false : (a b : ℕ) → nat_le a b ≡ false → b < a
nat_le-false a b h = grind (arith, h)

-- the period with the clause that was learned
module _ (few : AreFew) (span vars : ℕ) (positive : 0 < span) (m : Moment) (c : List Lit) (id : ClauseId) (number : id.0 ≡ length m.state.theory.clauses + 1) (plain : IsPlainClause vars c) (fresh : IsNew (clause_in m.state) c) (h : Goes span vars m) where
  abbrev after : StateView
  after = with_clause m.state c

  same : All (λ k. clause_in after k.0 ≡ clause_in m.state k.0) m.period.learned
  same = kept_with span vars m.state c m.period h.beyond h.period

  own : clause_in after id.0 ≡ Some c
  own = clause_with_own m.state c id.0 number

  old : IsPeriod span vars after m.period
  old = period_same span vars m.state after m.period same h.period

  pub kept_all : All (Kept vars after) (m.period.learned ++ id ∷ [])
  kept_all = all_push (Kept vars after) m.period.learned id old.kept (c, own, plain)

  pub different_all : AllPairs (Differ after) (m.period.learned ++ id ∷ [])
  different_all = pairs_push (Differ after) m.period.learned id old.different (λ i d u e a b.
      let there : Some c ≡ Some e = sym own ∙ b in
      let is : c ≡ e = cc in
      let x = h.period.kept i d u in
      let was : clause_in m.state (get_or m.period.learned i d).0 ≡ Some c = sym (same i d u) ∙ (a ∙ ap (λ (y : List Lit). Some y) (sym is)) in
      fresh (get_or m.period.learned i d).0 c was (λ k l w. Contains-get_or c k l w))

  pub ascending_all : AreAscendingIds (m.period.learned ++ id ∷ [])
  ascending_all = pairs_push (λ (k j : ClauseId). k.0 < j.0) m.period.learned id h.period.ascending (λ i d u.
      let x = h.period.kept i d u in
      let le = inside m.state (get_or m.period.learned i d).0 x.0 h.beyond x.1 in
      omega (arith, le, number))

  count : length (m.period.learned ++ id ∷ []) ≡ length m.period.learned + 1
  count = length-append m.period.learned (id ∷ [])

  few_all : length m.period.learned + 1 ≤ 3 ^ vars
  few_all = let x = few_ids few vars after (m.period.learned ++ id ∷ []) kept_all different_all in let y = count in omega (arith, x, y)

  pub goes_learned : (n : Moment) → n.state ≡ after → n.period ≡ after_learning span m.period id → n.ended ≡ ends span m.period → Goes span vars n
  goes_learned n state period ended = elim (bool_cases (ends span m.period)) [
    | inl over ↦
        let p : Period = begun (m.period.number + 1) in
        let is : n.period ≡ p = period ∙ ap (λ b. if b then begun (m.period.number + 1) else (record { number = m.period.number; learned = m.period.learned ++ id ∷ [] })) over in
        let low = nat_le-true (span * m.period.number) (length m.period.learned + 1) over in
        let most = few_all in
        let step = mul-suc span m.period.number in
        let next : span * (m.period.number + 1) ≡ span * m.period.number + span = let e : m.period.number + 1 ≡ suc m.period.number = omega arith in rw e step in
        let x : Goes span vars (moment after p true) = record {
          variables = h.variables;
          beyond = beyond_with m.state c h.beyond;
          period = period_begun span vars after p positive (omega arith) (omega (arith, next, low, most)) refl;
          fresh = λ e. refl;
        } in
        subst (Goes span vars) (λ i. record { state = sym state i; period = sym is i; ended = sym (ended ∙ over) i }) x
    | inr open_still ↦
        let p : Period = record { number = m.period.number; learned = m.period.learned ++ id ∷ [] } in
        let is : n.period ≡ p = period ∙ ap (λ b. if b then begun (m.period.number + 1) else (record { number = m.period.number; learned = m.period.learned ++ id ∷ [] })) open_still in
        let high = nat_le-false (span * m.period.number) (length m.period.learned + 1) open_still in
        let len = count in
        let x : Goes span vars (moment after p false) = record {
          variables = h.variables;
          beyond = beyond_with m.state c h.beyond;
          period = record {
            number = h.period.number;
            before = h.period.before;
            few = (omega (arith, high, len));
            ascending = ascending_all;
            kept = kept_all;
            different = different_all;
          };
          fresh = λ e. absurd (let z : false ≡ true = e in cc);
        } in
        subst (Goes span vars) (λ i. record { state = sym state i; period = sym is i; ended = sym (ended ∙ open_still) i }) x
  ]

  pub learned_more : (n : Moment) → n.period ≡ after_learning span m.period id → learned_by span n.period ≡ learned_by span m.period + 1
  learned_more n period = elim (bool_cases (ends span m.period)) [
    | inl over ↦
        let p : Period = begun (m.period.number + 1) in
        let is : n.period ≡ p = period ∙ ap (λ b. if b then begun (m.period.number + 1) else (record { number = m.period.number; learned = m.period.learned ++ id ∷ [] })) over in
        let low = nat_le-true (span * m.period.number) (length m.period.learned + 1) over in
        let high = h.period.few in
        ap (learned_by span) is ∙ whole m.period.number (length m.period.learned) h.period.number (omega (arith, low, high))
    | inr open_still ↦
        let p : Period = record { number = m.period.number; learned = m.period.learned ++ id ∷ [] } in
        let is : n.period ≡ p = period ∙ ap (λ b. if b then begun (m.period.number + 1) else (record { number = m.period.number; learned = m.period.learned ++ id ∷ [] })) open_still in
        let len = count in
        ap (learned_by span) is ∙ (omega (arith, len))
  ] where
    whole : (j l : ℕ) → 0 < j → span * j ≡ l + 1 → span * up_to (j + 1 - 1) + 0 ≡ span * up_to (j - 1) + l + 1
    whole zero l above e = absurd (omega (arith, above))
    whole (suc i) l above e =
        let a : suc i + 1 - 1 ≡ suc i = omega arith in
        let b : suc i - 1 ≡ i = omega arith in
        let d = add-mul (suc i) (up_to i) span in
        let x = mul_comm (suc i + up_to i) span in
        let y = mul_comm (suc i) span in
        let z = mul_comm (up_to i) span in
        ap (λ k. span * up_to k + 0) a ∙ ((let f : span * (suc i + up_to i) + 0 ≡ span * up_to i + l + 1 = omega (arith, d, x, y, z, e) in f) ∙ ap (λ k. span * up_to k + l + 1) (sym b))
