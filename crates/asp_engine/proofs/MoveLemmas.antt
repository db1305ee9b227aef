-- What was made, one thing after another.
use Rattle.std.proofs.Common.{◌≡◌, ℕ, ◌+◌, ◌*◌, ◌++◌, Bool, true, false, if◌then◌else◌, nat_le, List, [], ◌∷◌, length, Option, Some, None, get_or, refl, ap, sym, ◌∙◌, subst, arith, append_assoc, length-append}
use Rattle.std.proofs.lemmas.List.{append-nil}
use Rattle.theory_form.specs.declared.literals.Lit.{Lit}
use Rattle.theory_form.specs.declared.literals.ClauseId.{ClauseId}
use Rattle.proof_log.specs.declared.steps.Step.{Step}
use Rattle.proof_log.specs.declared.steps.Step.TheVariants.{Found, Passed, Improve, Dominate, Exclude, Learn, Loop, Sum, Erase, Optimal, Closed}
use Rattle.proof_log.specs.Logs.{IsStepOver}
use Rattle.proof_log.specs.States.{StateView, with_clause}
use Rattle.asp_engine.specs.declared.engine.Engine.{Engine}
use Rattle.asp_engine.specs.declared.periods.Period.{Period}
use Rattle.asp_engine.specs.declared.additions.Late.{Late}
use Rattle.asp_engine.specs.Forgetting.{Forgot}
use Rattle.asp_engine.specs.Keys.{IsEngine, IsIn}
use Rattle.asp_engine.specs.Lates.{Brings, IsLate}
use Rattle.asp_engine.specs.Learning.{IsIdle, Learns, LearnsInto, Stays}
use Rattle.asp_engine.specs.Moves.{Does, Forgets, Leads, Makes, Moment, Went, WentTo, at_moment, learned, learns, moment}
use Rattle.asp_engine.specs.Periods.{after_learning, begun, ends}
use Rattle.asp_engine.specs.Answers.{eager_most}
use Rattle.asp_engine.specs.Turned.{turned}
use Rattle.asp_store.specs.Store.{Adds}
use Rattle.asp_engine.proofs.KeyLemmas.{Alike, alike_in, same_self}

-- ---- steps

pub leads_then : (span : ℕ) (held : ℕ → Bool) (m n k : Moment) (one two : List Step) → Leads span held m one n → Leads span held n two k → Leads span held m (one ++ two) k
leads_then span held m n k [] two a b = subst (λ x. Leads span held x two k) (sym a) b
leads_then span held m n k (s ∷ one) two a b = (a.0, a.1, leads_then span held a.0 n k one two a.2 b)

pub learned_both : (one two : List Step) → learned (one ++ two) ≡ learned one + learned two
learned_both [] two = omega arith
learned_both (s ∷ one) two = let r = learned_both one two in omega (arith, r)

-- what may be done where no period ended may be done wherever it did
does_any : (span : ℕ) (held : ℕ → Bool) (v : StateView) (p : Period) (b : Bool) (step : Step) (n : Moment) → Does span held (at_moment v p) step n → Does span held (moment v p b) step n
does_any span held v p b (Found atoms) n h = h
does_any span held v p b (Passed set better) n h = h
does_any span held v p b Improve n h = h
does_any span held v p b (Dominate set) n h = h
does_any span held v p b (Exclude set) n h = h
does_any span held v p b (Learn lits hints) n h = h
does_any span held v p b (Loop atom others) n h = h
does_any span held v p b (Sum guard lits) n h = h
does_any span held v p b (Erase clause) n h = absurd (let z : false ≡ true = h.0 in cc)
does_any span held v p b (Optimal set clause) n h = h
does_any span held v p b (Closed clause) n h = h

-- where steps lead to
record LeadsOn (span : ℕ) (held : ℕ → Bool) (m : Moment) (steps : List Step) (v : StateView) (p : Period) : Type 0 where
  end : Moment
  leads : Leads span held m steps end
  state : end.state ≡ v
  period : end.period ≡ p

leads_any : (span : ℕ) (held : ℕ → Bool) (v : StateView) (p : Period) (b : Bool) (steps : List Step) (n : Moment) → Leads span held (at_moment v p) steps n → LeadsOn span held (moment v p b) steps n.state n.period
leads_any span held v p b [] n h = record { end = moment v p b; leads = refl; state = ap (λ (m : Moment). m.state) h; period = ap (λ (m : Moment). m.period) h }
leads_any span held v p b (s ∷ steps) n h = record {
  end = n;
  leads = (h.0, record { step_is = h.1.step_is; listed = h.1.listed; valid = h.1.valid; after = h.1.after; is_new = h.1.is_new; does = does_any span held v p b s h.0 h.1.does }, h.2);
  state = refl;
  period = refl;
}

-- ---- engines

pub makes_then : (held : ℕ → Bool) (a b c : Engine) (p q r : Period) (i j : ℕ) (v : StateView) → (m : Makes held a b p q i v) → Makes held b c q r j m.end.state → Makes held a c p r (i + j) v
makes_then held a b c p q r i j v x y =
    let more : Leads a.parts.span held (at_moment x.end.state q) y.steps y.end = subst (λ k. Leads k held (at_moment x.end.state q) y.steps y.end) x.span y.leads in
    let on = leads_any a.parts.span held x.end.state q x.end.ended y.steps y.end more in
    let from : moment x.end.state q x.end.ended ≡ x.end = λ i. record { state = x.end.state; period = sym x.period i; ended = x.end.ended } in
    record {
      steps = x.steps ++ y.steps;
      end = on.end;
      leads = leads_then a.parts.span held (at_moment v p) x.end on.end x.steps y.steps x.leads (subst (λ (m : Moment). Leads a.parts.span held m y.steps on.end) from on.leads);
      period = on.period ∙ y.period;
      log = y.log ∙ (ap (λ l. l ++ y.steps) x.log ∙ append_assoc a.log.steps x.steps y.steps);
      span = y.span ∙ x.span;
      marks = y.marks ∙ x.marks;
      is_in = subst (IsIn c) (sym on.state) y.is_in;
      count = (let p = x.count in let q = y.count in let r = learned_both x.steps y.steps in omega (arith, p, q, r));
    }

pub went_then : (held : ℕ → Bool) (a b c : Engine) (p q r : Period) (i j : ℕ) → Went held a b p q i → Went held b c q r j → Went held a c p r (i + j)
went_then held a b c p q r i j first second v h =
    let x = first v h in
    makes_then held a b c p q r i j v x (second x.end.state x.is_in)

pub makes_nothing : (held : ℕ → Bool) (a b : Engine) (p : Period) (v : StateView) → b.log.steps ≡ a.log.steps → b.parts.span ≡ a.parts.span → b.parts.marks ≡ a.parts.marks → IsIn b v → Makes held a b p p 0 v
makes_nothing held a b p v log span marks is_in = record {
  steps = [];
  end = at_moment v p;
  leads = refl;
  period = refl;
  log = log ∙ sym (append-nil a.log.steps);
  span = span;
  marks = marks;
  is_in = is_in;
  count = refl;
}

pub went_none : (held : ℕ → Bool) (e : Engine) (p : Period) → Went held e e p p 0
went_none held e p v h = makes_nothing held e e p v refl refl refl h

pub went_alike : (held : ℕ → Bool) (a b : Engine) (p : Period) → Alike a b → Went held a b p p 0
went_alike held a b p x v h = makes_nothing held a b p v x.log x.span x.marks (alike_in a b v x h)

pub went_stays : (held : ℕ → Bool) (a b : Engine) (p : Period) → Stays a b → Went held a b p p 0
went_stays held a b p x v h = makes_nothing held a b p v x.log x.span x.marks (x.is_in v h)

pub went_engine : (held : ℕ → Bool) (a b : Engine) (p q : Period) (n : ℕ) → Went held a b p q n → IsEngine a → IsEngine b
went_engine held a b p q n w e = let m = w e.0 e.1 in (m.end.state, m.is_in)

pub alike_engine : (a b : Engine) → Alike a b → IsEngine a → IsEngine b
alike_engine a b x e = (e.0, alike_in a b e.0 x e.1)

-- what went on from an engine that is alike
makes_from : (held : ℕ → Bool) (a b c : Engine) (p q : Period) (n : ℕ) (v : StateView) → Alike a b → (m : Makes held b c p q n v) → (k : Makes held a c p q n v) × (k.end ≡ m.end)
makes_from held a b c p q n v x m = (
  record {
    steps = m.steps;
    end = m.end;
    leads = subst (λ k. Leads k held (at_moment v p) m.steps m.end) x.span m.leads;
    period = m.period;
    log = m.log ∙ ap (λ l. l ++ m.steps) x.log;
    span = m.span ∙ x.span;
    marks = m.marks ∙ x.marks;
    is_in = m.is_in;
    count = m.count;
  },
  refl,
)

pub went_from : (held : ℕ → Bool) (a b c : Engine) (p q : Period) (n : ℕ) → Alike a b → Went held b c p q n → Went held a c p q n
went_from held a b c p q n x w v h = (makes_from held a b c p q n v x (w v (alike_in a b v x h))).0

pub went_to_from : (held : ℕ → Bool) (a b c : Engine) (p q : Period) (n : ℕ) (ended : Bool) → Alike a b → WentTo held b c p q n ended → WentTo held a c p q n ended
went_to_from held a b c p q n ended x w v h =
    let m = w v (alike_in a b v x h) in
    let k = makes_from held a b c p q n v x m.0 in
    (k.0, ap (λ (y : Moment). y.ended) k.1 ∙ m.1)

pub went_of : (held : ℕ → Bool) (a b : Engine) (p q : Period) (n : ℕ) (ended : Bool) → WentTo held a b p q n ended → Went held a b p q n
went_of held a b p q n ended w v h = (w v h).0

-- and on to one that is alike
pub went_alike_to : (held : ℕ → Bool) (a b c : Engine) (p q : Period) (n : ℕ) → Went held a b p q n → Alike b c → Went held a c p q n
went_alike_to held a b c p q n w x v h =
    let m = w v h in
    record {
      steps = m.steps;
      end = m.end;
      leads = m.leads;
      period = m.period;
      log = x.log ∙ m.log;
      span = x.span ∙ m.span;
      marks = x.marks ∙ m.marks;
      is_in = alike_in b c m.end.state x m.is_in;
      count = m.count;
    }

-- ---- a step that adds a clause

pub makes_learned : (held : ℕ → Bool) (a b : Engine) (p q : Period) (c : List Lit) (v : StateView) (id : ClauseId) → Learns a b c v → id.0 ≡ length v.theory.clauses + 1 → q ≡ after_learning a.parts.span p id → (m : Makes held a b p q 1 v) × (m.end.ended ≡ ends a.parts.span p)
makes_learned held a b p q c v id h number period =
    let end : Moment = moment (with_clause v c) q (ends a.parts.span p) in
    let id_is : id ≡ record { 0 = length v.theory.clauses + 1 } = λ i. record { 0 = number i } in (
      record {
        steps = Learn c h.hints ∷ [];
        end = end;
        leads = (end, record { step_is = h.step_is; listed = h.over; valid = h.brings.valid; after = h.brings.after; is_new = h.brings.is_new; does = (period ∙ ap (after_learning a.parts.span p) id_is, refl) }, refl);
        period = refl;
        log = h.log;
        span = h.span;
        marks = h.marks;
        is_in = h.is_in;
        count = (omega arith);
      },
      refl,
    )

pub makes_late : (held : ℕ → Bool) (a b : Engine) (p : Period) (v : StateView) (values : List (Option Bool)) (l : Late) → IsLate a.theory values l → v.theory.variables ≡ a.theory.variables → Brings v l.step l.clause → b.log.steps ≡ a.log.steps ++ l.step ∷ [] → b.parts.span ≡ a.parts.span → b.parts.marks ≡ a.parts.marks → IsIn b (with_clause v l.clause) → Makes held a b p p 0 v
makes_late held a b p v values l h same brings log span marks is_in =
    let end : Moment = at_moment (with_clause v l.clause) p in
    record {
      steps = l.step ∷ [];
      end = end;
      leads = (end, record { step_is = h.step; listed = subst (λ xs. IsStepOver (length xs) l.step) (sym same) h.listed; valid = brings.valid; after = brings.after; is_new = brings.is_new; does = h.does a.parts.span held (at_moment v p) end (refl, refl) }, refl);
      period = refl;
      log = log;
      span = span;
      marks = marks;
      is_in = is_in;
      count = (let x = h.learns in omega (arith, x));
    }

-- ---- forgetting

pub forgets_none : (held : ℕ → Bool) (ended : Bool) (a b : Engine) (v : StateView) → Alike a b → IsIn a v → Forgets held ended a b v
forgets_none held ended a b v x h = record {
  steps = [];
  state = v;
  leads = λ span p. refl;
  log = x.log ∙ sym (append-nil a.log.steps);
  span = x.span;
  marks = x.marks;
  is_in = alike_in a b v x h;
  count = refl;
}

pub forgets_then : (held : ℕ → Bool) (ended : Bool) (a b c : Engine) (v : StateView) → (x : Forgets held ended a b v) → Forgets held ended b c x.state → Forgets held ended a c v
forgets_then held ended a b c v x y = record {
  steps = x.steps ++ y.steps;
  state = y.state;
  leads = λ span p. leads_then span held (moment v p ended) (moment x.state p ended) (moment y.state p ended) x.steps y.steps (x.leads span p) (y.leads span p);
  log = y.log ∙ (ap (λ l. l ++ y.steps) x.log ∙ append_assoc a.log.steps x.steps y.steps);
  span = y.span ∙ x.span;
  marks = y.marks ∙ x.marks;
  is_in = y.is_in;
  count = (let p = x.count in let q = y.count in let r = learned_both x.steps y.steps in omega (arith, p, q, r));
}

-- clauses are let go at the end of a period
pub went_forgot : (held : ℕ → Bool) (a b c : Engine) (p q : Period) (n : ℕ) (ended : Bool) → WentTo held a b p q n ended → ((v : StateView) → IsIn b v → Forgets held ended b c v) → Went held a c p q n
went_forgot held a b c p q n ended w f v h =
    let m = (w v h).0 in
    let x = f m.end.state m.is_in in
    let last : moment m.end.state q ended ≡ m.end = λ i. record { state = m.end.state; period = sym m.period i; ended = sym (w v h).1 i } in
    record {
      steps = m.steps ++ x.steps;
      end = moment x.state q ended;
      leads = leads_then a.parts.span held (at_moment v p) m.end (moment x.state q ended) m.steps x.steps m.leads
          (subst (λ (y : Moment). Leads a.parts.span held y x.steps (moment x.state q ended)) last (x.leads a.parts.span q));
      period = refl;
      log = x.log ∙ (ap (λ l. l ++ x.steps) m.log ∙ append_assoc a.log.steps m.steps x.steps);
      span = x.span ∙ m.span;
      marks = x.marks ∙ m.marks;
      is_in = x.is_in;
      count = (let i = m.count in let j = x.count in let r = learned_both m.steps x.steps in omega (arith, i, j, r));
    }

pub forgot_none : (held : ℕ → Bool) (ended : Bool) (a b : Engine) → Alike a b → b.parts.store.clauses ≡ a.parts.store.clauses → b.parts.store.entries ≡ a.parts.store.entries → b.parts.eager ≡ a.parts.eager → Forgot held ended a b
forgot_none held ended a b x clauses entries eager = record {
  fewer = λ id c at. subst (λ (cs : List (Option (List Lit))). get_or cs id None ≡ Some c) clauses at;
  entries = entries;
  places = x.places;
  variables = sym x.theory.variables;
  eager = eager;
  erased = λ v h. forgets_none held ended a b v x h;
}

pub forgot_then : (held : ℕ → Bool) (ended : Bool) (a b c : Engine) → Forgot held ended a b → Forgot held ended b c → Forgot held ended a c
forgot_then held ended a b c x y = record {
  fewer = λ id d at. x.fewer id d (y.fewer id d at);
  entries = y.entries ∙ x.entries;
  places = y.places ∙ x.places;
  variables = y.variables ∙ x.variables;
  eager = y.eager ∙ x.eager;
  erased = λ v h. let m = x.erased v h in forgets_then held ended a b c v m (y.erased m.state m.is_in);
}

pub forgot_engine : (held : ℕ → Bool) (ended : Bool) (a b : Engine) → Forgot held ended a b → IsEngine a → IsEngine b
forgot_engine held ended a b x e = let m = x.erased e.0 e.1 in (m.state, m.is_in)

-- ---- learning

pub adds_alike : (a b c : Engine) (key : ℕ) (d : List Lit) → Alike a b → Adds b.parts.store.clauses c.parts.store.clauses key d → Adds a.parts.store.clauses c.parts.store.clauses key d
adds_alike a b c key d x h = record {
  fresh = sym (x.clauses key) ∙ h.fresh;
  added = h.added;
  others = λ k other. h.others k other ∙ x.clauses k;
}

pub learned_from : (a b c : Engine) (p q : Period) (d : List Lit) (key : ℕ) → LearnsInto b c p q d key → Alike a b → LearnsInto a c p q d key
learned_from a b c p q d key h x = record {
  adds = adds_alike a b c key d x h.adds;
  eager = h.eager;
  ended = λ none. subst (λ span. ends span p ≡ true) x.span (h.ended none);
  went = λ held. went_to_from held a b c p q 1 (ends a.parts.span p) x (subst (λ span. WentTo held b c p q 1 (ends span p)) x.span (h.went held));
}

pub idle_from : (a b c : Engine) (p q : Period) → IsIdle b c p q → Alike a b → IsIdle a c p q
idle_from a b c p q h x = record { went = λ held. went_from held a b c p q 0 x (h.went held); same = h.same }

pub idle_alike : (a b : Engine) (p q : Period) → q ≡ p → Alike a b → IsIdle a b p q
idle_alike a b p q same x = record { went = λ held. subst (λ r. Went held a b p r 0) (sym same) (went_alike held a b p x); same = same }

pub idle_stays : (a b : Engine) (p q : Period) → q ≡ p → Stays a b → IsIdle a b p q
idle_stays a b p q same x = record { went = λ held. subst (λ r. Went held a b p r 0) (sym same) (went_stays held a b p x); same = same }

pub alike_self : (e : Engine) → Alike e e
alike_self e = record { theory = same_self e.theory; log = refl; clauses = λ k. refl; places = refl; numbers = λ k. refl; marks = refl; span = refl }

-- the period with one clause more, which may end
pub turned_learned : (span : ℕ) (p q r : Period) (id : ClauseId) → q ≡ record p { learned = p.learned ++ id ∷ [] } → r ≡ turned span q → r ≡ after_learning span p id
turned_learned span p q r id entered is =
    let full : Period = record p { learned = p.learned ++ id ∷ [] } in
    let len : length (p.learned ++ id ∷ []) ≡ length p.learned + 1 = length-append p.learned (id ∷ []) in
    is ∙ (ap (turned span) entered ∙ ap (λ n. if nat_le (span * p.number) n then begun (p.number + 1) else full) len)

-- a period without clauses has just begun
pub ended_from : (span : ℕ) (p r : Period) (id : ClauseId) → r ≡ after_learning span p id → r.learned ≡ [] → ends span p ≡ true
ended_from span p r id is none = by_case (ends span p) refl where
  by_case : (b : Bool) → ends span p ≡ b → ends span p ≡ true
  by_case true e = e
  by_case false e = absurd (
      let full : Period = record { number = p.number; learned = p.learned ++ id ∷ [] } in
      let here : r ≡ full = is ∙ ap (λ b. if b then begun (p.number + 1) else full) e in
      let z : p.learned ++ id ∷ [] ≡ [] = sym (ap (λ (x : Period). x.learned) here) ∙ none in
      let len : length (p.learned ++ id ∷ []) ≡ length p.learned + 1 = length-append p.learned (id ∷ []) in
      let y = ap length z in
      omega (arith, len, y))

pub learns_alike : (a b c : Engine) (d : List Lit) (v : StateView) → Learns a b d v → Alike b c → Learns a c d v
learns_alike a b c d v h x = record {
  hints = h.hints;
  step_is = h.step_is;
  over = h.over;
  brings = h.brings;
  log = x.log ∙ h.log;
  span = x.span ∙ h.span;
  marks = x.marks ∙ h.marks;
  is_in = alike_in b c (with_clause v d) x h.is_in;
}

-- a clause was learned, and the period went on to the next one
pub learned_into : (a b : Engine) (p q r : Period) (d : List Lit) (key : ℕ) (id : ClauseId) → IsEngine a → ((v : StateView) → IsIn a v → Learns a b d v) → Adds a.parts.store.clauses b.parts.store.clauses key d → b.parts.eager ≡ eager_most → id.0 ≡ length a.theory.clauses + 1 → q ≡ record p { learned = p.learned ++ id ∷ [] } → r ≡ turned b.parts.span q → LearnsInto a b p r d key
learned_into a b p q r d key id engine learns adds eager number entered is =
    let span : b.parts.span ≡ a.parts.span = (learns engine.0 engine.1).span in
    let period : r ≡ after_learning a.parts.span p id = turned_learned a.parts.span p q r id entered (is ∙ ap (λ k. turned k q) span) in
    record {
      adds = adds;
      eager = eager;
      ended = λ none. ended_from a.parts.span p r id period none;
      went = λ held v h. makes_learned held a b p r d v id (learns v h) (let count = ap length h.taken.theory.clauses in omega (arith, number, count)) period;
    }
