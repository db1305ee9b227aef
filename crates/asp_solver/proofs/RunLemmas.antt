-- What a call does with a solver.
use Rattle.std.proofs.Common.{◌≡◌, ◌≢◌, ℕ, zero, suc, ◌+◌, ◌-◌, ◌<◌, ◌≤◌, ◌⊎◌, inl, inr, ◌++◌, Bool, true, false, if◌then◌else◌, List, [], ◌∷◌, length, take, Option, Some, None, get_or, refl, ap, sym, ◌∙◌, subst, arith}
use Rattle.std.specs.List.{All}
use Rattle.std.proofs.lemmas.List.{append-nil}
use Rattle.theory_form.specs.declared.literals.Lit.{Lit}
use Rattle.theory_form.specs.Theories.{Extends, TheoryView}
use Rattle.ground_form.specs.Programs.{Parts}
use Rattle.theory_law.specs.Standing.{StandsOn}
use Rattle.proof_log.specs.declared.steps.Step.{Step}
use Rattle.proof_log.specs.Logs.{IsLog}
use Rattle.proof_log.specs.States.{StateView}
use Rattle.asp_engine.specs.declared.engine.Engine.{Engine}
use Rattle.asp_engine.specs.declared.periods.Period.{Period}
use Rattle.asp_engine.specs.declared.periods.Query.{Query}
use Rattle.asp_engine.specs.Keys.{AreUnmarked, HasTaken, IsIn, IsSameTheory}
use Rattle.asp_engine.specs.Moves.{Leads, Makes, Moment, Went, at_moment, learned, held_by as held_in}
use Rattle.asp_engine.specs.Periods.{IsPeriod, enough, learned_by}
use Rattle.asp_solver.specs.declared.answers.Turn.{Turn}
use Rattle.asp_solver.specs.declared.answers.Turn.TheVariants.{Found, Refuted, Spent, Again, Memory}
use Rattle.asp_solver.specs.Calls.{Did, Leaves, Made}
use Rattle.asp_solver.specs.Conditions.{CanSearch}
use Rattle.asp_solver.specs.Holding.{Holds}
use Rattle.asp_solver.specs.Turns.{left_open}
use Rattle.asp_solver.specs.Views.{AreApart, IsStateOf, SolverView, held_by, next_period, period_of, view_of, without}
use Rattle.asp_solver.proofs.HoldLemmas.{few_learned, goes_start, next_is_period, others_stay}
use Rattle.asp_solver.proofs.OneLog.{AreOne}
use Rattle.asp_solver.proofs.PeriodLemmas.{AreFew, Goes, all_push}
use Rattle.asp_solver.proofs.QueryLemmas.{NoneHas, all_without, apart_push, apart_without, held_without, none_without, period_none, period_push_other, period_push_own, period_without}
use Rattle.asp_solver.proofs.StateLemmas.{StayValid, in_state, state_taken}
use Rattle.asp_solver.proofs.StepsLemmas.{Grown, goes_on, grown_on, theory_on}

-- the law of theories that skip a number
abbrev pub StandWhereSkipped : Type 0
StandWhereSkipped = (g : Parts) (t : TheoryView) (reserved : ℕ) → StandsOn g t → StandsOn g (record t { clauses = t.clauses ++ None ∷ []; reserved = reserved })

stands_reserved : (g : Parts) (t : TheoryView) (r : ℕ) → StandsOn g t → StandsOn g (record t { reserved = r })
stands_reserved g t r h = record {
  theory = record { kinds = h.theory.kinds; guard = h.theory.guard };
  begins = record { variables = h.begins.variables; clauses = h.begins.clauses; blocks = h.begins.blocks };
  whole = record { kinds = h.whole.kinds; clauses = h.whole.clauses };
  bodies = h.bodies;
}

same_path : (s t : TheoryView) → IsSameTheory s t → (let x : TheoryView = record s { reserved = t.reserved } in x) ≡ t
same_path s t h = λ i. record { variables = h.variables i; clauses = h.clauses i; blocks = h.blocks i; reserved = t.reserved }

pub stands_same : (g : Parts) (s t : TheoryView) → IsSameTheory s t → StandsOn g s → StandsOn g t
stands_same g s t h x = subst (StandsOn g) (same_path s t h) (stands_reserved g s t.reserved x)

same_back : (s t : TheoryView) → IsSameTheory s t → IsSameTheory t s
same_back s t h = record { variables = sym h.variables; clauses = sym h.clauses; blocks = sym h.blocks }

extends_along : (s t s' t' : TheoryView) → IsSameTheory s s' → IsSameTheory t t' → Extends s t → Extends s' t'
extends_along s t s' t' a b h =
    let x : Extends (record s { reserved = s'.reserved }) (record t { reserved = t'.reserved }) = record { variables = h.variables; clauses = h.clauses; blocks = h.blocks } in
    let y : Extends s' (record t { reserved = t'.reserved }) = subst (λ r. Extends r (record t { reserved = t'.reserved })) (same_path s s' a) x in
    subst (Extends s') (same_path t t' b) y

-- ---- after a search

module _ (few : AreFew) (stays : StayValid) (one : AreOne) (skipped : StandWhereSkipped) (span taken : ℕ) (positive : 0 < span) (a b c : Engine) (qs : List Query) (assume : List Lit) (p q : Period) (n : ℕ) (h : Holds span a qs taken) (theory_b : b.theory ≡ a.theory) (log_b : b.log ≡ a.log) (span_b : b.parts.span ≡ a.parts.span) (marks_b : AreUnmarked (length b.parts.marks) b.parts.marks) (in_b : (v : StateView) → HasTaken taken a.theory a.log.steps a.parts.store a.parts.numbers.items v → IsIn b v) (p_is : p ≡ next_period qs assume) (went : Went (held_in (without qs assume)) b c p q n) where
  abbrev vars : ℕ
  vars = length a.theory.variables

  abbrev others : List Query
  others = without qs assume

  made : Makes (held_in others) b c p q n h.state
  made = went h.state (in_b h.state h.has_taken)

  leads : Leads span (held_in others) (at_moment h.state p) made.steps made.end
  leads = subst (λ k. Leads k (held_in others) (at_moment h.state p) made.steps made.end) (span_b ∙ h.span_is) made.leads

  start : Goes span vars (at_moment h.state p)
  start = subst (λ r. Goes span vars (at_moment h.state r)) (sym p_is) (goes_start span taken a qs assume positive h)

  went_on : Goes span vars made.end × (learned_by span made.end.period ≡ learned_by span p + learned made.steps)
  went_on = goes_on few span vars positive (held_in others) (at_moment h.state p) made.end made.steps leads start

  grown : Grown h.state.theory made.end.state.theory
  grown = grown_on span (held_in others) (at_moment h.state p) made.end made.steps leads

  pub variables_same : c.theory.variables ≡ a.theory.variables
  variables_same = sym made.is_in.taken.theory.variables ∙ (grown.variables ∙ h.has_taken.theory.variables)

  blocks_same : c.theory.blocks ≡ a.theory.blocks
  blocks_same = sym made.is_in.taken.theory.blocks ∙ (grown.blocks ∙ h.has_taken.theory.blocks)

  pub can_search : CanSearch c.theory
  can_search =
      let g : Parts = h.can_search.0 in
      let first = stands_same g a.theory h.state.theory (same_back h.state.theory a.theory h.has_taken.theory) h.can_search.2 in
      let last = theory_on (StandsOn g) (skipped g) span (held_in others) (at_moment h.state p) made.end made.steps leads first in
      (g, h.can_search.1, stands_same g made.end.state.theory c.theory made.is_in.taken.theory last)

  own_period : IsPeriod span (length c.theory.variables) made.end.state q
  own_period = subst (λ xs. IsPeriod span (length xs) made.end.state q) (sym variables_same) (subst (IsPeriod span vars made.end.state) made.period went_on.0.period)

  other_periods : All (λ (r : Query). IsPeriod span (length c.theory.variables) made.end.state r.period) others
  other_periods =
      let x = others_stay span vars others h.state p made.steps made.end h.has_taken.beyond leads (all_without (λ (r : Query). IsPeriod span vars h.state r.period) qs assume h.periods) in
      subst (λ xs. All (λ (r : Query). IsPeriod span (length xs) made.end.state r.period) others) (sym variables_same) x

  -- with these open queries
  holds_with : (rest : List Query) → AreApart rest → All (λ (r : Query). IsPeriod span (length c.theory.variables) made.end.state r.period) rest → Holds span c rest (length c.theory.clauses)
  holds_with rest apart periods = record {
    state = made.end.state;
    has_taken = made.is_in.taken;
    most = (omega arith);
    places = (let x = made.is_in.places in omega (arith, x));
    marks = subst (λ m. AreUnmarked (length m) m) (sym made.marks) marks_b;
    span_is = made.span ∙ (span_b ∙ h.span_is);
    can_search = can_search;
    apart = apart;
    periods = periods;
  }

  abbrev own : Query
  own = record { assume = assume; period = q }

  pub holds_closed : Holds span c others (length c.theory.clauses)
  holds_closed = holds_with others (apart_without qs assume h.apart) other_periods

  pub holds_open : Holds span c (others ++ own ∷ []) (length c.theory.clauses)
  holds_open = holds_with (others ++ own ∷ []) (apart_push others own (apart_without qs assume h.apart) (none_without qs assume h.apart))
      (all_push (λ (r : Query). IsPeriod span (length c.theory.variables) made.end.state r.period) others own other_periods own_period)

  pub holds_after : (turn : Turn) → Holds span c (left_open others own turn) (length c.theory.clauses)
  holds_after (Found x) = holds_closed
  holds_after (Refuted k) = holds_closed
  holds_after Spent = holds_open
  holds_after Again = holds_open
  holds_after Memory = holds_open

  -- of each state of the log
  made_of : (found_a found_c : Bool) (rest : List Query) (v : StateView) → IsStateOf a.theory a.log.steps v → Made span (view_of a qs found_a) (view_of c rest found_c) assume n q v
  made_of found_a found_c rest v x =
      let m = went v (in_b v (state_taken stays one taken a.theory a.log.steps a.parts.store a.parts.numbers.items h.state v h.has_taken x)) in
      let l1 : Leads span (held_in others) (at_moment v p) m.steps m.end = subst (λ k. Leads k (held_in others) (at_moment v p) m.steps m.end) (span_b ∙ h.span_is) m.leads in
      let l2 : Leads span (held_by qs assume) (at_moment v p) m.steps m.end = subst (λ held. Leads span held (at_moment v p) m.steps m.end) (held_without qs assume h.apart) l1 in
      record {
        steps = m.steps;
        end = m.end;
        leads = subst (λ r. Leads span (held_by qs assume) (at_moment v r) m.steps m.end) p_is l2;
        period_is = m.period;
        log = m.log ∙ ap (λ l. l.steps ++ m.steps) log_b;
        state = in_state stays c m.end.state m.is_in;
        count = m.count;
      }

  did_with : (found_a found_c : Bool) (rest : List Query) → ((x : List Lit) → x ≢ assume → period_of rest x ≡ period_of qs x) → Did span (view_of a qs found_a) (view_of c rest found_c) assume n q
  did_with found_a found_c rest same = record {
    made = made_of found_a found_c rest;
    variables = variables_same;
    blocks = blocks_same;
    extends = extends_along h.state.theory made.end.state.theory a.theory c.theory h.has_taken.theory made.is_in.taken.theory grown.extends;
    others = same;
    total = (
        let x = went_on.1 in
        let y = ap (learned_by span) made.period in
        let z = ap (learned_by span) p_is in
        let k = made.count in
        omega (arith, x, y, z, k));
    few = few_learned span (length c.theory.variables) made.end.state q positive own_period;
  }

  pub did_after : (found_a found_c : Bool) (turn : Turn) → Did span (view_of a qs found_a) (view_of c (left_open others own turn) found_c) assume n q
  did_after found_a found_c (Found x) = did_with found_a found_c others (λ y other. period_without qs assume y other)
  did_after found_a found_c (Refuted k) = did_with found_a found_c others (λ y other. period_without qs assume y other)
  did_after found_a found_c Spent = did_with found_a found_c (others ++ own ∷ []) (λ y other. period_push_other others own y (λ e. other (sym e)) ∙ period_without qs assume y other)
  did_after found_a found_c Again = did_with found_a found_c (others ++ own ∷ []) (λ y other. period_push_other others own y (λ e. other (sym e)) ∙ period_without qs assume y other)
  did_after found_a found_c Memory = did_with found_a found_c (others ++ own ∷ []) (λ y other. period_push_other others own y (λ e. other (sym e)) ∙ period_without qs assume y other)

  none_left : period_of others assume ≡ None
  none_left = period_none others assume (none_without qs assume h.apart)

  pub leaves_after : (found_a found_c : Bool) (turn : Turn) → Leaves (view_of a qs found_a) (view_of c (left_open others own turn) found_c) assume n q turn
  leaves_after found_a found_c (Found x) = none_left
  leaves_after found_a found_c (Refuted k) = none_left
  leaves_after found_a found_c Spent = period_push_own others own assume refl none_left
  leaves_after found_a found_c Again = period_push_own others own assume refl none_left
  leaves_after found_a found_c Memory = inl (period_push_own others own assume refl none_left)

-- ---- where memory ran out before

pub did_nothing : (span taken : ℕ) → 0 < span → (a b : Engine) (qs : List Query) (assume : List Lit) (found_a found_b : Bool) → Holds span a qs taken → b.theory ≡ a.theory → b.log ≡ a.log → Did span (view_of a qs found_a) (view_of b qs found_b) assume 0 (next_period qs assume)
did_nothing span taken positive a b qs assume found_a found_b h theory log = record {
  made = λ v x. record {
    steps = [];
    end = at_moment v (next_period qs assume);
    leads = refl;
    period_is = refl;
    log = ap (λ l. l.steps) log ∙ sym (append-nil a.log.steps);
    state = subst (λ t. IsStateOf t b.log.steps v) (sym theory) (subst (λ l. IsStateOf a.theory l.steps v) (sym log) x);
    count = refl;
  };
  variables = ap (λ (t : TheoryView). t.variables) theory;
  blocks = ap (λ (t : TheoryView). t.blocks) theory;
  extends = subst (Extends a.theory) (sym theory) (extends_self a.theory);
  others = λ x other. refl;
  total = (omega arith);
  few = subst (λ (t : TheoryView). learned_by span (next_period qs assume) < enough span (length t.variables)) (sym theory)
      (few_learned span (length a.theory.variables) h.state (next_period qs assume) positive (next_is_period span (length a.theory.variables) h.state qs assume positive h.periods));
} where
  take_all : {A : Type 0} (xs : List A) → take (length xs) xs ≡ xs
  take_all [] = refl
  take_all (x ∷ xs) = ap (λ ys. x ∷ ys) (take_all xs)

  extends_self : (t : TheoryView) → Extends t t
  extends_self t = record { variables = take_all t.variables; clauses = take_all t.clauses; blocks = (omega arith) }

-- an engine that took more of its theory in
pub holds_taking : (span taken more : ℕ) (a b : Engine) (qs : List Query) → Holds span a qs taken → b.theory ≡ a.theory → b.parts.span ≡ a.parts.span →
    more ≤ length b.theory.clauses → b.parts.store.places ≤ length b.theory.variables + 1 → AreUnmarked (length b.parts.marks) b.parts.marks →
    ((v : StateView) → HasTaken taken a.theory a.log.steps a.parts.store a.parts.numbers.items v → HasTaken more b.theory b.log.steps b.parts.store b.parts.numbers.items v) →
    Holds span b qs more
holds_taking span taken more a b qs h theory span_b most places marks takes = record {
  state = h.state;
  has_taken = takes h.state h.has_taken;
  most = most;
  places = places;
  marks = marks;
  span_is = span_b ∙ h.span_is;
  can_search = subst CanSearch (sym theory) h.can_search;
  apart = h.apart;
  periods = subst (λ (t : TheoryView). All (λ (q : Query). IsPeriod span (length t.variables) h.state q.period) qs) (sym theory) h.periods;
}

-- what a call did whose search came to its end: these queries are open, and the query's period is q
pub record Ran (span : ℕ) (a c : Engine) (qs rest : List Query) (assume : List Lit) (n : ℕ) (q : Period) (turn : Turn) : Type 0 where
  pub holds : Holds span c rest (length c.theory.clauses)
  pub did : (found_a found_c : Bool) → Did span (view_of a qs found_a) (view_of c rest found_c) assume n q
  pub leaves : (found_a found_c : Bool) → Leaves (view_of a qs found_a) (view_of c rest found_c) assume n q turn
  pub state : StateView
  pub is_in : IsIn c state
  pub can : CanSearch c.theory

pub ran : AreFew → StayValid → AreOne → StandWhereSkipped → (span taken : ℕ) → 0 < span → (a b c : Engine) (qs others rest : List Query) (assume : List Lit) (p : Period) (query : Query) (n : ℕ) (turn : Turn) →
    Holds span a qs taken → b.theory ≡ a.theory → b.log ≡ a.log → b.parts.span ≡ a.parts.span → AreUnmarked (length b.parts.marks) b.parts.marks →
    ((v : StateView) → HasTaken taken a.theory a.log.steps a.parts.store a.parts.numbers.items v → IsIn b v) → p ≡ next_period qs assume → query.assume ≡ assume →
    others ≡ without qs assume → Went (held_in others) b c p query.period n → rest ≡ left_open others query turn → Ran span a c qs rest assume n query.period turn
ran few stays one skipped span taken positive a b c qs others rest assume p query n turn h theory_b log_b span_b marks_b in_b p_is named others_is went rest_is =
    let q : Period = query.period in
    let own : Query = record { assume = assume; period = query.period } in
    let went_here : Went (held_in (without qs assume)) b c p q n = subst (λ (xs : List Query). Went (held_in xs) b c p q n) others_is went in
    let query_is : query ≡ own = λ i. record { assume = named i; period = query.period } in
    let rest_here : rest ≡ left_open (without qs assume) own turn =
    rest_is ∙ (ap (λ (xs : List Query). left_open xs query turn) others_is ∙ ap (λ (x : Query). left_open (without qs assume) x turn) query_is) in
    let made = went_here h.state (in_b h.state h.has_taken) in
    record {
      holds = subst (λ (xs : List Query). Holds span c xs (length c.theory.clauses)) (sym rest_here)
          (holds_after few stays one skipped span taken positive a b c qs assume p q n h theory_b log_b span_b marks_b in_b p_is went_here turn);
      did = λ found_a found_c. subst (λ (xs : List Query). Did span (view_of a qs found_a) (view_of c xs found_c) assume n q) (sym rest_here)
          (did_after few stays one skipped span taken positive a b c qs assume p q n h theory_b log_b span_b marks_b in_b p_is went_here found_a found_c turn);
      leaves = λ found_a found_c. subst (λ (xs : List Query). Leaves (view_of a qs found_a) (view_of c xs found_c) assume n q turn) (sym rest_here)
          (leaves_after few stays one skipped span taken positive a b c qs assume p q n h theory_b log_b span_b marks_b in_b p_is went_here found_a found_c turn);
      state = made.end.state;
      is_in = made.is_in;
      can = can_search few stays one skipped span taken positive a b c qs assume p q n h theory_b log_b span_b marks_b in_b p_is went_here;
    }
