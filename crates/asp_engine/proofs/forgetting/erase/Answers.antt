use Rattle.std.proofs.Common.{◌≡◌, ℕ, ◌≤◌, ◌++◌, ◌∷◌, [], Bool, true, List, length, max, Option, Some, None, Result, Ok, Err, OnOk, OnErr, sym, ◌∙◌, ap, subst, refl, arith}
use Rattle.std.specs.Prelude.{IsSomeAnd}
use Rattle.std.specs.Option.{IsSome}
use Rattle.theory_form.specs.declared.literals.Lit.{Lit}
use Rattle.theory_form.specs.declared.literals.ClauseId.{ClauseId}
use Rattle.asp_store.specs.Store.{State, Removes, clause_at}
use Rattle.proof_log.specs.declared.steps.Step.{Step}
use Rattle.proof_log.specs.declared.steps.Step.TheVariants.{Erase}
use Rattle.proof_log.specs.Logs.{IsLog}
use Rattle.proof_log.specs.States.{StateView, clause_in, entry_of, without_clause}
use Rattle.proof_log.specs.Steps.{LogView}
use Rattle.search_law.specs.Counts.{HasAll}
use Rattle.asp_engine.specs.declared.engine.Engine.{Engine}
use Rattle.asp_engine.specs.Forgetting.{MayErase}
use Rattle.asp_engine.specs.Keys.{IsIn}
use Rattle.asp_engine.specs.Moves.{Forgets, held_by, moment}
use Rattle.asp_engine.proofs.KeyLemmas.{clause_from_added, is_in_less, same_self}
use Rattle.asp_engine.proofs.MoveLemmas.{alike_self, forgot_none}
use Rattle.asp_engine.proofs.forgetting.erase.Goals as goal

-- the steps are the same whether there was room or not
steps_same : {A E : Type 0} (r : Result A E) (old new : LogView) → OnOk r (new ≡ record old { room = max 1 old.room }) → OnErr r (new ≡ old) → new.steps ≡ old.steps
steps_same (Ok x) old new ok err = ap (λ (l : LogView). l.steps) ok
steps_same (Err x) old new ok err = ap (λ (l : LogView). l.steps) err

fewer : (old new : List (Option (List Lit))) (key : ℕ) → Removes old new key → HasAll new old
fewer old new key r id c at = sym (r.others id (λ same. absurd (let z : Some c ≡ None = sym at ∙ (ap (clause_at new) same ∙ r.gone) in cc))) ∙ at

some_at : (o : Option (List Lit)) (c : List Lit) → o ≡ Some c → IsSome o
some_at o c e = subst (λ (x : Option (List Lit)). IsSome x) (sym e) refl

erases : (held : ℕ → Bool) (a b : Engine) (key : ℕ) (id : ClauseId) (v : StateView) → MayErase a held key id.0 → Removes a.parts.store.clauses b.parts.store.clauses key → b.theory ≡ a.theory → b.parts.store.places ≡ a.parts.store.places → b.parts.marks ≡ a.parts.marks → b.parts.numbers.items ≡ a.parts.numbers.items → b.parts.span ≡ a.parts.span → b.log.steps ≡ a.log.steps ++ Erase id ∷ [] → ((IsSome (entry_of v.added id.0) × Unit {0}) → IsLog (without_clause v id.0).theory (a.log.steps ++ Erase id ∷ []) (without_clause v id.0).added) → IsIn a v → Forgets held true a b v
erases held a b key id v m removes theory places marks numbers span log keeps h =
    let there : clause_in v id.0 ≡ Some m.clause = ap (clause_in v) m.number_is ∙ h.taken.keys key m.clause m.stored in
    let some : IsSome (entry_of v.added id.0) = some_at (entry_of v.added id.0) m.clause (sym (clause_from_added v a.theory id.0 h.taken.theory.clauses m.added) ∙ there) in
    record {
      steps = Erase id ∷ [];
      state = without_clause v id.0;
      leads = λ k p. (
        moment (without_clause v id.0) p true,
        record {
          step_is = tt;
          listed = tt;
          valid = (some, tt);
          after = refl;
          is_new = tt;
          does = (refl, refl, refl, subst (λ (o : Option (List Lit)). IsSomeAnd o (λ c. 2 ≤ length c)) (sym there) m.two, m.free);
        },
        refl,
      );
      log = log;
      span = span;
      marks = marks;
      is_in = is_in_less a b v m.clause key id.0 theory places marks numbers removes m.stored m.number_is m.added
          (subst (λ (xs : List Step). IsLog (without_clause v id.0).theory xs (without_clause v id.0).added) (sym log) (keeps (some, tt))) h;
      count = (omega arith);
    }

pub returns-in_default : goal.returns-in_default
returns-in_default c = forgot_none (held_by c.args.others.now) true c.args.e.now c.args.e.now (alike_self c.args.e.now) refl refl refl

pub returns-then-is_err : goal.returns-then-is_err
returns-then-is_err c =
    let e = c.args.e.now in
    forgot_none (held_by c.args.others.now) true e _ (record {
      theory = same_self e.theory;
      log = steps_same c.reserve.result e.log c.reserve.new.self c.reserve.ensures.ok c.reserve.ensures.err;
      clauses = λ k. refl;
      places = refl;
      numbers = λ k. refl;
      marks = refl;
      span = refl;
    }) refl refl refl

pub returns : goal.returns
returns c =
    let e = c.args.e.now in
    let h : ℕ → Bool = held_by c.args.others.now in
    let m = c.in-Some.ensures in
    let removes = c.forget.ensures.gone c.if-not-forget.false in
    let places = ap (λ (s : State). s.places) c.forget.ensures.rest in
    let log = ap (λ (l : LogView). l.steps) c.push_reserved.ensures
    ∙ ap (λ (xs : List Step). xs ++ Erase c.in-Some.number ∷ []) (steps_same c.reserve.result e.log c.reserve.new.self c.reserve.ensures.ok c.reserve.ensures.err) in
    record {
      fewer = fewer e.parts.store.clauses c.forget.new.self.clauses c.args.key.0 removes;
      entries = ap (λ (s : State). s.entries) c.forget.ensures.rest;
      places = places;
      variables = refl;
      eager = refl;
      erased = λ v is_in. erases h e _ c.args.key.0 c.in-Some.number v m removes refl places refl refl refl log
          (λ valid. c.steps_keep_logs.ensures.judged v (without_clause v c.in-Some.number.0) e.log.steps (Erase c.in-Some.number) is_in.taken.log valid tt refl) is_in;
    }
