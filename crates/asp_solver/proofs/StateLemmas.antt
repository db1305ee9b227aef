-- The state of a solver's log.
use Rattle.std.proofs.Common.{◌≡◌, ℕ, zero, suc, ◌+◌, ◌<◌, ◌≤◌, ◌++◌, Bool, List, [], ◌∷◌, length, take, Option, Some, None, refl, ap, sym, ◌∙◌, subst, arith}
use Rattle.theory_form.specs.declared.literals.Lit.{Lit}
use Rattle.theory_form.specs.declared.literals.ClauseId.{ClauseId}
use Rattle.theory_form.specs.Theories.{Extends, TheoryView, clause_of}
use Rattle.theory_model.specs.Whole.{IsWhole}
use Rattle.asp_store.specs.Store.{State}
use Rattle.proof_log.specs.declared.steps.Step.{Step}
use Rattle.proof_log.specs.Logs.{IsLog, SkipsNoMore}
use Rattle.proof_log.specs.States.{StateView, clause_among, clause_in, entry_of}
use Rattle.asp_engine.specs.declared.engine.Engine.{Engine}
use Rattle.asp_engine.specs.Keys.{HasTaken, IsIn, IsSameTheory, number_of}
use Rattle.asp_engine.proofs.KeyLemmas.{whole_same}
use Rattle.asp_solver.specs.Views.{IsStateOf}
use Rattle.asp_solver.proofs.OneLog.{AreOne, log_one}

-- the law of logs over longer theories
abbrev pub StayValid : Type 0
StayValid = (s t : TheoryView) (steps : List Step) (added : List (Option (List Lit))) → Extends s t → IsWhole s → SkipsNoMore s t → IsLog s steps added → IsLog t steps added

take_all : {A : Type 0} (xs : List A) → take (length xs) xs ≡ xs
take_all [] = refl
take_all (x ∷ xs) = ap (λ ys. x ∷ ys) (take_all xs)

take_whole : {A : Type 0} (xs ys : List A) → ys ≡ xs → take (length xs) ys ≡ xs
take_whole xs ys is = ap (take (length xs)) is ∙ take_all xs

pub extends_same : (s t : TheoryView) → IsSameTheory s t → Extends s t
extends_same s t h = record {
  variables = take_whole s.variables t.variables (sym h.variables);
  clauses = take_whole s.clauses t.clauses (sym h.clauses);
  blocks = (let b = h.blocks in omega (arith, b));
}

pub log_same : StayValid → (s t : TheoryView) (steps : List Step) (added : List (Option (List Lit))) → IsSameTheory s t → IsWhole s → IsLog s steps added → IsLog t steps added
log_same stays s t steps added h whole log =
    let count = ap length h.clauses in
    stays s t steps added (extends_same s t h) whole (λ k above le. absurd (omega (arith, above, le, count))) log

pub same_back : (s t : TheoryView) → IsSameTheory s t → IsSameTheory t s
same_back s t h = record { variables = sym h.variables; clauses = sym h.clauses; blocks = sym h.blocks }

pub same_then : (r s t : TheoryView) → IsSameTheory r s → IsSameTheory s t → IsSameTheory r t
same_then r s t h k = record { variables = h.variables ∙ k.variables; clauses = h.clauses ∙ k.clauses; blocks = h.blocks ∙ k.blocks }

pub taken_state : StayValid → (n : ℕ) (t : TheoryView) (steps : List Step) (s : State) (numbers : List ClauseId) (v : StateView) → HasTaken n t steps s numbers v → IsStateOf t steps v
taken_state stays n t steps s numbers v h = record {
  theory = h.theory;
  log = log_same stays v.theory t steps v.added h.theory (whole_same t v.theory (sym h.theory.variables) (sym h.theory.clauses) h.whole) h.log;
}

-- clauses are those of the theory's clauses and the added ones
pub clause_same : (v w : StateView) (id : ℕ) → w.theory.clauses ≡ v.theory.clauses → w.added ≡ v.added → clause_in w id ≡ clause_in v id
clause_same v w id clauses added =
    ap (λ cs. clause_among (record w.theory { clauses = cs }) w.added id) clauses ∙ ap (λ xs. clause_among v.theory xs id) added

-- a state of the log is as the one that is known
pub state_taken : StayValid → AreOne → (n : ℕ) (t : TheoryView) (steps : List Step) (s : State) (numbers : List ClauseId) (v w : StateView) → HasTaken n t steps s numbers v → IsStateOf t steps w → HasTaken n t steps s numbers w
state_taken stays one n t steps s numbers v w h x =
    let own = taken_state stays n t steps s numbers v h in
    let added : w.added ≡ v.added = log_one one t steps w.added v.added x.log own.log in
    let clauses : w.theory.clauses ≡ v.theory.clauses = x.theory.clauses ∙ sym h.theory.clauses in
    let same : (id : ℕ) → clause_in w id ≡ clause_in v id = λ id. clause_same v w id clauses added in
    let count = ap length clauses in
    record {
      theory = x.theory;
      whole = h.whole;
      log = log_same stays t w.theory steps w.added (same_back w.theory t x.theory) h.whole x.log;
      beyond = λ id above. same id ∙ h.beyond id (omega (arith, above, count));
      over = λ id c at. h.over id c (sym (same id) ∙ at);
      keys = λ k c at. same (number_of numbers k) ∙ h.keys k c at;
      within = h.within;
      once = h.once;
      all = λ id c le at. h.all id c le (sym (same id) ∙ at);
      later = λ id above. ap (λ xs. entry_of xs id) added ∙ h.later id above;
    }

pub in_state : StayValid → (e : Engine) (v : StateView) → IsIn e v → IsStateOf e.theory e.log.steps v
in_state stays e v h = taken_state stays (length e.theory.clauses) e.theory e.log.steps e.parts.store e.parts.numbers.items v h.taken

pub state_in : StayValid → AreOne → (e : Engine) (v w : StateView) → IsIn e v → IsStateOf e.theory e.log.steps w → IsIn e w
state_in stays one e v w h x = record {
  taken = state_taken stays one (length e.theory.clauses) e.theory e.log.steps e.parts.store e.parts.numbers.items v w h.taken x;
  places = h.places;
  marks = h.marks;
}
