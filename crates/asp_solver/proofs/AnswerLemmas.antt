-- What the answers of a solver say.
use Rattle.std.proofs.Common.{◌≡◌, ◌≢◌, ℕ, zero, suc, ◌+◌, ◌-◌, ◌<◌, ◌≤◌, ◌⊎◌, inl, inr, Bool, true, false, if◌then◌else◌, List, [], ◌∷◌, length, Option, Some, None, get_or, refl, ap, sym, ◌∙◌, subst, arith}
use Rattle.std.specs.Prelude.{IsSomeAnd, IsTrue}
use Rattle.std.specs.Bool.{beq}
use Rattle.std.specs.List.{All}
use Rattle.std.proofs.lemmas.Bool.{cases_lt}
use mathlib.Core.Path.{fun_ext}
use Rattle.theory_form.specs.declared.literals.Lit.{Lit}
use Rattle.theory_form.specs.Literals.{IsAscending}
use Rattle.theory_form.specs.Theories.{Extends, IsTheory, TheoryView, clause_of}
use Rattle.theory_form.specs.Truth.{IsSettled, IsTrueIn, value_of}
use Rattle.theory_model.specs.Bodies.{DefinesBodies}
use Rattle.theory_model.specs.Models.{IsModel}
use Rattle.theory_model.specs.Truth.{literal_true}
use Rattle.theory_model.specs.Whole.{IsWhole}
use Rattle.ground_form.specs.declared.atoms.AtomId.{AtomId}
use Rattle.ground_form.specs.AnswerSets.{IsAnswerSet}
use Rattle.ground_form.specs.Programs.{Parts}
use Rattle.ground_form.specs.Ranges.{IsInRange}
use Rattle.ground_form.specs.Sets.{has}
use Rattle.theory_build.specs.Completion.{base_theory}
use Rattle.theory_law.specs.Cuts.{cut}
use Rattle.theory_law.specs.Standing.{StandsOn}
use Rattle.asp_trail.proofs.TrailLemmas.{length-values_of}
use Rattle.asp_store.specs.Store.{AllSettled, NoneRefuting, assigned}
use Rattle.proof_log.specs.Logs.{IsNegated}
use Rattle.proof_log.specs.States.{StateView, clause_in}
use Rattle.search_law.specs.Closed.{IsClosed, IsTotal, truth_of, truths}
use Rattle.asp_engine.specs.declared.engine.Engine.{Engine}
use Rattle.asp_engine.specs.declared.periods.Query.{Query}
use Rattle.asp_engine.specs.declared.rounds.Ending.{Ending}
use Rattle.asp_engine.specs.declared.rounds.Ending.TheVariants as end
use Rattle.asp_engine.specs.Answers.{ShowsEnding, IsRefuted as IsRefutedIn}
use Rattle.asp_engine.specs.Keys.{IsIn}
use Rattle.asp_engine.proofs.KeyLemmas.{clause_from_theory}
use Rattle.asp_solver.specs.declared.answers.Turn.{Turn}
use Rattle.asp_solver.specs.declared.answers.Turn.TheVariants.{Found, Refuted, Spent, Again, Memory}
use Rattle.asp_solver.specs.Answers.{IsFound, IsRefuted, NoneRefuted, ShowsTurn}
use Rattle.asp_solver.specs.Conditions.{CanSearch}
use Rattle.asp_solver.specs.Turns.{HasAtoms, ShowsEnd, is_found}
use Rattle.asp_solver.specs.Views.{IsStateOf, view_of}
use Rattle.asp_solver.proofs.OneLog.{AreOne}
use Rattle.asp_solver.proofs.StateLemmas.{StayValid, state_in}

-- the law of total assignments, of beginnings, and of the atoms of models
abbrev pub AreClosedModels : Type 0
AreClosedModels = (t : TheoryView) (a : List (Option Bool)) → IsTheory t → IsWhole t → DefinesBodies t → length a ≡ length t.variables + 1 → IsTotal a →
    ((id : ℕ) (c : List Lit) → clause_of t id ≡ Some c → IsSettled a c) → IsClosed t a → IsModel t (truths a)

abbrev pub ModelsBegin : Type 0
ModelsBegin = (s t : TheoryView) (f : ℕ → Bool) → Extends s t → IsModel t f → IsModel s f

abbrev pub AreAnswerSets : Type 0
AreAnswerSets = (g : Parts) (f : ℕ → Bool) → IsInRange g → IsModel (base_theory g) f → IsAnswerSet g (cut 0 g f)

beq_self : (b : Bool) → beq b b ≡ true
beq_self true = refl
beq_self false = refl

inside : (e : Engine) (v : StateView) (k : ℕ) (c : List Lit) → IsIn e v → clause_in v k ≡ Some c → k ≤ length e.theory.clauses
inside e v k c h at = elim (cases_lt (length v.theory.clauses) k) [
  | inl above ↦ absurd (let z : Some c ≡ None = sym at ∙ h.taken.beyond k above in cc)
  | inr le ↦ let count = ap length h.taken.theory.clauses in omega (arith, le, count)
]

pub none_refuted : StayValid → AreOne → (e : Engine) (v : StateView) (rest : List Query) (found : Bool) (assume : List Lit) → IsIn e v → NoneRefuting e.parts.store.clauses assume → NoneRefuted (view_of e rest found) assume
none_refuted stays one e v rest found assume h none w x k c at negated =
    let is_in = state_in stays one e v w h x in
    let key = is_in.taken.all k c (inside e w k c is_in at) at in
    none key.0 c key.1 negated

refuted_after : StayValid → AreOne → (e : Engine) (v : StateView) (rest : List Query) (found : Bool) (assume : List Lit) (k : ℕ) → IsIn e v → IsRefutedIn e assume k → IsRefuted (view_of e rest found) assume k
refuted_after stays one e v rest found assume k h r w x =
    subst (λ (o : Option (List Lit)). IsSomeAnd o (λ c. IsAscending c × IsNegated assume c)) (sym (r.kept w (state_in stays one e v w h x))) (r.ascending, r.negated)

found_after : AreClosedModels → ModelsBegin → AreAnswerSets → (e : Engine) (v : StateView) (rest : List Query) (assume : List Lit) (x : List AtomId) → CanSearch e.theory → IsIn e v → All (IsTrueIn (assigned e.parts.store)) assume → AllSettled e.parts.store.clauses (assigned e.parts.store) → IsTotal (assigned e.parts.store) → IsClosed e.theory (assigned e.parts.store) → HasAtoms e x → IsFound (view_of e rest true) assume x
found_after models begin sets e v rest assume x can h assumed settled total closed atoms =
    let a : List (Option Bool) = assigned e.parts.store in
    let len : length a ≡ length e.theory.variables + 1 = length-values_of e.parts.store.places e.parts.store.entries ∙ h.places in
    let model : IsModel e.theory (truths a) = models e.theory a can.2.theory h.taken.whole can.2.bodies len total (λ id c at.
    let there = clause_from_theory v e.theory id c h.taken.theory.clauses at in
    let key = h.taken.all id c (inside e v id c h there) there in
    settled key.0 c key.1) closed in
    record {
      values = len;
      total = total;
      model = model;
      assumed = λ k d w. ap (λ o. beq (truth_of o) (get_or assume k d).yes) (assumed k d w) ∙ beq_self (get_or assume k d).yes;
      ascending = atoms.ascending;
      atoms = atoms.atoms;
      answer_set = λ g range stands. subst (IsAnswerSet g) (sym (fun_ext (atoms.atoms g stands))) (sets g (truths a) range (begin (base_theory g) e.theory (truths a) stands.begins model));
    }

pub shows_after : AreClosedModels → ModelsBegin → AreAnswerSets → StayValid → AreOne → (e : Engine) (v : StateView) (rest : List Query) (assume : List Lit) (left more : ℕ) (ending : Ending) (turn : Turn) → CanSearch e.theory → IsIn e v → ShowsEnding e assume left more ending → ShowsEnd e ending turn → ShowsTurn (view_of e rest (is_found turn)) assume left more turn
shows_after models begin sets stays one e v rest assume left more ending (Found x) can h shows is =
    let y = subst (ShowsEnding e assume left more) is.0 shows in
    found_after models begin sets e v rest assume x can h y.0.0 y.0.1 y.0.2 y.1 is.1
shows_after models begin sets stays one e v rest assume left more ending (Refuted k) can h shows is =
    refuted_after stays one e v rest false assume k.0 h (subst (ShowsEnding e assume left more) is shows)
shows_after models begin sets stays one e v rest assume left more ending Spent can h shows is =
    let y = subst (ShowsEnding e assume left more) is shows in (y.0, none_refuted stays one e v rest false assume h y.1)
shows_after models begin sets stays one e v rest assume left more ending Again can h shows is =
    let y = subst (ShowsEnding e assume left more) is shows in (y.0, none_refuted stays one e v rest false assume h y.1)
shows_after models begin sets stays one e v rest assume left more ending Memory can h shows is = tt

-- what was so before an engine took more of its theory in
pub none_before : (a b : Engine) (qs rest : List Query) (found_a found_b : Bool) (assume : List Lit) → b.theory ≡ a.theory → b.log ≡ a.log →
    NoneRefuted (view_of b rest found_b) assume → NoneRefuted (view_of a qs found_a) assume
none_before a b qs rest found_a found_b assume theory log h v x k c at negated =
    h v (subst (λ t. IsStateOf t b.log.steps v) (sym theory) (subst (λ l. IsStateOf a.theory l.steps v) (sym log) x)) k c at negated
