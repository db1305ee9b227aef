use Rattle.std.proofs.Common.{◌<◌, ◌++◌, ◌∷◌, [], List, length, sym, ◌∙◌, ap, subst, refl}
use Rattle.std.specs.List.{All}
use Rattle.theory_form.specs.declared.literals.Lit.{Lit}
use Rattle.theory_model.specs.Whole.{AreOver}
use Rattle.proof_log.specs.declared.steps.Step.{Step}
use Rattle.proof_log.specs.declared.steps.Step.TheVariants.{Learn}
use Rattle.proof_log.specs.Logs.{IsStepOver}
use Rattle.proof_log.specs.Steps.{IsJudged, IsStep}
use Rattle.asp_engine.specs.Lates.{Brings}
use Rattle.asp_engine.proofs.HintNumbers.{as_numbers, learn_brings, learn_hints_above}
use Rattle.asp_engine.proofs.learning.keep_learned.Goals as goal

above : (c : List Lit) (n : _) → AreOver n c → All (λ l. 0 < l.var.0) c
above c n h k d w = (h k d w).0

pub keep-requires-clause-step : goal.keep-requires-clause-step
keep-requires-clause-step c =
    let e = c.args.e.now in
    let v = c.requires.engine in
    let is = c.in-Ok.ensures ∙ ap (λ ns. Learn c.args.clause.now (as_numbers ns c.args.keys.now)) c.as_slice.ensures.value in
    subst IsStep (sym is) (
      record { numbers = above c.args.clause.now (length e.theory.variables) c.requires.over; ascending = c.requires.well_formed.ascending; consistent = c.requires.well_formed.consistent },
      learn_hints_above e v.0 v.1 c.args.clause.now c.args.keys.now c.requires.follows,
    )

pub keep-requires-clause-judged : goal.keep-requires-clause-judged
keep-requires-clause-judged c = subst IsJudged (sym c.in-Ok.ensures) tt

pub keep-requires-clause-brings : goal.keep-requires-clause-brings
keep-requires-clause-brings c = λ v h.
    let is = c.in-Ok.ensures ∙ ap (λ ns. Learn c.args.clause.now (as_numbers ns c.args.keys.now)) c.as_slice.ensures.value in
    subst (λ (s : Step). Brings v s c.args.clause.now) (sym is) (learn_brings c.args.e.now v h c.args.clause.now c.args.keys.now c.requires.follows c.requires.is_new)

pub keep-requires-clause-listed : goal.keep-requires-clause-listed
keep-requires-clause-listed c = subst (IsStepOver (length c.args.e.now.theory.variables)) (sym c.in-Ok.ensures) c.requires.over

pub returns-in-Err-clause-err : goal.returns-in-Err-clause-err
returns-in-Err-clause-err c = record { is_in = λ v h. h; log = refl; span = refl; marks = refl }

pub returns-in-Err-keep-clause-err : goal.returns-in-Err-keep-clause-err
returns-in-Err-keep-clause-err c =
    let k = c.in-Err-keep.ensures in
    record { is_in = k.err; log = k.err_log; span = k.same.0; marks = k.same.2 }

pub returns-in-Ok-keep-clause-learned : goal.returns-in-Ok-keep-clause-learned
returns-in-Ok-keep-clause-learned c = λ v h.
    let e = c.args.e.now in
    let k = c.in-Ok-keep.ensures in
    let is = c.in-Ok.ensures ∙ ap (λ ns. Learn c.args.clause.now (as_numbers ns c.args.keys.now)) c.as_slice.ensures.value in
    record {
      hints = as_numbers e.parts.numbers.items c.args.keys.now;
      step_is = (
        record { numbers = above c.args.clause.now (length e.theory.variables) c.requires.over; ascending = c.requires.well_formed.ascending; consistent = c.requires.well_formed.consistent },
        learn_hints_above e v h c.args.clause.now c.args.keys.now c.requires.follows,
      );
      over = subst (λ xs. AreOver (length xs) c.args.clause.now) (sym h.taken.theory.variables) c.requires.over;
      brings = learn_brings e v h c.args.clause.now c.args.keys.now c.requires.follows c.requires.is_new;
      log = k.log ∙ ap (λ (s : Step). e.log.steps ++ s ∷ []) is;
      span = k.same.0;
      marks = k.same.2;
      is_in = k.kept v h;
    }
