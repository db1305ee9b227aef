use Rattle.std.proofs.Common.{◌≡◌, ◌<◌, ◌+◌, List, Bool, length, get_or, take, sym, ◌∙◌, subst, arith}
use Rattle.std.proofs.lemmas.Bool.{false≢true}
use Rattle.std.proofs.lemmas.List.{length-set, take_all}
use Rattle.theory_form.specs.declared.literals.Var.{Var}
use Rattle.loop_nogoods.proofs.OpenLemmas.{AreOpen, open_more, open_skip}
use Rattle.loop_nogoods.proofs.founding.mark_open.Goals as goal
use Rattle.loop_nogoods.proofs.founding.mark_open.Goals.{then-is_open, else-is_open}

abbrev none : Var
none = record { 0 = 0 }

pub loop-v-preserved : goal.loop-v-preserved
loop-v-preserved c =
    let vars : List Var = c.args.vars.now in
    let i = c.loop-v.v-index in
    let lt : i < length vars = omega arith in
    let before = c.loop-v.invariant in
    elim c.if-is_open.branch [
      | then-is_open w ↦
          let place : (get_or vars i none).0 < length c.loop-v.atoms = (let p = c.requires.places i none lt in omega (arith, before.places)) in
          record {
            places = subst (λ (m : List Bool). length m ≡ length c.args.atoms.now) (sym (w.atoms-is ∙ w.set.ensures)) (length-set c.loop-v.atoms _ _ ∙ before.places);
            marks = subst (AreOpen c.args.a.now (take (i + 1) vars)) (sym (w.atoms-is ∙ w.set.ensures)) (open_more c.args.a.now vars i none c.loop-v.atoms lt before.marks place (c.is_open.ensures.0 w.if-is_open.true));
          }
      | else-is_open w ↦ record {
        places = subst (λ (m : List Bool). length m ≡ length c.args.atoms.now) (sym w.atoms-is) before.places;
        marks = subst (AreOpen c.args.a.now (take (i + 1) vars)) (sym w.atoms-is)
            (open_skip c.args.a.now vars i none c.loop-v.atoms lt before.marks (λ is. false≢true (sym w.if-is_open.false ∙ c.is_open.ensures.1 is)));
      }
    ]

pub returns-clause-marks : goal.returns-clause-marks
returns-clause-marks c =
    subst (λ xs. AreOpen c.args.a.now xs c.loop-v.atoms) (take_all c.loop-v.v-index c.args.vars.now (omega arith)) c.loop-v.invariant.marks
