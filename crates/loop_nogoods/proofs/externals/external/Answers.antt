use Rattle.std.proofs.Common.{◌≡◌, ℕ, Bool, List, not, sym, ap, ◌∙◌, subst}
use Rattle.std.specs.Prelude.{filter}
use Rattle.std.specs.List.{Contains, flat_map}
use Rattle.theory_form.specs.declared.literals.Lit.{Lit}
use Rattle.theory_form.specs.declared.literals.Var.{Var}
use Rattle.theory_model.specs.Loops.{IsExternal, is_internal}
use Rattle.loop_nogoods.specs.Bodies.{support_lits}
use Rattle.loop_nogoods.specs.Sets.{has}
use Rattle.loop_nogoods.proofs.SupportLemmas.{marks_of_list, marks_of_list_back, external_members}
use Rattle.loop_nogoods.proofs.externals.external.Goals as goal

pub returns-in_err-found-clause-marks : goal.returns-in_err-found-clause-marks
returns-in_err-found-clause-marks c =
    marks_of_list_back c.args.t.now c.args.u.now c.args.marks.now c.write_all.new.marks c.write_all-2.new.marks c.requires.clear c.requires.variables c.write_all.ensures c.write_all-2.ensures

pub returns-in_err-lits-clause-marks : goal.returns-in_err-lits-clause-marks
returns-in_err-lits-clause-marks c =
    marks_of_list_back c.args.t.now c.args.u.now c.args.marks.now c.write_all.new.marks c.write_all-2.new.marks c.requires.clear c.requires.variables c.write_all.ensures c.write_all-2.ensures

pub returns-clause-marks : goal.returns-clause-marks
returns-clause-marks c =
    marks_of_list_back c.args.t.now c.args.u.now c.args.marks.now c.write_all.new.marks c.write_all-2.new.marks c.requires.clear c.requires.variables c.write_all.ensures c.write_all-2.ensures

pub returns-clause-supports : goal.returns-clause-supports
returns-clause-supports c = λ l.
    let t = c.args.t.now in
    let u = c.args.u.now in
    let set = marks_of_list t u c.args.marks.now c.write_all.new.marks c.requires.clear c.requires.variables c.write_all.ensures in
    let list : c.in_ok-found.field-0.items ≡ flat_map (λ (v : Var). filter (λ s. not (is_internal t (has u) s)) (support_lits t v.0)) u
    = c.in_ok-found.ensures ∙ ap (λ (m : ℕ → Bool). flat_map (λ (v : Var). filter (λ s. not (is_internal t m s)) (support_lits t v.0)) u) set in
    let same = c.in_ok-lits.ensures.same l in
    let members = subst (λ (lits : List Lit). (Contains lits l → IsExternal t (has u) l) × (IsExternal t (has u) l → Contains lits l)) (sym list) (external_members t u l) in
    (λ h. members.0 (same.0 h), λ h. same.1 (members.1 h))
