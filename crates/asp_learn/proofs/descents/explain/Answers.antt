use Rattle.std.proofs.Common.{List, ap, subst}
use Rattle.theory_form.specs.declared.literals.Var.{Var}
use Rattle.asp_learn.specs.Marked.{has, AreCleared}
use Rattle.asp_learn.proofs.DescentLemmas.{descended_start, explained_end, within_start}
use Rattle.asp_learn.proofs.MarkedLemmas.{marked_start, marks_back, only_start}
use Rattle.asp_learn.proofs.descents.explain.Goals as goal

pub descend_all-done-requires : goal.descend_all-done-requires
descend_all-done-requires c =
    let s = c.args.s.now in
    let d = c.new-down.result in
    let new = c.new-down.ensures in
    record {
      are_false = c.requires.are_false;
      rest = record {
        none = new.path;
        descended = descended_start s (has d.seen.items) d.lits.items d.hints.items c.assignment-assignment.ensures.trail c.assignment-assignment.ensures.store (λ v. ap (λ vars. has vars v) new.seen) new.lits new.hints;
      };
      only = only_start s d.seen.items c.args.marks.now new.seen c.requires.clear;
    }

pub returns-in_err-done-clause-marks : goal.returns-in_err-done-clause-marks
returns-in_err-done-clause-marks c =
    let d = c.descend_all-done.new.self in
    let cleared = subst (λ (vars : List Var). AreCleared vars c.descend_all-done.new.marks c.clear_all.new.marks) c.as_slice.ensures.value c.clear_all.ensures in
    marks_back d.seen.items c.args.marks.now c.descend_all-done.new.marks c.clear_all.new.marks (c.descend_all-done.ensures.marked c.args.marks.now (marked_start c.new-down.result.seen.items c.args.marks.now c.new-down.ensures.seen)) cleared

pub returns-clause-marks : goal.returns-clause-marks
returns-clause-marks c =
    let d = c.descend_all-done.new.self in
    let cleared = subst (λ (vars : List Var). AreCleared vars c.descend_all-done.new.marks c.clear_all.new.marks) c.as_slice.ensures.value c.clear_all.ensures in
    marks_back d.seen.items c.args.marks.now c.descend_all-done.new.marks c.clear_all.new.marks (c.descend_all-done.ensures.marked c.args.marks.now (marked_start c.new-down.result.seen.items c.args.marks.now c.new-down.ensures.seen)) cleared

pub returns-clause-explained : goal.returns-clause-explained
returns-clause-explained c =
    let s = c.args.s.now in
    let start = c.new-down.result in
    let new = c.new-down.ensures in
    let d = c.descend_all-done.new.self in
    let on = c.in_ok-done.ensures in
    explained_end s (has d.seen.items) c.args.lits.now d.lits.items d.hints.items on.rest.descended on.met
    (λ set closed all. on.within set closed all (within_start s set (has start.seen.items) start.hints.items (λ v. ap (λ vars. has vars v) new.seen) new.hints))
