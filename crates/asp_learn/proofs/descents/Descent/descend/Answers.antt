use Rattle.std.proofs.Common.{◌≡◌, ◌<◌, ℕ, List, not, true, false, sym, subst, arith}
use Rattle.theory_form.specs.declared.literals.ClauseId.{ClauseId}
use Rattle.theory_form.specs.declared.literals.Var.{Var}
use Rattle.asp_trail.proofs.TrailLemmas.{length-values_of, value_within}
use Rattle.asp_store.specs.Store.{assigned}
use Rattle.asp_learn.specs.Descents.{Within}
use Rattle.asp_learn.specs.Marked.{has, marked}
use Rattle.asp_learn.proofs.DescentLemmas.{entered_root, seen_sees, within_entered}
use Rattle.asp_learn.proofs.MarkedLemmas.{has-here, has-kept, has_from_marked, inside, mark_off, none_from_unmarked, only_kept}
use Rattle.asp_learn.proofs.descents.Descent.descend.Goals as goal

pub returns-then-is_marked-clause-met : goal.returns-then-is_marked-clause-met
returns-then-is_marked-clause-met c =
    let s = c.args.s.now in
    let v : ℕ = c.args.l.var.0 in
    let within : v < s.places = subst (λ n. v < n) (length-values_of s.places s.entries) (value_within (assigned s) v (not c.args.l.yes) c.requires.is_false) in
    has_from_marked c.requires.only v within (c.is_marked.ensures.0 c.if-is_marked.true)

pub enter-requires-clause-within : goal.enter-requires-clause-within
enter-requires-clause-within c =
    let s = c.args.s.now in
    let v : ℕ = c.args.l.var.0 in
    let within : v < s.places = subst (λ n. v < n) (length-values_of s.places s.entries) (value_within (assigned s) v (not c.args.l.yes) c.requires.is_false) in
    inside c.requires.only v within

pub loop-frame-init : goal.loop-frame-init
loop-frame-init c =
    let s = c.args.s.now in
    let old = c.args.self.now in
    let new = c.enter.new.self in
    let l = c.args.l in
    let v : ℕ = l.var.0 in
    let within : v < s.places = subst (λ n. v < n) (length-values_of s.places s.entries) (value_within (assigned s) v (not l.yes) c.requires.is_false) in
    let off : marked c.args.marks.now v ≡ false = mark_off _ _ c.is_marked.ensures c.if-is_marked.false in
    let e = c.in_ok-enter.ensures.entered in
    record {
      descended = entered_root s old new l c.requires.rest e (none_from_unmarked c.requires.only v within off) c.requires.is_false;
      met = subst (λ (vars : List Var). has vars v ≡ true) (sym e.seen) (has-here old.seen.items l.var);
      kept = λ w on. subst (λ (vars : List Var). has vars w ≡ true) (sym e.seen) (has-kept old.seen.items l.var w on);
      within = λ set closed all w.
          subst (λ (ids : List ClauseId). Within s set (has new.seen.items) ids) (sym e.hints)
          (within_entered s set (has old.seen.items) (has new.seen.items) old.hints.items v (seen_sees old.seen.items new.seen.items l.var e.seen) (all 0 l (omega arith)) w);
      marked = λ base was. c.enter.ensures.marked base off was;
    }

pub go_on-requires-clause-only : goal.go_on-requires-clause-only
go_on-requires-clause-only c = only_kept c.requires.only c.loop-frame.invariant.marked

pub loop-frame-preserved : goal.loop-frame-preserved
loop-frame-preserved c =
    let inv = c.loop-frame.invariant in
    let on = c.in_ok-go_on.ensures in
    record {
      descended = on.descended;
      met = on.kept c.args.l.var.0 inv.met;
      kept = λ v was. on.kept v (inv.kept v was);
      within = λ set closed all w. on.within set closed (λ k d lt. absurd (omega arith)) (inv.within set closed all w);
      marked = λ base was. c.go_on.ensures.marked base (inv.marked base was);
    }

pub returns-in_err-go_on-clause-marked : goal.returns-in_err-go_on-clause-marked
returns-in_err-go_on-clause-marked c = λ base was. c.go_on.ensures.marked base (c.loop-frame.invariant.marked base was)
