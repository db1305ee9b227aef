use Rattle.std.proofs.Common.{◌<◌, ℕ, Bool, List, length, get_or, reverse, refl, sym, subst, arith}
use Rattle.theory_form.specs.declared.literals.ClauseId.{ClauseId}
use Rattle.theory_form.specs.declared.literals.Lit.{Lit}
use Rattle.asp_learn.specs.declared.descents.Descent.{Descent}
use Rattle.asp_learn.specs.Descents.{Descended, Within}
use Rattle.asp_learn.specs.Marked.{has}
use Rattle.asp_learn.proofs.DescentLemmas.{all_met, entered_deeper, frame_within, left_frame, left_within, literal_older, seen_sees, within_entered}
use Rattle.asp_learn.proofs.MarkedLemmas.{has_from_marked, none_from_unmarked}
use Rattle.asp_learn.proofs.descents.Descent.go_on.Goals as goal

abbrev any : Lit
any = record { var = record { 0 = 0 }; yes = Bool.false }

pub enter-requires-clause-is_false : goal.enter-requires-clause-is_false
enter-requires-clause-is_false c =
    let lits : List Lit = c.in-Some.lits.now in
    let h = c.requires.descended in
    let k : ℕ = c.in-Some-next_unmarked.place in
    let at = sym c.in-Some.ensures.value in
    let next = c.in-Some-next_unmarked.ensures in
    let off = none_from_unmarked c.requires.only (get_or lits k any).var.0 (h.store.within c.args.frame.id.0 lits at k any next.0) (next.2 any) in
    (literal_older h lits at k any next.0 off).is_false

pub returns-in_ok-enter-in-Some-next_unmarked-clause-descended : goal.returns-in_ok-enter-in-Some-next_unmarked-clause-descended
returns-in_ok-enter-in-Some-next_unmarked-clause-descended c =
    let lits : List Lit = c.in-Some.lits.now in
    let h = c.requires.descended in
    let k : ℕ = c.in-Some-next_unmarked.place in
    let at = sym c.in-Some.ensures.value in
    let next = c.in-Some-next_unmarked.ensures in
    let inside : k < length lits = next.0 in
    let off = none_from_unmarked c.requires.only (get_or lits k any).var.0 (h.store.within c.args.frame.id.0 lits at k any next.0) (next.2 any) in
    let mid : Descent = record c.args.self.now { path = c.push.new.self } in
    entered_deeper c.args.s.now c.args.self.now mid c.enter.new.self c.args.frame lits k any h at inside
    c.in_ok-push-in-Some-next_unmarked.ensures.items refl refl refl c.in_ok-enter-in-Some-next_unmarked.ensures.entered off
    (λ j x low high. has_from_marked c.requires.only (get_or lits j x).var.0 (h.store.within c.args.frame.id.0 lits at j x (omega (arith, high, inside))) (next.1 j x low high))

pub returns-in_ok-enter-in-Some-next_unmarked-clause-within : goal.returns-in_ok-enter-in-Some-next_unmarked-clause-within
returns-in_ok-enter-in-Some-next_unmarked-clause-within c = λ set closed none w.
    let s = c.args.s.now in
    let old = c.args.self.now in
    let new = c.enter.new.self in
    let lits : List Lit = c.in-Some.lits.now in
    let h = c.requires.descended in
    let k : ℕ = c.in-Some-next_unmarked.place in
    let at = sym c.in-Some.ensures.value in
    let next = c.in-Some-next_unmarked.ensures in
    let off = none_from_unmarked c.requires.only (get_or lits k any).var.0 (h.store.within c.args.frame.id.0 lits at k any next.0) (next.2 any) in
    let e = c.in_ok-enter-in-Some-next_unmarked.ensures.entered in
    subst (λ (ids : List ClauseId). Within s set (has new.seen.items) ids) (sym e.hints)
    (within_entered s set (has old.seen.items) (has new.seen.items) old.hints.items (get_or lits k any).var.0 (seen_sees old.seen.items new.seen.items (get_or lits k any).var e.seen)
    (frame_within h lits at set old.hints.items k any next.0 off closed w) w)

pub returns-in_ok-push-in-None-next_unmarked-clause-descended : goal.returns-in_ok-push-in-None-next_unmarked-clause-descended
returns-in_ok-push-in-None-next_unmarked-clause-descended c =
    let s = c.args.s.now in
    let old = c.args.self.now in
    let lits : List Lit = c.in-Some.lits.now in
    let h = c.requires.descended in
    let at = sym c.in-Some.ensures.value in
    subst (λ (ids : List ClauseId). Descended s (has old.seen.items) (reverse old.path.items) old.lits.items ids) (sym c.in_ok-push-in-None-next_unmarked.ensures.items)
    (left_frame h lits at (all_met h lits at (λ k d low inside.
    has_from_marked c.requires.only (get_or lits k d).var.0 (h.store.within c.args.frame.id.0 lits at k d inside) (c.in-None-next_unmarked.ensures k d low inside))))

pub returns-in_ok-push-in-None-next_unmarked-clause-within : goal.returns-in_ok-push-in-None-next_unmarked-clause-within
returns-in_ok-push-in-None-next_unmarked-clause-within c = λ set closed none w.
    let s = c.args.s.now in
    let old = c.args.self.now in
    let lits : List Lit = c.in-Some.lits.now in
    let h = c.requires.descended in
    let at = sym c.in-Some.ensures.value in
    subst (λ (ids : List ClauseId). Within s set (has old.seen.items) ids) (sym c.in_ok-push-in-None-next_unmarked.ensures.items) (left_within h lits at set old.hints.items closed w)
