use Rattle.std.proofs.Common.{refl, ◌∙◌, ap, arith, sym, length, get_or, List}
use Rattle.asp_store.specs.declared.watches.Watcher.{Watcher}
use Rattle.asp_store.proofs.ExamineLemmas.{any_lit, zero_lit}
use Rattle.asp_store.proofs.LevelLemmas.{Moved-stays, IsWatched-stays}
use Rattle.asp_store.proofs.VisitLemmas.{AllWatched-visited, visit_begins, visit_blocked, visit_passed}
use Rattle.asp_store.proofs.visits.visit.Goals as goal

-- the watcher that a read past the end gives
abbrev zero_watcher : Watcher
zero_watcher = record { key = 0; blocker = zero_lit }

pub watchers-init : goal.watchers-init
watchers-init c = record {
  places = refl;
  next = refl;
  at = visit_begins c.args.clauses.now.slots c.args.lists.now c.args.trail.now.places c.args.trail.now.entries c.args.l any_lit c.requires.listed c.requires.store c.requires.within c.requires.is_false;
}

pub watchers-preserved-then-is_true : goal.watchers-preserved-then-is_true
watchers-preserved-then-is_true c =
    let i = c.watchers.invariant in
    let yes = rw (c.assignment.ensures.value, i.places) at (c.is_true.ensures.0 c.if-is_true.true) in
    let here = rw c.watchers_of-in-watchers.ensures at yes in
    record {
      places = i.places;
      next = i.next;
      at = visit_blocked _ _ _ _ _ _ _ _ _ _ here i.at;
    }

pub returns-in_err-examine-clause-moved : goal.returns-in_err-examine-clause-moved
returns-in_err-examine-clause-moved c =
    Moved-stays _ _ _ _ _ _ _ _ _ _ c.watchers.invariant.at.moved c.in_err-examine.ensures.err c.examine.ensures.grows

pub returns-in_err-examine-clause-watched : goal.returns-in_err-examine-clause-watched
returns-in_err-examine-clause-watched c pending marks top h =
    IsWatched-stays _ _ _ _ _ _ _ _ marks _ c.in_err-examine.ensures.err c.examine.ensures.grows (c.watchers.invariant.at.watched pending marks top h)

pub returns-in-None-clause-moved : goal.returns-in-None-clause-moved
returns-in-None-clause-moved c =
    let look = rw c.in-None.is at c.in_ok-examine.ensures.look in
    Moved-stays _ _ _ _ _ _ _ _ _ _ c.watchers.invariant.at.moved (look.1, look.2) c.examine.ensures.grows

pub returns-in-None-clause-watched : goal.returns-in-None-clause-watched
returns-in-None-clause-watched c pending marks top h =
    let look = rw c.in-None.is at c.in_ok-examine.ensures.look in
    IsWatched-stays _ _ _ _ _ _ _ _ marks _ (look.1, look.2) c.examine.ensures.grows (c.watchers.invariant.at.watched pending marks top h)

pub watchers-preserved : goal.watchers-preserved
watchers-preserved c =
    let i = c.watchers.invariant in
    let look = rw (c.in-Some.is, i.places) at c.in_ok-examine.ensures.look in
    let trail = rw i.places at c.examine.ensures.trail in
    let stable = rw i.places at c.examine.ensures.stable in
    let test = c.watchers-test.true in
    let len = ap (λ xs. length xs) c.watchers_of.ensures in
    record {
      places = c.examine.ensures.places ∙ i.places;
      next = c.examine.ensures.next ∙ i.next;
      at = visit_passed _ _ _ _ _ _ _ _ _ _ _ _ _ _ _ _ i.at (omega (arith, test, len)) (ap (λ (xs : List Watcher). (get_or xs c.watchers.i zero_watcher).key) (sym c.watchers_of-in-watchers.ensures)) trail stable look.0 look.1 c.pass-i.ensures;
    }

pub returns-clause-visited : goal.returns-clause-visited
returns-clause-visited c _ p q next all =
    let test = c.watchers-test.false in
    let len = ap (λ xs. length xs) c.watchers_of.ensures in
    AllWatched-visited _ _ p q _ c.watchers.i (omega (arith, test, len)) (c.watchers.invariant.at.visited p q next all)
