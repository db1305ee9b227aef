-- The rows answer whether a set is unbeaten.
use Rattle.std.proofs.Common.{◌≡◌, ◌∙◌, [], ◌∷◌, ◌++◌, map, ap, sym, subst}
use Rattle.std.specs.List.{list_any}
use Rattle.std.proofs.lemmas.Iterator.Adapters.{YieldsList-from_vec}
use Rattle.std.proofs.lemmas.Iterator.Consumers.{YieldsList-end}
use Rattle.std.proofs.lemmas.List.{map-id}
use Rattle.small_optima.specs.Kept.{Kept, none}
use Rattle.small_optima.specs.Marks.{marks_better}
use Rattle.small_optima.specs.Preferred.{optimised}
use Rattle.small_optima.specs.Unbeaten.{IsUnbeatenIn, elements_of, marks_of}
use Rattle.small_optima.proofs.Keeping.{Kept-push_yes, Kept-push_no}
use Rattle.small_optima.proofs.Listing.{beaten_from_marks, unbeaten_from_marks}
use Rattle.small_optima.proofs.preferred.unbeaten_sets.Goals as goal
use Rattle.small_optima.proofs.preferred.unbeaten_sets.Goals.{After-is_beaten}

-- the comparison of the rows compares the marks that they are
compared : (c : After-is_beaten) → (let elements = elements_of (optimised c.args.p.now) in list_any (λ other. marks_better other (marks_of elements c.in-Some.set)) (map (marks_of elements) c.args.sets.items)) ≡ c.is_beaten.result
compared c =
    let set = c.in-Some.set in let sets = c.args.sets.items in
    let elements = c.elements_to_compare-elements.result.now in
    let same = c.elements_to_compare-elements.ensures in
    let row = c.as_slice-in-loop-set-2.ensures ∙ (c.in_ok-row.ensures ∙ (ap (marks_of elements) c.as_slice-in-loop-set.ensures ∙ ap (λ e. marks_of e set) same)) in
    let rows = c.as_slice-in-loop-set-3.ensures.value ∙ (c.in_ok-rows.ensures ∙ (ap (map (marks_of elements)) c.as_slice.ensures.value ∙ ap (λ e. map (marks_of e) sets) same)) in
    sym (c.is_beaten.ensures ∙ (ap (λ marks. list_any (λ other. marks_better other marks) c.as_slice-in-loop-set-3.result.now) row ∙ ap (list_any (λ other. marks_better other (marks_of (elements_of (optimised c.args.p.now)) set))) rows))

pub loop-set-init : goal.loop-set-init
loop-set-init c = subst (Kept (IsUnbeatenIn c.args.p.now c.args.sets.items) []) (sym c.new-unbeaten.ensures.items) none

pub loop-set-preserved-then-not-is_beaten : goal.loop-set-preserved-then-not-is_beaten
loop-set-preserved-then-not-is_beaten c =
    let p = c.args.p.now in let sets = c.args.sets.items in let set = c.in-Some.set in
    let shared = (goal.at.loop-set-preserved-then-not-is_beaten c).After-is_beaten in
    subst (Kept (IsUnbeatenIn p sets) (c.loop-set.yielded ++ set ∷ [])) (sym c.in_ok-push.ensures.items)
    (Kept-push_yes (IsUnbeatenIn p sets) set c.loop-set.invariant (unbeaten_from_marks p set sets (compared shared ∙ c.if-not-is_beaten.true)))

pub loop-set-preserved : goal.loop-set-preserved
loop-set-preserved c =
    let p = c.args.p.now in let sets = c.args.sets.items in let set = c.in-Some.set in
    let shared = (goal.at.loop-set-preserved c).After-is_beaten in
    Kept-push_no (IsUnbeatenIn p sets) set c.loop-set.invariant (beaten_from_marks p set sets (compared shared ∙ c.if-not-is_beaten.false))

pub returns : goal.returns
returns c =
    let gives = c.into_iter-set-iterator.ensures.into_iter_gives in
    let e = YieldsList-end (YieldsList-from_vec c.args.sets.items gives.0 (gives.1 ∙ c.args.sets.ok.0)) c.loop-set.yielded c.loop-set.set-iterator c.loop-set.yielded_by c.next.result c.next.new.self c.in-None.is c.next.ensures.steps in
    subst (λ sets. Kept (IsUnbeatenIn c.args.p.now c.args.sets.items) sets c.loop-set.unbeaten.items) (sym (map-id c.loop-set.yielded) ∙ e.0) c.loop-set.invariant
