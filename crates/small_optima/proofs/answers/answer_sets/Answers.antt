-- The loop keeps the answer sets of the sets so far; at its end those are all sets.
use Rattle.std.proofs.Common.{◌∙◌, List, [], ◌∷◌, ◌++◌, ℕ, sym, subst}
use Rattle.std.proofs.lemmas.Bool.{false≢true}
use Rattle.std.proofs.lemmas.Iterator.Adapters.{YieldsList-from_vec}
use Rattle.std.proofs.lemmas.Iterator.Consumers.{YieldsList-end}
use Rattle.std.proofs.lemmas.List.{map-id}
use Rattle.ap_eval.specs.AnswerSets.{IsAnswerSet}
use Rattle.ap_eval.specs.AtomSets.{has}
use Rattle.ap_syntax.specs.declared.small.Program.{Program}
use Rattle.small_optima.specs.Kept.{Kept, none}
use Rattle.small_optima.proofs.Keeping.{Kept-push_yes, Kept-push_no}
use Rattle.small_optima.proofs.answers.answer_sets.Goals as goal

abbrev Answers : Program → List (List ℕ) → Type 0
Answers p set = IsAnswerSet p (has set)

pub loop-set-init : goal.loop-set-init
loop-set-init c = subst (Kept (Answers c.args.p.now) []) (sym c.new-found.ensures.items) none

pub loop-set-preserved : goal.loop-set-preserved
loop-set-preserved c =
    Kept-push_no (Answers c.args.p.now) c.in-Some.set c.loop-set.invariant
    (λ answers. false≢true (sym c.if-branch.false ∙ c.in_ok-small_answer_set.ensures.1 (subst (Answers c.args.p.now) (sym c.as_slice.ensures) answers)))

pub loop-set-preserved-in-Continue-branch-2 : goal.loop-set-preserved-in-Continue-branch-2
loop-set-preserved-in-Continue-branch-2 c =
    subst (Kept (Answers c.args.p.now) (c.loop-set.yielded ++ c.in-Some.set ∷ [])) (sym c.in_ok-push.ensures.items)
    (Kept-push_yes (Answers c.args.p.now) c.in-Some.set c.loop-set.invariant
    (subst (Answers c.args.p.now) c.as_slice.ensures (c.in_ok-small_answer_set.ensures.0 c.if-branch.true)))

pub returns : goal.returns
returns c =
    let gives = c.into_iter-set-iterator.ensures.into_iter_gives in
    let e = YieldsList-end (YieldsList-from_vec c.args.sets.items gives.0 (gives.1 ∙ c.args.sets.ok.0)) c.loop-set.yielded c.loop-set.set-iterator c.loop-set.yielded_by c.next.result c.next.new.self c.in-None.is c.next.ensures.steps in
    subst (λ sets. Kept (Answers c.args.p.now) sets c.loop-set.found.items) (sym (map-id c.loop-set.yielded) ∙ e.0) c.loop-set.invariant
