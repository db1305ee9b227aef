use Rattle.std.proofs.Common.{rules}
use Rattle.std.proofs.lemmas.List.Sorted.{answers_always}
use Rattle.element_form.proofs.Weights.{searched}
use Rattle.element_form.proofs.spec.Spec.place_of.Goals as goal

-- the closure gives a weight, and the slice is the list that is kept
pub returns : goal.returns
returns c =
    let facts = c.binary_search_by_key.ensures in
    let by_key = facts.position (λ entry. entry.0) (answers_always _ _ _ (λ f a r g called. search rules)) in
    rw (← c.self.view_is, ← c.deref.ensures.value) (searched _ (rw c.deref.ensures.value c.self.invariant.numbers) c.args.w _ facts.bound by_key)
