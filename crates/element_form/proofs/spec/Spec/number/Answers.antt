use Rattle.std.proofs.Common.{◌≡◌, ◌∙◌, sym, subst, ℤ, Contains, to_z, of_z, w64, arith, slice_index_or}
use Rattle.std.proofs.lemmas.Int.{to_z-of_z}
use Rattle.element_form.proofs.spec.Spec.number.Goals as goal

-- what is read is what stands at the place
pub returns-in-Ok-clause-found : goal.returns-in-Ok-clause-found
returns-in-Ok-clause-found c =
    let there = c.in-Ok.ensures.found.1 c.index.result.now in
    let value : to_z w64 (of_z w64 c.index.result.now.1) ≡ c.index.result.now.1 = grind (arith, to_z-of_z) in
    let read : (slice_index_or c.args.self.now.numbers c.in-Ok.place c.index.result.now).1 ≡ c.index.result.now.1 = grind (arith, c.self.view_is) in
    subst (λ (n : ℤ). Contains c.args.self.now.numbers (c.args.w, n)) (read ∙ sym value) there
