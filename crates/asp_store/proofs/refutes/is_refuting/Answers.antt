use Rattle.std.proofs.Common.{◌≡◌, Some, sym, subst, ◌∙◌}
use Rattle.asp_store.specs.declared.choices.Kept.{Kept}
use Rattle.asp_store.specs.Store.{IsNegated}
use Rattle.asp_store.proofs.refutes.is_refuting.Goals as goal

pub returns-in-Some : goal.returns-in-Some
returns-in-Some c =
    let k = c.in-Some.kept.now in
    let stored = sym c.in-Some.ensures in
    let test = rw c.as_slice.ensures at c.are_negated.ensures in (
      λ yes. (k, stored, test.0 yes),
      λ r. test.1 (
          let e : Some r.0 ≡ Some k = sym r.1 ∙ stored in
          let f : r.0 ≡ k = cc in
          subst (λ (x : Kept). IsNegated c.args.assume.now x.clause) f r.2),
    )
