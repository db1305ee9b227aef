use Rattle.std.proofs.Common.{ℕ, List, Option, subst}
use Rattle.ap_bindings.specs.declared.search.Failing.{Failing}
use Rattle.ap_bindings.specs.Unsafe.{definite_by, IsFirstUnsafe}
use Rattle.ap_pieces.specs.Pieces.{sources}
use Rattle.ap_safety.proofs.AnswerLemmas.{unbound_answer, bound_answer}
use Rattle.ap_safety.proofs.checking.check.Goals as goal

pub returns-in-Some : goal.returns-in-Some
returns-in-Some c =
    let rules = c.args.rules.now in
    let elements = c.args.elements.now in
    let found = subst (λ (f : Option (Failing (List ℕ))). IsFirstUnsafe (definite_by c.in-Ok.safe) (sources rules elements) f) c.in-Some.is c.in-Ok-unsafe_in.ensures in
    unbound_answer rules elements c.in-Ok.safe c.args.base c.in-Some.found c.in-Ok.ensures.safe c.in-Ok.ensures.base found

pub returns-in-None : goal.returns-in-None
returns-in-None c =
    let rules = c.args.rules.now in
    let elements = c.args.elements.now in
    let bound = subst (λ (f : Option (Failing (List ℕ))). IsFirstUnsafe (definite_by c.in-Ok.safe) (sources rules elements) f) c.in-None.is c.in-Ok-unsafe_in.ensures in
    bound_answer rules elements c.in-Ok.safe c.in-Ok.ensures.safe bound c.args.base c.check_recursion.result c.in-Ok.ensures.base c.check_recursion.ensures.answer c.check_recursion.ensures.same
