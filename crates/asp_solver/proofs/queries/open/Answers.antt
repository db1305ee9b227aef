use Rattle.std.proofs.Common.{◌≡◌, ◌<◌, ℕ, List, [], length, Option, Some, None, true, false, get_or, sym, ap, ◌∙◌}
use Rattle.std.specs.List.{position}
use Rattle.std.proofs.lemmas.List.Quantifiers.{position-Some}
use lib.Pointwise.{pointwise}
use Rattle.theory_form.specs.Order.{lit_eq}
use Rattle.asp_engine.specs.declared.periods.Query.{Query}
use Rattle.asp_engine.specs.declared.periods.Period.{Period}
use Rattle.asp_solver.specs.Views.{period_or_first}
use Rattle.asp_solver.proofs.OpenLemmas.{none_at, none_passes, taken_at}
use Rattle.asp_solver.proofs.QueryLemmas.{same_so}
use Rattle.asp_solver.proofs.queries.open.Goals as goal

pub returns-in-Some-clause-assume : goal.returns-in-Some-clause-assume
returns-in-Some-clause-assume c =
    let qs = c.args.queries.now.items in
    let own = c.args.assume.now in
    let found : position (λ (q : Query). pointwise lit_eq q.assume c.args.assume.now) c.args.queries.now.items ≡ Some c.in-Some.place =
    ap (position (λ (q : Query). pointwise lit_eq q.assume c.args.assume.now)) (sym c.as_slice.ensures.value) ∙ (sym c.position_of.ensures ∙ c.in-Some.is) in
    let at = position-Some (λ (q : Query). pointwise lit_eq q.assume c.args.assume.now) qs c.in-Some.place c.remove.result found in
    ap (λ (q : Query). q.assume) c.remove.ensures.value ∙ same_so (get_or qs c.in-Some.place c.remove.result).assume own at.1

pub returns-in-Some-clause-period : goal.returns-in-Some-clause-period
returns-in-Some-clause-period c =
    let qs = c.args.queries.now.items in
    let found : position (λ (q : Query). pointwise lit_eq q.assume c.args.assume.now) c.args.queries.now.items ≡ Some c.in-Some.place =
    ap (position (λ (q : Query). pointwise lit_eq q.assume c.args.assume.now)) (sym c.as_slice.ensures.value) ∙ (sym c.position_of.ensures ∙ c.in-Some.is) in
    let at = position-Some (λ (q : Query). pointwise lit_eq q.assume c.args.assume.now) qs c.in-Some.place c.remove.result found in
    let taken = taken_at qs c.args.assume.now c.in-Some.place c.remove.result at.0 at.1 at.2 in
    ap (λ (q : Query). q.period) c.remove.ensures.value ∙ sym (ap period_or_first taken.1)

pub returns-in-Some-clause-others : goal.returns-in-Some-clause-others
returns-in-Some-clause-others c =
    let qs = c.args.queries.now.items in
    let found : position (λ (q : Query). pointwise lit_eq q.assume c.args.assume.now) c.args.queries.now.items ≡ Some c.in-Some.place =
    ap (position (λ (q : Query). pointwise lit_eq q.assume c.args.assume.now)) (sym c.as_slice.ensures.value) ∙ (sym c.position_of.ensures ∙ c.in-Some.is) in
    let at = position-Some (λ (q : Query). pointwise lit_eq q.assume c.args.assume.now) qs c.in-Some.place c.remove.result found in
    let taken = taken_at qs c.args.assume.now c.in-Some.place c.remove.result at.0 at.1 at.2 in
    c.remove.ensures.items ∙ sym taken.0

any_query : Query
any_query = record { assume = []; period = record { number = 0; learned = [] } }

pub returns-clause-period : goal.returns-clause-period
returns-clause-period c =
    let qs = c.args.queries.now.items in
    let found : position (λ (q : Query). pointwise lit_eq q.assume c.args.assume.now) c.args.queries.now.items ≡ None =
    ap (position (λ (q : Query). pointwise lit_eq q.assume c.args.assume.now)) (sym c.as_slice.ensures.value) ∙ (sym c.position_of.ensures ∙ c.in-None.is) in
    let none = none_at qs c.args.assume.now any_query (λ k w. none_passes (λ (q : Query). pointwise lit_eq q.assume c.args.assume.now) c.args.queries.now.items found k any_query w) in
    c.first.ensures ∙ sym (ap period_or_first none.1)

pub returns-clause-others : goal.returns-clause-others
returns-clause-others c =
    let qs = c.args.queries.now.items in
    let found : position (λ (q : Query). pointwise lit_eq q.assume c.args.assume.now) c.args.queries.now.items ≡ None =
    ap (position (λ (q : Query). pointwise lit_eq q.assume c.args.assume.now)) (sym c.as_slice.ensures.value) ∙ (sym c.position_of.ensures ∙ c.in-None.is) in
    let none = none_at qs c.args.assume.now any_query (λ k w. none_passes (λ (q : Query). pointwise lit_eq q.assume c.args.assume.now) c.args.queries.now.items found k any_query w) in
    c.in_ok-reserve.ensures.items ∙ sym none.0
