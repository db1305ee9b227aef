-- Where nothing is found there is no answer set, and else the unbeaten ones are listed.
use Rattle.std.proofs.Common.{◌≡◌, ◌≢◌, ◌∙◌, ◌<◌, sym, arith, length, []}
use Rattle.std.proofs.lemmas.Bool.{eqb-true, eqb-false}
use Rattle.std.proofs.lemmas.List.Elements.{Contains-get_or}
use Rattle.small_optima.proofs.Listing.{is_sorted_listing, some_optimal}
use Rattle.small_optima.proofs.optima.list_optima.Goals as goal

pub returns-then-is_empty-clause-found : goal.returns-then-is_empty-clause-found
returns-then-is_empty-clause-found c x answer =
    let found = c.in_ok-found.found in
    let there = c.in_ok-found.ensures.found.whole x answer in
    let none : found.len ≡ 0 = eqb-true found.len 0 (sym c.is_empty.ensures ∙ c.if-is_empty.true) in
    let lt : there.0 < length found.items = there.2 in
    let len = found.ok.0 in omega arith

pub returns-clause-found : goal.returns-clause-found
returns-clause-found c =
    let p = c.args.p.now in let found = c.in_ok-found.found in let best = c.in_ok-unbeaten_sets.field-0.items in
    let some : found.len ≢ 0 = eqb-false found.len 0 (sym c.is_empty.ensures ∙ c.if-is_empty.false) in
    let len = found.ok.0 in
    let lt : 0 < length found.items = omega arith in (
      is_sorted_listing p found.items best c.in_ok-found.ensures.found c.in_ok-unbeaten_sets.ensures,
      some_optimal p found.items best c.in_ok-found.ensures.found c.in_ok-unbeaten_sets.ensures _ (Contains-get_or found.items 0 [] lt),
    )
