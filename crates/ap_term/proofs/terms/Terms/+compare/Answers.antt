use Rattle.std.proofs.Common.{rules, arith, sym, ap, ◌∙◌, Equal}
use Rattle.ap_term.specs.Order.{value_cmp}
use Rattle.ap_term.specs.Table.{value_at}
use Rattle.ap_term.proofs.OrderLemmas.{value_itself}
use Rattle.ap_term.proofs.ShapeLemmas.{same_id}
use Rattle.ap_term.proofs.CompareLemmas.{are_first, by_first, by_same, by_outline, equal_values}
use Rattle.ap_term.proofs.terms.Terms.+compare.Goals as goal

pub returns-then-eq-clause-order : goal.returns-then-eq-clause-order
returns-then-eq-clause-order t c = sym (value_itself (value_at c.args.self.now c.args.a)) ∙ ap (λ id. value_cmp (value_at c.args.self.now c.args.a) (value_at c.args.self.now id)) (same_id c.args.a c.args.b c.if-eq.ensures)

pub compare-requires : goal.compare-requires
compare-requires t c =
    let first = are_first c.args.self.now c.args.a c.args.b _ _ c.in-Some.x c.in-Some.y _ _ c.shape-s.ensures.over c.shape-t.ensures.over c.arguments.ensures c.arguments-in-Equal.ensures c.in-Some.ensures in
    let smaller = first.x_before in
    (search rules, (omega (arith, first.x_before), omega (arith, first.y_before)))

pub returns-in-Some-clause-order : goal.returns-in-Some-clause-order
returns-in-Some-clause-order t c =
    let first = are_first c.args.self.now c.args.a c.args.b _ _ c.in-Some.x c.in-Some.y _ _ c.shape-s.ensures.over c.shape-t.ensures.over c.arguments.ensures c.arguments-in-Equal.ensures c.in-Some.ensures in
    c.compare.ensures.order
    ∙ by_first c.args.self.now c.args.a c.args.b _ _ c.shape-s.ensures.value c.shape-t.ensures.value c.shape-s.ensures.distinct c.in-Equal.ensures c.in-Some.x c.in-Some.y first.differ (omega (arith, first.x_before)) (omega (arith, first.y_before))

-- equal outlines and arguments
pub returns-in-None-clause-order : goal.returns-in-None-clause-order
returns-in-None-clause-order t c =
    by_same c.args.self.now c.args.a c.args.b c.shape-s.result.now c.shape-t.result.now c.shape-s.ensures.value c.shape-t.ensures.value c.in-Equal.ensures (sym c.arguments.ensures ∙ c.in-None.ensures ∙ c.arguments-in-Equal.ensures)

pub returns-in-None-clause-equal : goal.returns-in-None-clause-equal
returns-in-None-clause-equal t c = equal_values c.args.self.now c.shape-s.ensures.distinct c.args.a c.args.b Equal c.requires.a c.requires.b (returns-in-None-clause-order t c)

pub returns-in_default : goal.returns-in_default
returns-in_default t c =
    let order = by_outline c.args.self.now c.args.a c.args.b c.shape-s.result.now c.shape-t.result.now c.shape-s.ensures.value c.shape-t.ensures.value c.compare_outline.result c.compare_outline.ensures c.in_default.not-Equal in
    record {
      order = order;
      equal = equal_values c.args.self.now c.shape-s.ensures.distinct c.args.a c.args.b c.compare_outline.result c.requires.a c.requires.b order;
    }
