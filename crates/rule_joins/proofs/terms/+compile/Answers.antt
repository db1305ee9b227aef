use Rattle.std.proofs.Common.{rules, ◌≡◌, ◌≤◌, ◌+◌, map, take, All, IfOk, [], ◌∷◌, ◌++◌, sym, subst, ap, ◌∙◌, arith, w64}
use Rattle.std.specs.Prelude.{FitsSigned}
use Rattle.std.proofs.lemmas.Int.{to_z-of_z}
use Rattle.std.specs.Borrow.{Bor}
use Rattle.std.proofs.lemmas.List.{take_more, map-append}
use Rattle.ap_syntax.specs.declared.terms.Term.{Term, size-Term, the_lemmas}
use Rattle.ap_term.proofs.CallerLemmas.{KeepsIds-itself, KeepsIds-trans}
use Rattle.rule_form.specs.Readings.{read_term}
use Rattle.ap_term.specs.Value.{integer}
use Rattle.rule_joins.specs.Compiled.{IsKnownAs}
use Rattle.rule_joins.specs.Drafts.{IsPlacedIn}
use Rattle.rule_joins.proofs.DraftLemmas.{all_front, all_last}
use Rattle.rule_joins.specs.Terms.{HasIntegers, IsTermPlan, AreTermPlans}
use Rattle.rule_joins.proofs.ChainLemmas.{minus_result, sum_result, product_result, range_result, int_result, str_result, const_result, var_at, any_at, fun_with, tuple_with, fun_parts, tuple_parts, chain_integers, chain_less, all_now}
use Rattle.rule_joins.proofs.TermLemmas.{no_terms_plan, one_more_plan}
use Rattle.rule_joins.proofs.terms.+compile.Goals as goal

-- ---- operations

pub apply-returns-in_ok-zero-in-Minus-clause-plan : goal.apply-returns-in_ok-zero-in-Minus-clause-plan
apply-returns-in_ok-zero-in-Minus-clause-plan t c = minus_result c.compute.result c.args.operation.now c.args.first c.in_ok-zero-in-Minus.zero c.args.terms.now c.args.draft.now c.known.new.terms c.compute.new.draft c.in-Minus.field-0 c.in-Minus.is c.requires.draft c.known.ensures.kept c.in_ok-zero-in-Minus.ensures.pattern c.compute.ensures

pub apply-returns-in_ok-right-in-Sum-clause-plan : goal.apply-returns-in_ok-right-in-Sum-clause-plan
apply-returns-in_ok-right-in-Sum-clause-plan t c = sum_result c.compute-in-Sum.result c.args.operation.now c.args.first c.in_ok-right-in-Sum.right c.args.terms.now c.args.draft.now c.compile_term.new.terms c.compile_term.new.draft c.compute-in-Sum.new.draft c.in-Sum.field-0 c.in-Sum.op c.in-Sum.right c.get.result.now c.of_sum.result c.in-Sum.is c.get.ensures c.of_sum.ensures c.in_ok-right-in-Sum.ensures.plan c.compute-in-Sum.ensures

pub apply-returns-in_ok-right-in-Product-clause-plan : goal.apply-returns-in_ok-right-in-Product-clause-plan
apply-returns-in_ok-right-in-Product-clause-plan t c = product_result c.compute-in-Product.result c.args.operation.now c.args.first c.in_ok-right-in-Product.right c.args.terms.now c.args.draft.now c.compile_term-in-Product.new.terms c.compile_term-in-Product.new.draft c.compute-in-Product.new.draft c.in-Product.field-0 c.in-Product.op c.in-Product.right c.get-in-Product.result.now c.of_product.result c.in-Product.is c.get-in-Product.ensures c.of_product.ensures c.in_ok-right-in-Product.ensures.plan c.compute-in-Product.ensures

pub apply-returns-in_ok-high-in-Range-clause-plan : goal.apply-returns-in_ok-high-in-Range-clause-plan
apply-returns-in_ok-high-in-Range-clause-plan t c = range_result c.choose.result c.args.operation.now c.args.first c.in_ok-high-in-Range.high c.args.terms.now c.args.draft.now c.compile_term-in-Range.new.terms c.compile_term-in-Range.new.draft c.choose.new.draft c.in-Range.field-0 c.in-Range.high c.get-in-Range.result.now c.in-Range.is c.get-in-Range.ensures c.in_ok-high-in-Range.ensures.plan c.choose.ensures

-- ---- terms without operands

pub compile_plain-returns-in-Int-clause-plan : goal.compile_plain-returns-in-Int-clause-plan
compile_plain-returns-in-Int-clause-plan t c =
    let fits : FitsSigned w64 c.in-Int.number = search rules in
    int_result c.known.result c.args.term.now c.args.terms.now c.known.new.terms c.args.draft.now c.in-Int.number c.requires.draft c.in-Int.is c.known.ensures.kept
    (subst (λ n. IfOk c.known.result (IsKnownAs c.known.new.terms (integer n))) (to_z-of_z w64 c.in-Int.number fits) c.known.ensures.pattern)

pub compile_plain-returns-in_ok-new-in-Str-clause-plan : goal.compile_plain-returns-in_ok-new-in-Str-clause-plan
compile_plain-returns-in_ok-new-in-Str-clause-plan t c = str_result c.known-in-Str.result c.args.term.now c.args.terms.now c.known-in-Str.new.terms c.args.draft.now c.in-Str.text c.in_ok-new-in-Str.field-0 c.requires.draft c.in-Str.is (c.in_ok-new-in-Str.ensures ∙ c.as_str.ensures) c.known-in-Str.ensures.kept c.known-in-Str.ensures.pattern

pub compile_plain-returns-in_ok-new-in-Const-clause-plan : goal.compile_plain-returns-in_ok-new-in-Const-clause-plan
compile_plain-returns-in_ok-new-in-Const-clause-plan t c = const_result c.known-in-Const.result c.args.term.now c.args.terms.now c.known-in-Const.new.terms c.args.draft.now c.in-Const.name c.in_ok-new-in-Const.field-0 c.requires.draft c.in-Const.is (c.in_ok-new-in-Const.ensures ∙ c.as_str-in-Const.ensures) c.known-in-Const.ensures.kept c.known-in-Const.ensures.pattern

pub compile_plain-returns-in_ok-place_of-in-Var-clause-plan : goal.compile_plain-returns-in_ok-place_of-in-Var-clause-plan
compile_plain-returns-in_ok-place_of-in-Var-clause-plan t c = var_at c.args.term.now c.args.terms.now c.args.draft.now c.requires.draft c.in-Var.name c.in_ok-place_of-in-Var.field-0 c.place_of.new.self c.in-Var.is
    (subst (λ n. IsPlacedIn c.args.draft.now n c.in_ok-place_of-in-Var.field-0 c.place_of.new.self) c.as_str-in-Var.ensures c.in_ok-place_of-in-Var.ensures)

pub compile_plain-returns-in_ok-new_place-in-Any-clause-plan : goal.compile_plain-returns-in_ok-new_place-in-Any-clause-plan
compile_plain-returns-in_ok-new_place-in-Any-clause-plan t c = any_at c.args.term.now c.args.terms.now c.args.draft.now c.requires.draft c.in_ok-new_place-in-Any.field-0 c.new_place.new.self c.in-Any.is c.in_ok-new_place-in-Any.ensures.place c.in_ok-new_place-in-Any.ensures.draft

pub compile_plain-returns-in_ok-patterns-in-Fun-clause-plan : goal.compile_plain-returns-in_ok-patterns-in-Fun-clause-plan
compile_plain-returns-in_ok-patterns-in-Fun-clause-plan t c = fun_with c.args.term.now c.in-Fun.name c.in_ok-name-in-Fun.name c.in-Fun.parts c.as_slice.result.now c.in_ok-patterns-in-Fun.patterns c.args.terms.now c.args.draft.now c.compile_terms.new.terms c.compile_terms.new.draft
    c.in-Fun.is (c.in_ok-name-in-Fun.ensures ∙ c.as_str-in-Fun.ensures) (c.as_slice.ensures ∙ c.get.ensures) c.in_ok-patterns-in-Fun.ensures.plans

pub compile_plain-returns-in_ok-patterns-in-Tuple-clause-plan : goal.compile_plain-returns-in_ok-patterns-in-Tuple-clause-plan
compile_plain-returns-in_ok-patterns-in-Tuple-clause-plan t c = tuple_with c.args.term.now c.in_ok-name-in-Tuple.name c.in-Tuple.parts c.as_slice-in-Tuple.result.now c.in_ok-patterns-in-Tuple.patterns c.args.terms.now c.args.draft.now c.compile_terms-in-Tuple.new.terms c.compile_terms-in-Tuple.new.draft
    c.in-Tuple.is c.in_ok-name-in-Tuple.ensures c.as_slice-in-Tuple.ensures c.in_ok-patterns-in-Tuple.ensures.plans

pub compile_plain-compile_terms-requires : goal.compile_plain-compile_terms-requires
compile_plain-compile_terms-requires t c = (
  first_of (search (rules, the_lemmas), grind (arith, the_lemmas)),
  (c.requires.draft, subst (All (λ (u : Term). HasIntegers (read_term u))) (sym (c.as_slice.ensures ∙ c.get.ensures)) (fun_parts c.args.term.now c.in-Fun.name c.in-Fun.parts c.in-Fun.is c.requires.integers)),
)

pub compile_plain-compile_terms-requires-in-Tuple : goal.compile_plain-compile_terms-requires-in-Tuple
compile_plain-compile_terms-requires-in-Tuple t c = (
  first_of (search (rules, the_lemmas), grind (arith, the_lemmas)),
  (c.requires.draft, subst (All (λ (u : Term). HasIntegers (read_term u))) (sym c.as_slice-in-Tuple.ensures) (tuple_parts c.args.term.now c.in-Tuple.parts c.in-Tuple.is c.requires.integers)),
)

-- ---- chains

pub compile_term-compile_plain-requires : goal.compile_term-compile_plain-requires
compile_term-compile_plain-requires t c =
    let smaller = c.in_ok-operations.ensures.smaller in
    let integers = chain_integers c.args.term.now (map (λ (u : Bor Term). u.now) c.in_ok-operations.operations.items) c.in_ok-operations.first.now c.in_ok-operations.ensures.chain c.requires.integers in
    (first_of (search (rules, smaller), grind (arith, smaller)), (c.requires.draft, (integers.1, c.in_ok-operations.ensures.plain)))

pub compile_term-loop-operation-init : goal.compile_term-loop-operation-init
compile_term-loop-operation-init t c =
    let integers = chain_integers c.args.term.now (map (λ (u : Bor Term). u.now) c.in_ok-operations.operations.items) c.in_ok-operations.first.now c.in_ok-operations.ensures.chain c.requires.integers in
    record {
      kept = c.compile_plain.ensures.kept;
      inside = c.in_ok-operations.ensures.inside;
      integers = all_now c.in_ok-operations.operations.items integers.0;
      plan = (c.in_ok-operations.first.now, c.in_ok-operations.ensures.chain, c.in_ok-pattern.ensures.plan);
    }

pub compile_term-apply-requires : goal.compile_term-apply-requires
compile_term-apply-requires t c =
    let smaller : size-Term c.in-Some.operation.now ≤ size-Term c.args.term.now = all_last (λ (u : Bor Term). size-Term u.now ≤ size-Term c.args.term.now) c.pop.new.self.items c.in-Some.operation
    (subst (All (λ (u : Bor Term). size-Term u.now ≤ size-Term c.args.term.now)) c.in-Some.ensures.items c.loop-operation.invariant.inside) in (
      first_of (search (rules, smaller), grind (arith, smaller)),
      (
        c.loop-operation.invariant.plan.2.stands.draft,
        all_last (λ (u : Bor Term). HasIntegers (read_term u.now)) c.pop.new.self.items c.in-Some.operation
            (subst (All (λ (u : Bor Term). HasIntegers (read_term u.now))) c.in-Some.ensures.items c.loop-operation.invariant.integers),
      ),
    )

pub compile_term-loop-operation-preserved : goal.compile_term-loop-operation-preserved
compile_term-loop-operation-preserved t c =
    let less = chain_less c.args.term.now c.loop-operation.operations.items c.pop.new.self.items c.in-Some.operation c.loop-operation.invariant.plan.0 c.in-Some.ensures.items c.loop-operation.invariant.plan.1 in
    record {
      kept = KeepsIds-trans c.args.terms.now c.loop-operation.terms c.apply.new.terms c.loop-operation.invariant.kept c.apply.ensures.kept;
      inside = all_front (λ (u : Bor Term). size-Term u.now ≤ size-Term c.args.term.now) c.pop.new.self.items _ c.loop-operation.operations.items c.in-Some.ensures.items c.loop-operation.invariant.inside;
      integers = all_front (λ (u : Bor Term). HasIntegers (read_term u.now)) c.pop.new.self.items _ c.loop-operation.operations.items c.in-Some.ensures.items c.loop-operation.invariant.integers;
      plan = (
        c.in-Some.operation.now,
        less.0,
        c.in_ok-pattern-2.ensures.plan c.args.terms.now c.args.draft.now
            (subst (λ u. IsTermPlan (read_term u) c.loop-operation.pattern c.args.terms.now c.args.draft.now c.loop-operation.terms c.loop-operation.draft) (sym less.1) c.loop-operation.invariant.plan.2),
      );
    }

-- ---- lists of terms

pub compile_terms-loop-part-init : goal.compile_terms-loop-part-init
compile_terms-loop-part-init t c = record {
  kept = KeepsIds-itself c.args.terms.now;
  plans = subst (λ ps. AreTermPlans [] ps c.args.terms.now c.args.draft.now c.args.terms.now c.args.draft.now) (sym c.new-patterns.ensures) (no_terms_plan c.args.terms.now c.args.draft.now c.requires.draft);
}

pub compile_terms-loop-part-preserved : goal.compile_terms-loop-part-preserved
compile_terms-loop-part-preserved t c =
    let i = c.loop-part.part-index in
    let parts = c.args.parts.now in
    let part = c.part-item.result in
    let more : map read_term (take (i + 1) parts) ≡ map read_term (take i parts) ++ read_term part ∷ [] =
    ap (map read_term) (take_more parts i part c.loop-part-test.true ∙ ap (λ u. take i parts ++ u ∷ []) (sym c.part-item.is)) ∙ map-append read_term (take i parts) (part ∷ []) in
    record {
      kept = KeepsIds-trans c.args.terms.now c.loop-part.terms c.compile_term.new.terms c.loop-part.invariant.kept c.compile_term.ensures.kept;
      plans = subst (λ ts. AreTermPlans ts c.push.new.self c.args.terms.now c.args.draft.now c.compile_term.new.terms c.compile_term.new.draft) (sym more)
          (subst (λ ps. AreTermPlans (map read_term (take i parts) ++ read_term part ∷ []) ps c.args.terms.now c.args.draft.now c.compile_term.new.terms c.compile_term.new.draft) (sym c.in_ok-push.ensures.ok)
          (one_more_plan (map read_term (take i parts)) c.loop-part.patterns (read_term part) c.in_ok-compile_term.field-0 c.args.terms.now c.args.draft.now c.loop-part.terms c.loop-part.draft c.compile_term.new.terms c.compile_term.new.draft c.loop-part.invariant.plans c.in_ok-compile_term.ensures.plan));
    }
