use Rattle.std.proofs.Common.{◌++◌, string_bytes, is_ok, if◌then◌else◌, ◌==◌, ◌&&◌, length, sym, ap, ap₂, ◌∙◌, arith}
use Rattle.ap_term.specs.declared.shape.Shape.TheVariants.{Fun}
use Rattle.ap_term.specs.Table.{value_of}
use Rattle.ap_term.proofs.PrintLemmas.{written_more, written_compound}
use Rattle.ap_term.proofs.terms.Terms.+append.Goals as goal

pub loop-place-preserved : goal.loop-place-preserved
loop-place-preserved t c =
    written_more c.args.self.now c.as_slice-argument-items.result.now c.loop-place.place _ _ _ _ _ c.loop-place-test.true c.loop-place.invariant c.in_ok-push_comma_if-in-Fun.ensures.ok c.in_ok-append-in-Fun.ensures.ok

pub returns-in_ok-push_comma_if-in-Fun-2-clause-ok : goal.returns-in_ok-push_comma_if-in-Fun-2-clause-ok
returns-in_ok-push_comma_if-in-Fun-2-clause-ok t c =
    let items = c.as_slice-argument-items.result.now in
    let before = string_bytes c.push_comma_if-in-Fun.new.out in
    written_compound c.args.self.now _ c.in-Fun.name items c.loop-place.place c.is_tuple_of_one.result _ _ _ _
    (ap (λ ids. value_of c.args.self.now (Fun c.in-Fun.name ids)) c.as_slice-argument-items.ensures ∙ ap (value_of c.args.self.now) (sym c.in-Fun.is) ∙ c.shape.ensures.value)
    c.loop-place-test.false
    c.loop-place.invariant
    (c.is_tuple_of_one.ensures ∙ ap₂ (λ name ids. length name == 0 && length ids == 1) c.as_str-in-Fun-2.ensures (c.as_slice.ensures ∙ sym c.as_slice-argument-items.ensures))
    c.in_ok-push_comma_if-in-Fun-2.ensures.ok
    c.push-in-Fun.result
    (c.push-in-Fun.ensures.bytes ∙ ap (λ mark. if is_ok c.push-in-Fun.result then before ++ mark else before) (c.push-in-Fun.ensures.ascii (omega arith)))
