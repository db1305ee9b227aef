use Rattle.std.proofs.Common.{rules, ◌≡◌, ◌≤◌, ◌+◌, [], ◌∷◌, ◌++◌, length, take, IfSome, sym, subst}
use Rattle.std.proofs.lemmas.List.Elements.{All-push, All-same}
use Rattle.std.proofs.lemmas.Result.{IfOk-weaker}
use Rattle.ap_term.specs.declared.shape.Shape.TheVariants.{Fun}
use Rattle.ap_term.specs.Table.{IsIdOf, value_of}
use Rattle.ap_term.proofs.CallerLemmas.{KeepsIds-trans}
use Rattle.join_form.specs.declared.pattern.Pattern.{the_lemmas}
use Rattle.join_form.specs.Bindings.{Fits, bound_at, is_bound}
use Rattle.join_form.specs.Patterns.{Assignment, IsPatternOf, pattern_value, pattern_values}
use Rattle.join_form.specs.Ready.{IsBound}
use Rattle.join_form.proofs.PatternLemmas.{value_place}
use Rattle.join_search.specs.Matches.{IsFound}
use Rattle.join_search.specs.Matches.{values_of}
use Rattle.join_search.proofs.Evaluated.{HaveValues, part_of, part_bound, part_deep, found_first, found_place, place_bound, values_more, found_whole}
use Rattle.join_search.proofs.Grown.{pattern_stays, binding_kept, all_ids_kept}
use Rattle.join_search.proofs.PatternMatches.{place_is, known_is}
use Rattle.join_search.proofs.evaluation.+evaluate.Goals as goal

pub bounds-binding-place : goal.bounds-binding-place
bounds-binding-place t c = place_is c.args.terms.now (length c.args.binding.now) c.in-Place.place (subst (IsPatternOf c.args.terms.now (length c.args.binding.now)) c.in-Place.is c.requires.pattern)

pub evaluate-requires : goal.evaluate-requires
evaluate-requires t c =
    let part_is = part_of c.in-Compound.name c.in-Compound.parts c.as_slice-parts.result.now c.args.pattern.now c.in-Compound.is c.as_slice-parts.ensures c.loop-part.part-index c.part-item.result c.loop-part-test.true c.part-item.is c.args.terms.now (length c.args.binding.now) c.requires.pattern in (
      search (rules, the_lemmas),
      (
        pattern_stays c.args.terms.now c.loop-part.terms c.loop-part.invariant.0 (length c.args.binding.now) c.part-item.result part_is,
        (
          binding_kept c.args.terms.now c.loop-part.terms c.loop-part.invariant.0 c.args.binding.now c.requires.binding,
          part_bound c.in-Compound.name c.in-Compound.parts c.as_slice-parts.result.now c.args.pattern.now c.in-Compound.is c.as_slice-parts.ensures c.loop-part.part-index c.part-item.result c.loop-part-test.true c.part-item.is (is_bound c.args.binding.now) c.requires.bound,
        ),
      ),
    )

pub returns-in_default-clause-value : goal.returns-in_default-clause-value
returns-in_default-clause-value t c a fits =
    let part_is = part_of c.in-Compound.name c.in-Compound.parts c.as_slice-parts.result.now c.args.pattern.now c.in-Compound.is c.as_slice-parts.ensures c.loop-part.part-index c.part-item.result c.loop-part-test.true c.part-item.is c.args.terms.now (length c.args.binding.now) c.requires.pattern in
    let found = found_first c.args.terms.now c.loop-part.terms c.evaluate.new.terms c.loop-part.invariant.0 c.evaluate.ensures.kept c.args.binding.now c.requires.binding (length c.args.binding.now) c.part-item.result c.in_ok-id-in-Compound.field-0 part_is c.in_ok-id-in-Compound.ensures.value a fits in
    part_deep c.in-Compound.name c.in-Compound.parts c.as_slice-parts.result.now c.args.pattern.now c.in-Compound.is c.as_slice-parts.ensures c.loop-part.part-index c.part-item.result c.loop-part-test.true c.part-item.is c.args.terms.now a
    (subst (IsFound c.evaluate.new.terms (pattern_value c.args.terms.now a c.part-item.result)) c.in_default.is found)

pub loop-part-preserved : goal.loop-part-preserved
loop-part-preserved t c =
    let part_is = part_of c.in-Compound.name c.in-Compound.parts c.as_slice-parts.result.now c.args.pattern.now c.in-Compound.is c.as_slice-parts.ensures c.loop-part.part-index c.part-item.result c.loop-part-test.true c.part-item.is c.args.terms.now (length c.args.binding.now) c.requires.pattern in
    let id_is : IsIdOf c.evaluate.new.terms c.in-Some.id = subst (λ o. IfSome o (IsIdOf c.evaluate.new.terms)) c.in-Some.is c.in_ok-id-in-Compound.ensures.id in (
      KeepsIds-trans c.args.terms.now c.loop-part.terms c.evaluate.new.terms c.loop-part.invariant.0 c.evaluate.ensures.kept,
      All-same (IsIdOf c.evaluate.new.terms) c.push.new.self.items (c.loop-part.ids.items ++ c.in-Some.id ∷ []) c.in_ok-push-in-Compound.ensures.items
          (All-push (IsIdOf c.evaluate.new.terms) c.loop-part.ids.items c.in-Some.id (all_ids_kept c.loop-part.terms c.evaluate.new.terms c.evaluate.ensures.kept c.loop-part.ids.items c.loop-part.invariant.1) id_is),
      λ a fits. subst (λ ids. values_of c.evaluate.new.terms ids ≡ pattern_values c.args.terms.now a (take (c.loop-part.part-index + 1) c.as_slice-parts.result.now)) (sym c.in_ok-push-in-Compound.ensures.items)
          (values_more c.args.terms.now c.loop-part.terms c.evaluate.new.terms c.loop-part.invariant.0 c.evaluate.ensures.kept c.args.binding.now c.requires.binding (length c.args.binding.now)
          c.as_slice-parts.result.now c.loop-part.ids.items c.loop-part.part-index c.part-item.result c.in-Some.id c.loop-part-test.true (sym c.part-item.is) c.loop-part.invariant.1 part_is c.loop-part.invariant.2
          (λ b fits'. subst (IsFound c.evaluate.new.terms (pattern_value c.loop-part.terms b c.part-item.result)) c.in-Some.is (c.in_ok-id-in-Compound.ensures.value b fits')) a fits),
    )

pub returns-in-Place-clause-value : goal.returns-in-Place-clause-value
returns-in-Place-clause-value t c a fits =
    subst (λ p. IsFound c.args.terms.now (pattern_value c.args.terms.now a p) (bound_at c.args.binding.now c.in-Place.place)) (sym c.in-Place.is)
    (subst (λ v. IsFound c.args.terms.now v (bound_at c.args.binding.now c.in-Place.place)) (sym (value_place c.args.terms.now a c.in-Place.place))
    (found_place c.args.terms.now (a c.in-Place.place) (bound_at c.args.binding.now c.in-Place.place)
    (place_bound (is_bound c.args.binding.now) c.in-Place.place (subst (IsBound (is_bound c.args.binding.now)) c.in-Place.is c.requires.bound)) (fits c.in-Place.place)))

pub returns-in-Known-clause-id : goal.returns-in-Known-clause-id
returns-in-Known-clause-id t c = known_is c.args.terms.now (length c.args.binding.now) c.in-Known.id (subst (IsPatternOf c.args.terms.now (length c.args.binding.now)) c.in-Known.is c.requires.pattern)

pub returns-in_ok-copy-in-Compound-clause-value : goal.returns-in_ok-copy-in-Compound-clause-value
returns-in_ok-copy-in-Compound-clause-value t c =
    IfOk-weaker c.intern.result (IsFound c.intern.new.terms (value_of c.loop-part.terms (Fun c.in_ok-copy-in-Compound.field-0 c.from_vec.result)))
    (λ found. (a : Assignment) → Fits c.args.terms.now a c.args.binding.now → IsFound c.intern.new.terms (pattern_value c.args.terms.now a c.args.pattern.now) found)
    (λ found is a fits. subst (λ p. IsFound c.intern.new.terms (pattern_value c.args.terms.now a p) found) (sym c.in-Compound.is)
    (found_whole c.args.terms.now c.loop-part.terms c.intern.new.terms c.args.binding.now c.in-Compound.name c.in-Compound.parts c.loop-part.ids.items c.loop-part.part-index found
    (subst (λ ps. length ps ≤ c.loop-part.part-index) c.as_slice-parts.ensures c.loop-part-test.false)
    (subst (λ ps. HaveValues c.args.terms.now c.loop-part.terms c.args.binding.now ps c.loop-part.ids.items c.loop-part.part-index) c.as_slice-parts.ensures c.loop-part.invariant.2)
    (subst (λ name. IsFound c.intern.new.terms (value_of c.loop-part.terms (Fun name c.loop-part.ids.items)) found) c.in_ok-copy-in-Compound.ensures
    (subst (λ ids. IsFound c.intern.new.terms (value_of c.loop-part.terms (Fun c.in_ok-copy-in-Compound.field-0 ids)) found) c.from_vec.ensures is)) a fits))
    c.intern.ensures.value
