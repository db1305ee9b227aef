use Rattle.std.proofs.Common.{◌≡◌, ◌∙◌, ◌+◌, ◌++◌, ◌∷◌, [], ap, sym, map, arith, append_assoc, not}
use Rattle.std.specs.List.{range_with_len}
use Rattle.std.proofs.lemmas.List.FromFn.{map-range_with_len_more}
use Rattle.theory_form.specs.declared.literals.Lit.{Lit}
use Rattle.theory_build.specs.Exclusion.{differs_at}
use Rattle.theory_build.proofs.exclusion.push_differences.Goals as goal

pub loop-place-preserved : goal.loop-place-preserved
loop-place-preserved c =
    let old = c.args.lits.now.items in
    let i = c.loop-place.place in
    let all = map (differs_at c.args.set.now) (range_with_len 1 i) in
    let atom : record { var = record { 0 = i + 1 }; yes = not c.contains.result } ≡ differs_at c.args.set.now (i + 1) =
    ap (λ b. record { var = record { 0 = i + 1 }; yes = not b }) c.contains.ensures
    in
    c.in_ok-push.ensures.items
    ∙ ap (λ ls. ls ++ record { var = record { 0 = i + 1 }; yes = not c.contains.result } ∷ []) c.loop-place.invariant
    ∙ ap (λ l. (old ++ all) ++ l ∷ []) atom
    ∙ append_assoc old all (differs_at c.args.set.now (i + 1) ∷ [])
    ∙ ap (λ ls. old ++ ls) (sym (map-range_with_len_more (differs_at c.args.set.now) 1 i (i + 1) (omega arith)))
