use Rattle.std.proofs.Common.{map, length, take_all, subst, sym, ap, ap₂, ◌∙◌}
use Rattle.std.specs.List.{zip}
use Rattle.std.specs.List.Sorted.{IsSorted}
use Rattle.std.proofs.lemmas.List.{length-map}
use Rattle.rel_index.specs.Keys.{key_cmp}
use Rattle.rel_index.proofs.Steps.{zip-parts, sorted_keys}
use Rattle.rel_index.proofs.index.Index.from_sorted.Goals as goal

pub invariant_of-result : goal.invariant_of-result
invariant_of-result g c =
    let all = take_all c.loop-key.key-index c.args.entries.now c.loop-key-test.false in
    let keys_are = c.loop-key.invariant.0 ∙ ap (map (λ e. e.0)) all in
    let places_are = c.loop-key.invariant.1 ∙ ap (map (λ e. e.1)) all in
    (subst (IsSorted key_cmp) (sym keys_are) (sorted_keys c.args.entries.now c.requires), ap length keys_are ∙ length-map c.args.entries.now (λ e. e.0) ∙ sym (ap length places_are ∙ length-map c.args.entries.now (λ e. e.1)))

pub returns : goal.returns
returns g c =
    let all = take_all c.loop-key.key-index c.args.entries.now c.loop-key-test.false in
    ap₂ zip (c.loop-key.invariant.0 ∙ ap (map (λ e. e.0)) all) (c.loop-key.invariant.1 ∙ ap (map (λ e. e.1)) all) ∙ zip-parts c.args.entries.now
