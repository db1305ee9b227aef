use Rattle.std.proofs.Common.{◌≡◌, ℤ, rules}
use Rattle.std.specs.Option.{option_map}
use Rattle.theory_build.proofs.GroupLemmas.{row_added}
use Rattle.theory_build.proofs.groups.add_row.Goals as goal

pub returns : goal.returns
returns c =
    let name : c.map.result ≡ option_map (λ (w : ℤ). (w, record { 0 = c.in_ok-t.t })) c.args.row.now.weight = search rules in
    row_added
    c.args.p.now c.args.draft.now c.add_conditions.new.draft c.add.new.self c.args.row.now c.as_slice.result.now c.in_ok-conditions.conditions.items
    c.as_slice-2.result.now c.in_ok-t.t c.in_ok-any_of.field-0 c.map.result c.in_ok-conditions.ensures c.as_slice.ensures c.in_ok-t.ensures
    c.in_ok-any_of.ensures c.as_slice-2.ensures.value c.in_ok-add.ensures name
