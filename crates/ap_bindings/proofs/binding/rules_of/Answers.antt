use Rattle.std.proofs.Common.{arith, sym, ◌∙◌, ap, Bool, ◌&&◌, ◌+◌, take}
use Rattle.std.specs.List.{list_all}
use Rattle.ap_pieces.specs.declared.pieces.Mention.{Mention}
use Rattle.std.proofs.lemmas.List.Folds.{list_all_more}
use Rattle.ap_pieces.specs.Bound.{Names, is_closed}
use Rattle.ap_bindings.specs.Searches.{names_in, also}
use Rattle.ap_bindings.proofs.BindingLemmas.{grows_twice, rules_same}
use Rattle.ap_bindings.proofs.binding.rules_of.Goals as goal

pub loop-mention-preserved : goal.loop-mention-preserved
loop-mention-preserved c =
    let test : Names → Mention → Bool = λ z. is_closed (also (names_in c.args.given.now) z) in (
      grows_twice c.args.table.now c.loop-mention.table c.push_mention.new.table c.loop-mention.invariant.0 c.in_ok-push_mention.ensures.grows,
      rules_same c.push_mention.new.table.names c.push_mention.new.rules.items
          (λ z. list_all (test z) (take c.loop-mention.mention-index c.args.conjunction.now) && test z c.mention-item.result)
          (λ z. list_all (test z) (take (c.loop-mention.mention-index + 1) c.args.conjunction.now))
          (λ z. sym (list_all_more (test z) c.args.conjunction.now c.loop-mention.mention-index c.mention-item.result (omega arith) ∙ ap (λ o. list_all (test z) (take c.loop-mention.mention-index c.args.conjunction.now) && test z o) (sym c.mention-item.is)))
          (c.in_ok-push_mention.ensures.rules (λ z. list_all (test z) (take c.loop-mention.mention-index c.args.conjunction.now)) c.loop-mention.invariant.1),
    )
