use Rattle.std.proofs.Common.{arith, sym, ◌∙◌, ap, Bool, ◌&&◌, ◌+◌, take}
use Rattle.std.specs.List.{list_all}
use Rattle.ap_pieces.specs.declared.variables.Occurrence.{Occurrence}
use Rattle.std.proofs.lemmas.List.Folds.{list_all_more}
use Rattle.ap_pieces.specs.Bound.{Names}
use Rattle.ap_bindings.specs.Searches.{names_in, also, has_counted}
use Rattle.ap_bindings.proofs.BindingLemmas.{grows_twice, listed_same}
use Rattle.ap_bindings.proofs.binding.numbers_of.Goals as goal

pub loop-occurrence-preserved : goal.loop-occurrence-preserved
loop-occurrence-preserved c =
    let test : Names → Occurrence → Bool = λ z. has_counted c.args.all (also (names_in c.args.given.now) z) in (
      grows_twice c.args.table.now c.loop-occurrence.table c.push_counted.new.table c.loop-occurrence.invariant.0 c.in_ok-push_counted.ensures.grows,
      listed_same c.push_counted.new.table.names c.push_counted.new.list
          (λ z. list_all (test z) (take c.loop-occurrence.occurrence-index c.args.occurrences.now) && test z c.occurrence-item.result)
          (λ z. list_all (test z) (take (c.loop-occurrence.occurrence-index + 1) c.args.occurrences.now))
          (λ z. sym (list_all_more (test z) c.args.occurrences.now c.loop-occurrence.occurrence-index c.occurrence-item.result (omega arith) ∙ ap (λ o. list_all (test z) (take c.loop-occurrence.occurrence-index c.args.occurrences.now) && test z o) (sym c.occurrence-item.is)))
          (c.in_ok-push_counted.ensures.listed (λ z. list_all (test z) (take c.loop-occurrence.occurrence-index c.args.occurrences.now)) c.loop-occurrence.invariant.1),
    )
