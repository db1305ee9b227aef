use Rattle.std.proofs.Common.{◌≡◌, List, subst, sym, ap, ◌∙◌, arith, rules}
use Rattle.std.specs.List.Sorted.{IsSortedByKey}
use Rattle.std.proofs.lemmas.Fn.{always_returns_same}
use Rattle.std.proofs.lemmas.Result.{IfOk-weaker}
use Rattle.ap_term.specs.declared.shape.TermId.{TermId as Id}
use Rattle.rel_index.specs.Keys.{key_cmp, places_beside, rows_with}
use Rattle.rel_index.proofs.KeyOrder.{stable_places}
use Rattle.rel_index.proofs.index.Index.build.Goals as goal

pub from_sorted-requires : goal.from_sorted-requires
from_sorted-requires g c = (
  omega (arith, c.requires.few),
  (
    omega arith,
    subst (λ es. IsSortedByKey (λ e. e.0) key_cmp es) (sym c.deref.ensures.value)
        (c.in_ok-sort_by_key.ensures.sorted (λ e. e.0) (always_returns_same _ (λ a r. r ≡ a.0.now.0) _ (λ a r f' k. search rules))),
  ),
)

pub returns : goal.returns
returns g c =
    IfOk-weaker c.from_sorted.result (λ index. index ≡ c.deref.result.now) (λ index. (key : List Id) → places_beside key index ≡ rows_with c.args.places key c.args.relation.now.rows)
    (λ index is key. ap (places_beside key) (is ∙ c.deref.ensures.value)
    ∙ stable_places key c.in_ok-entries.entries.items c.sort_by_key.new.self.items (c.in_ok-sort_by_key.ensures.stable (λ e. e.0) (always_returns_same _ (λ a r. r ≡ a.0.now.0) _ (λ a r f' k. search rules)))
    ∙ ap (places_beside key) c.in_ok-entries.ensures)
    c.from_sorted.ensures
