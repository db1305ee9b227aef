-- Too many after some literals are too many after all.
use Rattle.std.proofs.Common.{◌≡◌, ◌∙◌, ◌++◌, List, ℕ, sym, ap, Err, map}
use Rattle.std.proofs.lemmas.List.{map-append}
use Rattle.std.proofs.lemmas.Result.{err_from_is_err_and}
use Rattle.ap_syntax.specs.declared.small.BodyItem.{BodyItem}
use Rattle.ap_eval.specs.Reduct.{literal_of}
use Rattle.small_optima.specs.Atoms.{literal_name}
use Rattle.small_optima.proofs.Names.{ExceedsTwelve-at}
use Rattle.small_optima.proofs.atoms.FewAtoms.add_body.Goals as goal

names : List BodyItem → List (List ℕ)
names items = map literal_name (map literal_of items)

names-append : (xs ys : List BodyItem) → names (xs ++ ys) ≡ names xs ++ names ys
unfolding names
names-append xs ys = ap (map literal_name) (map-append literal_of xs ys) ∙ map-append literal_name (map literal_of xs) (map literal_of ys)

pub returns-in_err-add_item-clause-many : goal.returns-in_err-add_item-clause-many
unfolding names
returns-in_err-add_item-clause-many c e =
    let p = err_from_is_err_and c.from_residual.result c.from_residual.ensures.1 in
    ExceedsTwelve-at names names-append c.args.self.now.names.keys c.loop-item.self.names.keys c.args.body.now c.loop-item.item-index c.item-item.result c.loop-item-test.true c.item-item.is c.loop-item.invariant
    (c.in_err-add_item.ensures.many (ap Err (sym p.2) ∙ (sym p.1 ∙ e)))
