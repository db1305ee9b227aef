-- Too many after some elements are too many after all.
use Rattle.std.proofs.Common.{◌∙◌, sym, ap, Err, map}
use Rattle.std.proofs.lemmas.List.{map-append}
use Rattle.std.proofs.lemmas.Result.{err_from_is_err_and}
use Rattle.ap_eval.specs.Reduct.{element_name}
use Rattle.small_optima.proofs.Names.{ExceedsTwelve-at}
use Rattle.small_optima.proofs.atoms.FewAtoms.add_elements.Goals as goal

pub returns-in_err-add-clause-many : goal.returns-in_err-add-clause-many
returns-in_err-add-clause-many c e =
    let p = err_from_is_err_and c.from_residual.result c.from_residual.ensures.1 in
    ExceedsTwelve-at (map element_name) (map-append element_name) c.args.self.now.names.keys c.loop-element.self.names.keys c.args.elements.now c.loop-element.element-index c.element-item.result c.loop-element-test.true c.element-item.is c.loop-element.invariant
    (c.in_err-add.ensures.many (ap Err (sym p.2) ∙ (sym p.1 ∙ e)))
