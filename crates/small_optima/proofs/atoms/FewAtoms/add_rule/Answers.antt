-- Too many in the head, or after it in the body.
use Rattle.std.proofs.Common.{◌∙◌, sym, ap, Err, map, subst}
use Rattle.std.proofs.lemmas.Result.{err_from_is_err_and}
use Rattle.ap_eval.specs.Reduct.{literals_of, literal_of}
use Rattle.small_optima.specs.Adds.{ExceedsTwelve}
use Rattle.small_optima.specs.Atoms.{head_names, literal_name}
use Rattle.small_optima.proofs.Names.{ExceedsTwelve-then, ExceedsTwelve-more}
use Rattle.small_optima.proofs.atoms.FewAtoms.add_rule.Goals as goal

pub returns-in_err-add_head-clause-many : goal.returns-in_err-add_head-clause-many
returns-in_err-add_head-clause-many c e =
    let p = err_from_is_err_and c.from_residual.result c.from_residual.ensures.1 in
    ExceedsTwelve-more c.args.self.now.names.keys (head_names c.args.rule.now.head) (map literal_name (literals_of c.args.rule.now))
    (c.in_err-add_head.ensures.many (ap Err (sym p.2) ∙ (sym p.1 ∙ e)))

pub returns-clause-many : goal.returns-clause-many
returns-clause-many c e =
    let rule = c.args.rule.now in let mid = c.add_head.new.self.names.keys in
    ExceedsTwelve-then c.args.self.now.names.keys mid (head_names rule.head) (map literal_name (literals_of rule)) c.in_ok-add_head.ensures.added
    (subst (λ items. ExceedsTwelve mid (map literal_name (map literal_of items))) c.as_slice.ensures (c.add_body.ensures.many e))
