use Rattle.std.proofs.Common.{get_or, length}
use Rattle.std.proofs.lemmas.List.Elements.{All-contains}
use Rattle.ground_form.specs.Ranges.{IsNumberOf}
use Rattle.ground_form.specs.Sets.{has}
use Rattle.ground_form.specs.declared.atoms.AtomId.{AtomId}
use Rattle.ap_eval.proofs.AcyclicLemmas.{one_answer_set, only_answer_set, supported_answer}
use Rattle.ap_eval.proofs.acyclic.acyclic_model.Goals as goal

pub model-requires : goal.model-requires
model-requires c = λ k d lt.
    All-contains (λ (a : AtomId). IsNumberOf (length c.args.g.now.atoms) a.0) c.args.g.now.inputs (get_or c.args.inputs.now k d) c.inputs.ensures.in_range.inputs (c.requires.inputs k d lt)

pub returns-in_err-x-clause-one : goal.returns-in_err-x-clause-one
returns-in_err-x-clause-one c = one_answer_set c.args.g.now (has c.args.inputs.now) c.requires.acyclic c.requires.heads

pub returns-clause-one : goal.returns-clause-one
returns-clause-one c = one_answer_set c.args.g.now (has c.args.inputs.now) c.requires.acyclic c.requires.heads

pub returns-clause-answer : goal.returns-clause-answer
returns-clause-answer c = supported_answer c.args.g.now (has c.args.inputs.now) (has c.in_ok-x.x) c.requires.acyclic c.requires.heads (c.in_ok-x.ensures c.requires.acyclic)

pub returns-clause-only : goal.returns-clause-only
returns-clause-only c = λ y h. only_answer_set c.args.g.now (has c.args.inputs.now) y (has c.in_ok-x.x) c.requires.acyclic c.requires.heads h
    (supported_answer c.args.g.now (has c.args.inputs.now) (has c.in_ok-x.x) c.requires.acyclic c.requires.heads (c.in_ok-x.ensures c.requires.acyclic))
