use Rattle.std.proofs.Common.{sym, ◌∙◌}
use Rattle.proof_log.proofs.ProgramLemmas.{blocks_of_program, of_program_from}
use Rattle.proof_log.proofs.loops.are_of_program.Goals as goal

pub returns-then-are_apart : goal.returns-then-are_apart
returns-then-are_apart c =
    let t = c.args.theory.now in
    let here = sym c.block_of.ensures ∙ c.in-Some.is in
    let apart = c.are_apart.ensures.0 c.if-are_apart.true in (
      λ h. of_program_from t c.args.atom c.args.others.now c.in-Some.block here apart (c.are_atoms_of.ensures.0 h),
      λ h. c.are_atoms_of.ensures.1 (blocks_of_program t c.args.atom c.args.others.now c.in-Some.block here h),
    )
