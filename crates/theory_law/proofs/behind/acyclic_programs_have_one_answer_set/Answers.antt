use Rattle.std.proofs.Common.{suc, length, arith}
use mathlib.Core.Path.{fun_ext}
use Rattle.theory_law.proofs.Levels.{answer_from_fixed, fixed_from_answer, one_fixed, stable_set}
use Rattle.theory_law.proofs.behind.acyclic_programs_have_one_answer_set.Goals as goal

pub returns : goal.returns
returns c = record {
  some = λ g facts range acyclic only inside.
      let set = stable_set g facts range (λ a h. (inside a h).1) acyclic.0 acyclic.1 in
      (set.0, answer_from_fixed g facts set.0 only acyclic set.1);
  one = λ g facts x y acyclic only inside hx hy.
      fun_ext (one_fixed g acyclic.0 acyclic.1 facts x y
      (fixed_from_answer g facts x only (suc (length g.atoms)) (λ a h. let r = inside a h in omega (arith, r.1)) hx)
      (fixed_from_answer g facts y only (suc (length g.atoms)) (λ a h. let r = inside a h in omega (arith, r.1)) hy));
}
