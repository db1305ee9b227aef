use Rattle.theory_form.proofs.ExtendLemmas.{Extends-same}
use Rattle.theory_build.proofs.BaseLemmas.{extends_twice, program_extends}
use Rattle.theory_law.proofs.PlainLemmas.{more_extends}
use Rattle.theory_law.proofs.growth.theories_begin.Goals as goal

pub returns : goal.returns
returns c = record {
  behind = λ t h joins. program_extends t h joins;
  plain = λ t new kinds slots more. more_extends t new kinds slots more;
  itself = λ t. Extends-same t;
  further = λ r s t e h. extends_twice r s t e h;
}
