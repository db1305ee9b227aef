use Rattle.std.proofs.Common.{◌≡◌, true, false, ⊎_elim}
use Rattle.std.proofs.lemmas.Bool.{cases_Bool}
use Rattle.theory_form.specs.Hints.{all_false}
use Rattle.theory_model.specs.Truth.{clause_true}
use Rattle.theory_model.proofs.HintLemmas.{Agrees-all_false, no_conflict}
use Rattle.theory_model.proofs.laws.follows_is_true.Goals as goal

pub returns : goal.returns
returns c = λ look places clause hints f follows clauses.
    ⊎_elim
    (λ (t : clause_true f clause ≡ true). t)
    (λ (n : clause_true f clause ≡ false). absurd (no_conflict look f clauses hints (all_false places clause) (Agrees-all_false places f clause n) follows))
    (cases_Bool (clause_true f clause))
