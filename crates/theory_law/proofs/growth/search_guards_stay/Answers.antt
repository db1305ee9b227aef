use Rattle.theory_law.proofs.Standing.{search_same, search_there}
use Rattle.theory_law.proofs.growth.search_guards_stay.Goals as goal

pub returns : goal.returns
returns c = record {
  there = λ g t stands. search_there g t stands;
  stays = λ g s t hs ht e. search_same g s t hs ht e;
}
