use Rattle.search_law.proofs.CountLemmas.{falls, kept, most}
use Rattle.search_law.proofs.counts.models_fall.Goals as goal

pub returns : goal.returns
returns c = record {
  most = λ cs n. most cs n;
  kept = λ cs ds n h. kept cs ds n h;
  falls = λ cs ds a id d h total settled at off. falls cs ds a id d h total settled at off;
}
