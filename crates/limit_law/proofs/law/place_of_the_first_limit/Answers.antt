use Rattle.limit_law.proofs.DeepEnds.{deep_first}
use Rattle.limit_law.proofs.FirstPlaces.{deep_there, least_there}
use Rattle.limit_law.proofs.law.place_of_the_first_limit.Goals as goal

pub returns-clause-ends : goal.returns-clause-ends
returns-clause-ends c = λ whole of_type xs more l statements e f n d. deep_there xs more l e f n d

pub returns-clause-least : goal.returns-clause-least
returns-clause-least c = λ whole of_type xs more ending l e d. least_there xs more ending l e d

pub returns-clause-latest : goal.returns-clause-latest
returns-clause-latest c = λ whole of_type before here more behind n d. deep_first before more behind here n d
