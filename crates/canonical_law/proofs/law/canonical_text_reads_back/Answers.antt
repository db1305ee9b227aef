use Rattle.canonical_law.proofs.ReadingBack.{alike_texts, law, only_memory, same_again}
use Rattle.canonical_law.proofs.Others.{one_statement, same_text, two_differ, two_statements}
use Rattle.canonical_law.proofs.law.canonical_text_reads_back.Goals as goal

pub returns-clause-reads_back : goal.returns-clause-reads_back
returns-clause-reads_back c = λ whole part bytes file p r other. law whole part bytes file p r other

pub returns-clause-again : goal.returns-clause-again
returns-clause-again c = λ whole part bytes file p q r other s. same_again whole part bytes file p q r other s

pub returns-clause-accepted : goal.returns-clause-accepted
returns-clause-accepted c = λ whole part bytes file p f r other s. only_memory whole part bytes file p f r other s

pub returns-clause-one_text : goal.returns-clause-one_text
returns-clause-one_text c = λ p q e. alike_texts p q e

pub returns-clause-others : goal.returns-clause-others
returns-clause-others c = (one_statement, two_statements, two_differ, same_text)
