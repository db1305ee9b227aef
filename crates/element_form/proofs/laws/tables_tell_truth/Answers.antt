use Rattle.element_form.proofs.TableLaw.{table_truth}
use Rattle.element_form.proofs.laws.tables_tell_truth.Goals as goal

pub returns : goal.returns
returns c = table_truth
