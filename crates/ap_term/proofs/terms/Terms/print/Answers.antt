use Rattle.ap_term.proofs.PrintLemmas.{split_at_end}
use Rattle.ap_term.proofs.terms.Terms.print.Goals as goal

pub truncate-requires : goal.truncate-requires
truncate-requires c = λ l. split_at_end c.args.out.now c.append-printed.new.out c.len-start.result c.len-start.ensures c.append-printed.ensures.extends
