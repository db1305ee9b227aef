use Rattle.std.proofs.Common.{rules, FitsSigned, w64}
use Rattle.ap_term.proofs.ArithmeticLemmas.{result_of-Rem}
use Rattle.ap_term.proofs.arithmetic.result_of.Goals as goal

pub returns-in-Rem-2 : goal.returns-in-Rem-2
returns-in-Rem-2 c =
    let fits : FitsSigned w64 c.wrapping_rem.result = search rules in
    rw c.in-Rem.is (result_of-Rem c.args.a c.args.b c.wrapping_rem.result c.in_range-in-Rem-2.result c.ranges.a c.ranges.b fits c.if-b-eq0.false c.wrapping_rem.ensures c.in_range-in-Rem-2.ensures)
