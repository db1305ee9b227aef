use Rattle.ap_syntax.proofs.Escapes.{one_more}
use Rattle.ap_syntax.proofs.printed_terms.push_quoted.Goals as goal

pub loop-c-preserved : goal.loop-c-preserved
loop-c-preserved c = one_more _ _ _ c.loop-c.yielded c.in-Some.c c.loop-c.invariant c.in_ok-push_escaped.ensures
