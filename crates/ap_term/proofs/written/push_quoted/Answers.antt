use Rattle.ap_term.proofs.PrintLemmas.{flat_map-more}
use Rattle.ap_term.proofs.written.push_quoted.Goals as goal

pub loop-c-preserved : goal.loop-c-preserved
loop-c-preserved c = flat_map-more _ _ _ c.loop-c.yielded c.in-Some.c c.loop-c.invariant c.in_ok-push_escaped.ensures.ok
