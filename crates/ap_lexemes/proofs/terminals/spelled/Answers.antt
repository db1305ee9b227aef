use Rattle.std.proofs.Common.{sym, ◌∙◌}
use Rattle.ap_lexemes.proofs.TerminalLemmas.{spelled-here, spelled-later, spelled-nowhere}
use Rattle.ap_lexemes.proofs.terminals.spelled.Goals as goal

pub returns-then-eq : goal.returns-then-eq
returns-then-eq c = sym (c.loop-text.invariant ∙ spelled-here _ _ _ _ _ c.loop-text-test.true (sym c.eq.ensures ∙ c.if-eq.true))

pub loop-text-preserved : goal.loop-text-preserved
loop-text-preserved c = c.loop-text.invariant ∙ spelled-later _ _ _ _ _ c.loop-text-test.true (sym c.eq.ensures ∙ c.if-eq.false)

pub returns : goal.returns
returns c = sym (c.loop-text.invariant ∙ spelled-nowhere _ _ _ _ c.loop-text-test.false)
