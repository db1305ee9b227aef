use Rattle.std.proofs.Common.{◌≡◌, drop}
use Rattle.ap_lexemes.specs.Terminals.{spelled_in}
use Rattle.ap_lexemes.proofs.terminals.spelled.Given as goal

abbrev pub invariant-loop-text : goal.invariant-loop-text
invariant-loop-text l = spelled_in l.rows l.spelling l.other ≡ spelled_in (drop l.text-index l.rows) l.spelling l.other
