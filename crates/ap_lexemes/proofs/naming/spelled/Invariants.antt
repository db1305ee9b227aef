use Rattle.std.proofs.Common.{◌≡◌, drop}
use Rattle.ap_lexemes.specs.Constructs.{spelled_in}
use Rattle.ap_lexemes.proofs.naming.spelled.Given as goal

abbrev pub invariant-loop-text : goal.invariant-loop-text
invariant-loop-text l = spelled_in l.rows l.spelling ≡ spelled_in (drop l.text-index l.rows) l.spelling
