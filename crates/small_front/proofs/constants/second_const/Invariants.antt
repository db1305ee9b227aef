use Rattle.std.proofs.Common.{◌≡◌, drop}
use Rattle.small_front.specs.Later.{second_const, second_const_from}
use Rattle.small_front.specs.Named.{is_named}
use Rattle.small_front.proofs.constants.second_const.Given as goal

abbrev pub invariant-loop-statement : goal.invariant-loop-statement
invariant-loop-statement l = second_const l.statements ≡ second_const_from (is_named l.declared) (drop l.statement-index l.statements)
