-- What stands for the last, if something does, is pushed.
use Rattle.std.proofs.Common.{sym, ◌∙◌}
use Rattle.small_front.specs.Forms.{small_statement_of}
use Rattle.small_front.proofs.FormLemmas.{found-more, found-none}
use Rattle.small_front.proofs.program.small_program.Goals as goal

pub statements-preserved-in-Continue-branch-4 : goal.statements-preserved-in-Continue-branch-4
statements-preserved-in-Continue-branch-4 c =
    found-more small_statement_of c.args.statements c.statements.statements c.pop.new.self c.in-Some.last c.in-Some-2.found c.statements.small.items c.push.new.self.items
    c.statements.invariant c.in-Some.ensures (sym c.in-Some-2.is ∙ c.in_ok-found.ensures) c.in_ok-push-in-Some-2.ensures.items

pub statements-preserved : goal.statements-preserved
statements-preserved c =
    found-none small_statement_of c.args.statements c.statements.statements c.pop.new.self c.in-Some.last c.statements.small.items
    c.statements.invariant c.in-Some.ensures (sym c.in-None.is ∙ c.in_ok-found.ensures)
