-- A statement has a wrong name, or is passed over.
use Rattle.std.proofs.Common.{◌≡◌, ◌∙◌, ap, subst, sym, take, drop, None}
use Rattle.pref_bind.proofs.NamingLemmas.{before_here, first_here, first_left}
use Rattle.pref_bind.proofs.naming.first_of.Goals as goal

pub returns-then-is_some : goal.returns-then-is_some
returns-then-is_some c =
    first_here c.args.declared.now c.loop-statement.before c.args.statements.now c.loop-statement.statement-index c.statement-item.result c.loop-statement-test.true c.statement-item.is
    c.requires c.loop-statement.invariant.before c.in_ok-found.found c.in_ok-found.ensures (sym c.is_some.ensures ∙ c.if-is_some.true) c.loop-statement.invariant.first

pub loop-statement-preserved : goal.loop-statement-preserved
loop-statement-preserved c = record {
  before = before_here c.args.statements.now c.loop-statement.statement-index c.statement-item.result c.loop-statement.before c.pass.new.before c.loop-statement-test.true c.statement-item.is c.loop-statement.invariant.before c.in_ok-pass.ensures;
  first = first_left c.args.declared.now c.loop-statement.before c.args.statements.now c.loop-statement.statement-index c.statement-item.result c.loop-statement-test.true c.statement-item.is
      c.requires c.loop-statement.invariant.before c.in_ok-found.found c.in_ok-found.ensures (sym c.is_some.ensures ∙ c.if-is_some.false) c.loop-statement.invariant.first;
}
