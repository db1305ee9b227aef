use Rattle.std.proofs.Common.{◌+◌, Bool, subst, sym, ◌∙◌}
use Rattle.asp_store.specs.Watch.{IsPassed, code}
use Rattle.asp_store.proofs.SweepLemmas.{passed_replaced, passed_taken}
use Rattle.asp_store.proofs.watches.pass.Goals as goal

pub returns-then-is_watching : goal.returns-then-is_watching
returns-then-is_watching c =
    subst (λ (b : Bool). IsPassed b c.args.lists.now c.set.new.self (code c.args.l) c.args.i (c.args.i + 1) c.args.watcher) (sym c.if-is_watching.true ∙ c.is_watching.ensures)
    (passed_replaced c.args.lists.now c.set.new.self (code c.args.l) c.args.i c.args.watcher c.requires.within c.requires.place c.set.ensures)

pub returns : goal.returns
returns c =
    subst (λ (b : Bool). IsPassed b c.args.lists.now c.take_out.new.self (code c.args.l) c.args.i c.args.i c.args.watcher) (sym c.if-is_watching.false ∙ c.is_watching.ensures)
    (passed_taken c.args.lists.now c.take_out.new.self (code c.args.l) c.args.i c.args.watcher c.requires.place c.take_out.ensures.one_list c.take_out.ensures.taken)
