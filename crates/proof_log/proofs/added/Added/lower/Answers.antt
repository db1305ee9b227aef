use Rattle.proof_log.proofs.AddedLemmas.{lowered}
use Rattle.proof_log.proofs.added.Added.lower.Goals as goal

pub returns-clause-same : goal.returns-clause-same
returns-clause-same c =
    let a = c.args.self.now in
    lowered c.args.place a.offset a.items.items c.in_ok-items.items.items c.append.new.self.items c.requires c.in_ok-items.ensures c.in_ok-append.ensures.items
