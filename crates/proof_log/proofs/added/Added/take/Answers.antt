use Rattle.std.proofs.Common.{sym}
use Rattle.proof_log.proofs.AddedLemmas.{entry_stands, taken_padded}
use Rattle.proof_log.proofs.added.Added.take.Goals as goal

pub returns : goal.returns
returns c =
    let a = c.args.self.now in
    sym (taken_padded a.offset a.items.items c.args.id.0 (entry_stands a.offset a.items.items c.args.id.0 c.requires).behind)
