use Rattle.std.proofs.Common.{◌-◌, inl, inr}
use Rattle.proof_log.proofs.AddedLemmas.{put_behind, put_into_empty}
use Rattle.proof_log.proofs.added.Added.put.Goals as goal

pub returns-then-is_empty : goal.returns-then-is_empty
returns-then-is_empty c =
    let a = c.args.self.now in
    put_into_empty a.offset a.items.items c.push_reserved.new.self.items (c.args.number - 1) c.args.clause (c.is_empty.ensures.0 c.if-is_empty.true) c.push_reserved.ensures.items

pub returns-else-is_empty : goal.returns-else-is_empty
returns-else-is_empty c =
    let a = c.args.self.now in
    put_behind a.offset a.items.items c.put.new.added.items (c.args.number - 1) c.args.clause
    (elim c.requires.room [
      | inl empty ↦ absurd (let t = c.is_empty.ensures.1 empty.0 in let f = c.if-is_empty.false in cc)
      | inr room ↦ room.0
    ]) c.put.ensures
