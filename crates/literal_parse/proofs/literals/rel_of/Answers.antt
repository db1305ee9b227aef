use Rattle.literal_parse.specs.Literals.{IsRel}
use Rattle.literal_parse.proofs.literals.rel_of.Goals as goal

pub returns-in-Equal : goal.returns-in-Equal
returns-in-Equal c = rw c.in-Equal.is IsRel.equal

pub returns-in-Same : goal.returns-in-Same
returns-in-Same c = rw c.in-Same.is IsRel.same

pub returns-in-Unequal : goal.returns-in-Unequal
returns-in-Unequal c = rw c.in-Unequal.is IsRel.unequal

pub returns-in-Less : goal.returns-in-Less
returns-in-Less c = rw c.in-Less.is IsRel.less

pub returns-in-AtMost : goal.returns-in-AtMost
returns-in-AtMost c = rw c.in-AtMost.is IsRel.at_most

pub returns-in-Greater : goal.returns-in-Greater
returns-in-Greater c = rw c.in-Greater.is IsRel.greater

pub returns-in-AtLeast : goal.returns-in-AtLeast
returns-in-AtLeast c = rw c.in-AtLeast.is IsRel.at_least
