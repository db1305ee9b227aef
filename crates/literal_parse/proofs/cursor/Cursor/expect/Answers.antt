use Rattle.std.proofs.Common.{refl}
use Rattle.literal_parse.specs.Reads.{Reads}
use Rattle.literal_parse.proofs.Steps.{next_takes, next_shorter, not_there}
use Rattle.literal_parse.proofs.cursor.Cursor.expect.Goals as goal

pub returns-then-eat-clause-read : goal.returns-then-eat-clause-read
returns-then-eat-clause-read c = Reads.ok (c.if-eat.ensures.token, refl) (next_takes c.if-eat.ensures)

pub returns-then-eat-clause-shorter : goal.returns-then-eat-clause-shorter
returns-then-eat-clause-shorter c = next_shorter c.if-eat.ensures

pub returns-else-eat-clause-read : goal.returns-else-eat-clause-read
returns-else-eat-clause-read c = not_there _ c.if-eat.ensures
