use Rattle.std.proofs.Common.{refl}
use Rattle.ap_grammar.specs.Values.{Value}
use Rattle.ap_parse.proofs.texts.read_single.Goals as goal

pub returns : goal.returns
returns c = c.answer.ensures _ Value.statement _ refl c.left.ensures (rw (c.new-tokens.ensures, c.readable.ensures) at c.read_one-read.ensures.read)
