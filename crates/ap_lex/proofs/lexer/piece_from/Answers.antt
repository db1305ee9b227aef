use Rattle.std.proofs.Common.{ap, ◌∙◌}
use Rattle.std.proofs.lemmas.List.{take_rest}
use Rattle.ap_lex.specs.Pieces.{piece_at}
use Rattle.ap_lex.proofs.ReadingLemmas.{piece_begins}
use Rattle.ap_lex.proofs.lexer.piece_from.Goals as goal

pub returns : goal.returns
returns c = piece_begins c.args.text.now c.args.at _ c.requires (c.piece_at.ensures ∙ ap piece_at (take_rest c.args.text.now c.args.at))
