use Rattle.std.proofs.Common.{sym, ◌∙◌}
use Rattle.std.proofs.lemmas.List.{take-map}
use Rattle.ap_lexemes.specs.Lexemes.{lexeme_at}
use Rattle.ap_lexemes.proofs.lexemes.Lexemes.front.Goals as goal

pub returns : goal.returns
returns c = c.new.ensures ∙ sym (take-map (lexeme_at c.args.self.text.now c.args.self.file) c.args.count c.args.self.tokens.now)
