use Rattle.std.proofs.Common.{◌≡◌, ◌+◌, drop}
use Rattle.ap_lexemes.specs.Lexemes.{lexemes_of}
use Rattle.ap_parse.specs.Texts.{statement_len}
use Rattle.ap_parse.proofs.texts.statement_len.Given as goal

-- the tokens so far, and those of the statement behind them
abbrev pub invariant-loop-index : goal.invariant-loop-index
invariant-loop-index l = statement_len (lexemes_of l.text 0 l.tokens) ≡ l.index + statement_len (lexemes_of l.text 0 (drop l.index l.tokens))
