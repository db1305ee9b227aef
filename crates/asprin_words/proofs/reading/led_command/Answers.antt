-- Each call adds the argument of one option.
use Rattle.std.proofs.Common.{◌∙◌, ap₂}
use Rattle.clap.specs.Words.{with_rule}
use Rattle.asprin_words.proofs.reading.led_command.Goals as goal

pub returns : goal.returns
returns c =
    c.in_ok-command.ensures.shape c.files.ensures.local ∙ ap₂ with_rule
    (c.in_ok-arg.ensures.shape c.letter.ensures.local ∙ ap₂ with_rule c.plain_command.ensures c.letter.ensures.rule)
    c.files.ensures.rule
