use Rattle.clap.specs.Words.{app_of}
use Rattle.asprin_words.specs.Asked.{texts_of}
use Rattle.asprin_words.specs.Gives.{LedGives}
use Rattle.asprin_words.specs.Options.{led_options}
use Rattle.asprin_words.proofs.Asprin.{led_fits}
use Rattle.asprin_words.proofs.Getting.{led_gives, matches_answer}
use Rattle.asprin_words.proofs.reading.led_matches.Goals as goal

pub returns : goal.returns
returns c =
    matches_answer led_options led_fits LedGives led_gives (texts_of c.args.words.now) (app_of c.in_ok-command.command) c.parse.result c.in_ok-command.ensures
    c.parse.ensures.ok c.parse.ensures.usage
