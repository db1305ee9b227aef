use Rattle.literal_parse.proofs.StringLemmas.{behind_quote}
use Rattle.literal_parse.proofs.strings.behind_quote.Goals as goal

pub returns : goal.returns
returns c = behind_quote c.args.quoted.now c.chars-rest.result c.next-quote.new.self c.next-quote.result c.chars-rest.ensures.rest c.requires c.next-quote.ensures.steps.0
