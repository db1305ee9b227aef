use Rattle.std.proofs.Common.{◌≡◌, ◌^◌, ◌<◌, take}
use Rattle.asprin_words.specs.Values.{number_value}
use Rattle.asprin_words.proofs.values.number_value.Given as goal

abbrev pub invariant-loop-digit : goal.invariant-loop-digit
invariant-loop-digit l = (l.value ≡ number_value (take l.digit-index l.digits)) × (l.value < 10 ^ l.digit-index)
