-- What the texts give is what those that are left give behind the constants so far.
use Rattle.std.proofs.Common.{◌≡◌, [], drop, map}
use Rattle.asprin_words.specs.Values.{settings_from}
use Rattle.asprin_words.specs.Reads.{setting_of}
use Rattle.asprin_words.proofs.values.settings_given.Given as goal

abbrev pub invariant-loop-text : goal.invariant-loop-text
invariant-loop-text l = settings_from [] (map (λ s. s.now) l.texts) ≡ settings_from (map setting_of l.constants.items) (map (λ s. s.now) (drop l.text-index l.texts))
