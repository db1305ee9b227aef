use Rattle.std.proofs.Common.{◌≡◌, drop, flat_map}
use Rattle.ap_pieces.specs.Pieces.{mention_occurrences}
use Rattle.ap_safety.specs.Tests.{is_some_occurrence}
use Rattle.ap_safety.proofs.conditions.mentions_have_variable.Given as goal

abbrev pub invariant-loop-mention : goal.invariant-loop-mention
invariant-loop-mention l = is_some_occurrence (flat_map mention_occurrences l.mentions) ≡ is_some_occurrence (flat_map mention_occurrences (drop l.mention-index l.mentions))
