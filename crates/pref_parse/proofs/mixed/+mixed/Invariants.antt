use Rattle.std.proofs.Common.{length, ◌+◌, ◌*◌}
use Rattle.pref_parse.proofs.mixed.+mixed.Given as goal

-- each token is worth more than all the calls that read no token
abbrev pub decreases-read_inner : goal.decreases-read_inner
decreases-read_inner l = 3 * length l.tokens.now + 2

abbrev pub decreases-read_mixed : goal.decreases-read_mixed
decreases-read_mixed l = 3 * length l.tokens.now + 1

abbrev pub decreases-read_front : goal.decreases-read_front
decreases-read_front l = 3 * length l.tokens.now
