use Rattle.std.proofs.Common.{◌+◌, ◌*◌, true, length}
use Rattle.join_form.specs.declared.pattern.Pattern.{size-Pattern}
use Rattle.join_search.proofs.PatternMatches.{IsMatchUpTo}
use Rattle.join_search.proofs.matching.+matching.Given as goal

-- a list of patterns is ranked above a pattern that is no deeper
abbrev pub decreases-match_pattern : goal.decreases-match_pattern
decreases-match_pattern l = 2 * size-Pattern l.pattern.now

abbrev pub decreases-match_patterns : goal.decreases-match_patterns
decreases-match_patterns l = 2 * goal.size-match_patterns l + 1

-- the members so far have their values
abbrev pub invariant-match_patterns-loop-pattern : goal.invariant-match_patterns-loop-pattern
invariant-match_patterns-loop-pattern l = IsMatchUpTo l.terms l.patterns l.row (length l.yielded) l.fn.binding l.binding true
