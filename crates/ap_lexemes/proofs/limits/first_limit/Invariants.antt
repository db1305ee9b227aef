use Rattle.std.proofs.Common.{◌≡◌, drop}
use Rattle.ap_lexemes.specs.Lexemes.{lexemes_of}
use Rattle.ap_lexemes.specs.Limits.{first_limit, limit_from, next_role}
use Rattle.ap_lexemes.specs.Listing.{listed}
use Rattle.ap_lexemes.proofs.limits.first_limit.Given as goal

abbrev pub invariant-loop-index : goal.invariant-loop-index
invariant-loop-index l = record {
  ahead : l.role ≡ next_role (lexemes_of l.lexemes.text.now l.lexemes.file (drop l.index l.lexemes.tokens.now));
  so_far : first_limit (listed l.lexemes) ≡ limit_from l.levels l.index (lexemes_of l.lexemes.text.now l.lexemes.file (drop l.index l.lexemes.tokens.now));
}
