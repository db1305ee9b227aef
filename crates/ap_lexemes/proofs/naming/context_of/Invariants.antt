use Rattle.std.proofs.Common.{◌≡◌, ◌≤◌, drop}
use Rattle.std.specs.List.{fold}
use Rattle.ap_lexemes.specs.Constructs.{behind, context_of}
use Rattle.ap_lexemes.specs.Lexemes.{lexemes_of}
use Rattle.ap_lexemes.specs.Listing.{listed}
use Rattle.ap_lexemes.proofs.naming.context_of.Given as goal

abbrev pub invariant-loop-token : goal.invariant-loop-token
invariant-loop-token l = record {
  so_far : context_of l.of_type (listed l.read) ≡ fold (λ s x. behind s x.terminal) l.context (lexemes_of l.read.text.now l.read.file (drop l.token-index l.read.tokens.now));
  few : l.context.parentheses ≤ l.token-index;
}
