use Rattle.std.proofs.Common.{ap, subst, length, arith}
use Rattle.ap_lex.specs.Tokens.{ReadsUpTo}
use Rattle.ap_lex.specs.Tokens.Reads.{nothing}
use Rattle.ap_lex.proofs.ReadingLemmas.{each_token, gap_positive, reads_gap, reads_token, token_positive}
use Rattle.ap_lex.proofs.lexer.tokens_before_fault.Goals as goal

-- nothing is read yet
pub loop-piece-init : goal.loop-piece-init
loop-piece-init c = record { reads = rw c.new-found.ensures.items nothing; within = omega arith }

-- a blank or a comment
pub overflow_add-at : goal.overflow_add-at
overflow_add-at c =
    let gap = rw c.in-Gap.is at c.in-Some.ensures in
    omega (arith, gap.within, ap length c.as_bytes-bytes.ensures.value)

pub loop-piece-smaller-in-Gap : goal.loop-piece-smaller-in-Gap
loop-piece-smaller-in-Gap c =
    let gap = rw c.in-Gap.is at c.in-Some.ensures in
    omega (arith, gap.within, gap_positive _ _ _ gap)

pub loop-piece-preserved-in-Gap : goal.loop-piece-preserved-in-Gap
loop-piece-preserved-in-Gap c =
    let gap = rw c.in-Gap.is at c.in-Some.ensures in
    record { reads = reads_gap _ c.loop-piece.invariant.reads gap; within = gap.within }

-- a token
pub overflow_add-token : goal.overflow_add-token
overflow_add-token c =
    let longest = rw c.in-Token.is at c.in-Some.ensures in
    omega (arith, longest.token.within, ap length c.as_bytes-bytes.ensures.value)

pub overflow_cast-token-in-Token : goal.overflow_cast-token-in-Token
overflow_cast-token-in-Token c =
    let longest = rw c.in-Token.is at c.in-Some.ensures in
    omega (arith, longest.token.within, ap length c.as_bytes-bytes.ensures.value)

pub overflow_add-at-in-Token : goal.overflow_add-at-in-Token
overflow_add-at-in-Token c =
    let longest = rw c.in-Token.is at c.in-Some.ensures in
    omega (arith, longest.token.within, ap length c.as_bytes-bytes.ensures.value)

pub loop-piece-smaller : goal.loop-piece-smaller
loop-piece-smaller c =
    let longest = rw c.in-Token.is at c.in-Some.ensures in
    omega (arith, longest.token.within, token_positive _ _ _ _ longest.token)

pub loop-piece-preserved : goal.loop-piece-preserved
loop-piece-preserved c =
    let longest = rw c.in-Token.is at c.in-Some.ensures in
    record { reads = rw c.in_ok-push-in-Token.ensures.items (reads_token _ _ c.loop-piece.invariant.reads longest); within = longest.token.within }

-- nothing begins at the place
pub returns-clause-read : goal.returns-clause-read
returns-clause-read c =
    let stops = rw c.in_default.is at c.piece_from.ensures in
    subst (λ bs. ReadsUpTo bs c.loop-piece.found.items c.loop-piece.at) c.as_bytes-bytes.ensures.value
    (record { reads = c.loop-piece.invariant.reads; stops = stops })

pub returns-clause-each : goal.returns-clause-each
returns-clause-each c = each_token c.args.text.now (rw c.as_bytes-bytes.ensures.value at c.loop-piece.invariant.reads)
