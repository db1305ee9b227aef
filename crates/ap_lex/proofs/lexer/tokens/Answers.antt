use Rattle.std.proofs.Common.{◌≡◌, length, subst, arith}
use Rattle.ap_lex.specs.Tokens.{Reads}
use Rattle.ap_lex.proofs.ReadingLemmas.{end_begins_nothing, one_reading, reads_within}
use Rattle.ap_lex.proofs.lexer.tokens.Goals as goal

-- before the end of the text
pub returns-then-at-text-clause-only : goal.returns-then-at-text-clause-only
returns-then-at-text-clause-only c = λ others is.
    let reads = c.in-Ok.ensures.read in
    let same = one_reading c.args.text.now is reads.reads (end_begins_nothing c.args.text.now) reads.stops in
    absurd (omega (arith, same.1))

pub returns-then-at-text-clause-first : goal.returns-then-at-text-clause-first
returns-then-at-text-clause-first c = λ place fault.
    let reads = c.in-Ok.ensures.read in
    (one_reading c.args.text.now reads.reads fault.reads.reads reads.stops fault.reads.stops).1

-- at the end
pub returns-clause-read : goal.returns-clause-read
returns-clause-read c =
    let reads = c.in-Ok.ensures.read in
    let within = reads_within c.args.text.now reads.reads (omega arith) in
    let whole : c.in-Ok.at ≡ length c.args.text.now = omega arith in
    subst (λ n. Reads c.args.text.now 0 c.in-Ok.found.items n) whole reads.reads

pub returns-clause-only : goal.returns-clause-only
returns-clause-only c = λ others is.
    let reads = c.in-Ok.ensures.read in
    (one_reading c.args.text.now reads.reads is reads.stops (end_begins_nothing c.args.text.now)).0

pub returns-clause-first : goal.returns-clause-first
returns-clause-first c = λ place fault.
    let reads = c.in-Ok.ensures.read in
    let same = one_reading c.args.text.now reads.reads fault.reads.reads reads.stops fault.reads.stops in
    let inside = fault.inside in
    omega (arith, same.1)
