use Rattle.std.proofs.Common.{◌<◌, length, arith, sym, ◌∙◌}
use Rattle.std.proofs.lemmas.List.{length-map}
use Rattle.ap_lexemes.specs.Lexemes.{lexeme_at}
use Rattle.ap_lexemes.proofs.LimitLemmas.{limit_here, limit_later}
use Rattle.ap_lexemes.proofs.limits.first_limit.Goals as goal

pub returns-in-Some-clause-found : goal.returns-in-Some-clause-found
returns-in-Some-clause-found c =
    let all = c.args.lexemes in
    let within : c.loop-index.index < length all.tokens.now = omega (arith, c.loop-index-test.true, c.len-index-end.ensures, length-map all.tokens.now (lexeme_at all.text.now all.file)) in
    sym (c.loop-index.invariant.so_far ∙ limit_here all.text.now all.file all.tokens.now _ c.loop-index.index within c.loop-index.invariant.ahead c.role_at-next.ensures c.in_ok-which.ensures.found c.in-Some.is)

pub loop-index-preserved : goal.loop-index-preserved
loop-index-preserved c =
    let all = c.args.lexemes in
    let within : c.loop-index.index < length all.tokens.now = omega (arith, c.loop-index-test.true, c.len-index-end.ensures, length-map all.tokens.now (lexeme_at all.text.now all.file)) in
    record {
      ahead = c.role_at-next.ensures;
      so_far = c.loop-index.invariant.so_far ∙ limit_later all.text.now all.file all.tokens.now _ c.loop-index.index within c.loop-index.invariant.ahead c.role_at-next.ensures _ _ c.in_ok-which.ensures.found c.in_default.is c.in_ok-which.ensures.behind;
    }
