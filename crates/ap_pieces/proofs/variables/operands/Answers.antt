use Rattle.std.proofs.Common.{sym, subst}
use Rattle.ap_pieces.proofs.ChainLemmas.{IsChain, minus_found, product_found, range_found, sum_found}
use Rattle.ap_pieces.proofs.variables.operands.Goals as goal

pub loop-first-preserved-in-Minus : goal.loop-first-preserved-in-Minus
loop-first-preserved-in-Minus c = subst (λ t. IsChain c.args.term.now t c.loop-first.found.items) (sym c.get-first.ensures) (minus_found c.args.term.now c.loop-first.first.now c.in-Minus.part c.loop-first.found.items c.in-Minus.is c.loop-first.invariant)

pub loop-first-preserved-in-Sum : goal.loop-first-preserved-in-Sum
loop-first-preserved-in-Sum c = subst (λ t. IsChain c.args.term.now t c.push.new.self.items) (sym c.get-first-in-Sum.ensures) (sum_found c.args.term.now c.loop-first.first.now c.in-Sum.left c.in-Sum.right c.in-Sum.field-1 c.loop-first.found.items c.push.new.self.items c.get.result c.in-Sum.is c.get.ensures c.in_ok-push-in-Sum.ensures.items c.loop-first.invariant)

pub loop-first-preserved-in-Product : goal.loop-first-preserved-in-Product
loop-first-preserved-in-Product c = subst (λ t. IsChain c.args.term.now t c.push-in-Product.new.self.items) (sym c.get-first-in-Product.ensures) (product_found c.args.term.now c.loop-first.first.now c.in-Product.left c.in-Product.right c.in-Product.field-1 c.loop-first.found.items c.push-in-Product.new.self.items c.get-in-Product.result c.in-Product.is c.get-in-Product.ensures c.in_ok-push-in-Product.ensures.items c.loop-first.invariant)

pub loop-first-preserved : goal.loop-first-preserved
loop-first-preserved c = subst (λ t. IsChain c.args.term.now t c.push-in-Range.new.self.items) (sym c.get-first-in-Range.ensures) (range_found c.args.term.now c.loop-first.first.now c.in-Range.low c.in-Range.high c.loop-first.found.items c.push-in-Range.new.self.items c.get-in-Range.result c.in-Range.is c.get-in-Range.ensures c.in_ok-push-in-Range.ensures.items c.loop-first.invariant)
