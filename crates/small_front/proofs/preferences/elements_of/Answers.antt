-- What stands for the last is pushed.
use Rattle.small_front.specs.Forms.{element_of}
use Rattle.small_front.proofs.FormLemmas.{found-more, small-more}
use Rattle.small_front.proofs.preferences.elements_of.Goals as goal

pub elements-preserved : goal.elements-preserved
elements-preserved c =
    let all = c.args.elements in let old = c.elements.elements in let rest = c.pop.new.self in let last = c.in-Some.last in
    let found = c.in-Some-element_of in let pushed = c.in_ok-push-in-Some-element_of.ensures.items in (
      small-more element_of all old rest last found.element c.elements.invariant.0 c.in-Some.ensures found.ensures,
      found-more element_of all old rest last found.element c.elements.small.items c.push.new.self.items c.elements.invariant.1 c.in-Some.ensures found.ensures pushed,
    )
