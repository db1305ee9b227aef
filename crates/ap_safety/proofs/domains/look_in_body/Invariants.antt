use Rattle.std.proofs.Common.{◌≡◌, drop, flat_map}
use Rattle.ap_safety.specs.Conditions.{item_domains}
use Rattle.ap_safety.specs.Tests.{first_domain}
use Rattle.ap_safety.proofs.domains.look_in_body.Given as goal

abbrev pub invariant-loop-item : goal.invariant-loop-item
invariant-loop-item l = first_domain l.safe l.initial.first (flat_map (item_domains l.file) l.body) ≡ first_domain l.safe l.first (flat_map (item_domains l.file) (drop l.item-index l.body))
