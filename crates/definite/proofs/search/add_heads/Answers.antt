use Rattle.std.proofs.Common.{◌<◌, ℕ, List, length, get_or, sym, ap, ◌∙◌, subst, length-set, true}
use Rattle.std.specs.Prelude.{Contains}
use Rattle.std.proofs.lemmas.List.Elements.{All-contains, Contains-get_or}
use Rattle.definite.specs.Rules.{marked}
use Rattle.definite.proofs.MarkLemmas.{list_all-subset}
use Rattle.definite.proofs.Steps.{step_then, step_added, added_marked, heads_more, rule_follows}
use Rattle.definite.proofs.search.add_heads.Goals as goal

pub loop-atom-preserved : goal.loop-atom-preserved
loop-atom-preserved c =
    let rule = c.args.rule.now in
    let d0 = c.args.found.now in
    let d1 = c.loop-atom.found in
    let d2 = c.add.new.found in
    let i = c.loop-atom.invariant in
    let heads : List ℕ = c.as_slice-atom-items.result.now in
    let a : ℕ = get_or heads c.loop-atom.atom-index 0 in
    let at : Contains rule.heads a = subst (λ xs. Contains xs a) c.as_slice-atom-items.ensures (Contains-get_or heads c.loop-atom.atom-index 0 c.loop-atom-test.true) in
    let lt : a < length d1.marks = subst (λ n. a < n) (sym i.size) (All-contains (λ b. b < length d0.marks) rule.heads a c.requires at) in
    let add = c.in_ok-add.ensures in
    record {
      size = ap length add.marks ∙ (length-set d1.marks a true ∙ i.size);
      more = λ b h. added_marked d1 d2 a b add lt (i.more b h);
      step = λ rules waits m s body.
          let before = i.step rules waits m s body in
          let now = list_all-subset (marked d0.marks) (marked d1.marks) rule.body i.more body in
          step_then rules waits waits waits d0 d1 d2 before (step_added rules waits d1 d2 a add lt (rule_follows rules waits d1 rule a m at (before.search s) now));
      marked = heads_more d1 d2 heads c.loop-atom.atom-index c.loop-atom-test.true add lt i.marked;
    }
