use Rattle.std.proofs.Common.{inl, inr, map, subst, sym}
use denote.Ref.{Bor}
use Rattle.ground_agg.specs.Gathered.{IsPairOf}
use Rattle.ground_agg.specs.declared.pair.Pair.{Pair}
use Rattle.ground_agg.specs.Merged.{merge, pair_cmp}
use Rattle.ground_agg.proofs.MergeEnd.{merge_end}
use Rattle.ground_agg.proofs.merging.merged.Goals as goal
use Rattle.ground_agg.proofs.merging.merged.Goals.{then-loop-i-test+else-j-right, else-loop-i-test}

pub returns : goal.returns
returns c =
    merge_end (pair_cmp c.args.terms.now) c.args.left.now c.args.right.now c.loop-i.pairs.items c.extend_from_slice.new.self.items c.extend_from_slice-2.new.self.items c.loop-i.i c.loop-i.j (merge (pair_cmp c.args.terms.now) (map (λ p. p.now) c.args.left.now) (map (λ p. p.now) c.args.right.now))
    c.loop-i.invariant.merged (elim c.loop-i-test.branch [ then-loop-i-test+else-j-right w ↦ inr w.if-j-right.false | else-loop-i-test w ↦ inl w.loop-i-test.false ])
    c.in_ok-extend_from_slice.ensures.items c.in_ok-extend_from_slice-2.ensures.items

pub compare_pairs-requires-clause-a : goal.compare_pairs-requires-clause-a
compare_pairs-requires-clause-a c =
    subst (λ (p : Bor Pair). IsPairOf c.args.terms.now p.now) (sym c.index-left-i.is) (c.requires.left c.loop-i.i c.index-left-i.result c.loop-i-test.true)

pub compare_pairs-requires-clause-b : goal.compare_pairs-requires-clause-b
compare_pairs-requires-clause-b c =
    subst (λ (p : Bor Pair). IsPairOf c.args.terms.now p.now) (sym c.index-right-j.is) (c.requires.right c.loop-i.j c.index-right-j.result c.if-j-right.true)
