use Rattle.std.proofs.Common.{rules}
use Rattle.std.proofs.lemmas.List.Sorted.{IsPartitionPoint-from_clause}
use Rattle.rel_index.proofs.Between.{is_below, is_not_above, below_in_front, not_above_in_front, from_first, found_places}
use Rattle.rel_index.proofs.index.range_of.Goals as goal

pub returns-clause-ordered : goal.returns-clause-ordered
returns-clause-ordered g c =
    from_first c.args.key.now c.args.keys.now c.partition_point-from.result c.partition_point-to.result c.partition_point-from.ensures.bound c.partition_point-to.ensures.bound
    (IsPartitionPoint-from_clause (is_below c.args.key.now) _ _ c.partition_point-from.ensures.partitioned (below_in_front c.args.key.now c.args.keys.now c.requires) (λ a r f' k. search rules))
    (IsPartitionPoint-from_clause (is_not_above c.args.key.now) _ _ c.partition_point-to.ensures.partitioned (not_above_in_front c.args.key.now c.args.keys.now c.requires) (λ a r f' k. search rules))

pub returns-clause-exact : goal.returns-clause-exact
returns-clause-exact g c =
    found_places c.args.key.now c.args.keys.now c.partition_point-from.result c.partition_point-to.result c.partition_point-from.ensures.bound c.partition_point-to.ensures.bound
    (IsPartitionPoint-from_clause (is_below c.args.key.now) _ _ c.partition_point-from.ensures.partitioned (below_in_front c.args.key.now c.args.keys.now c.requires) (λ a r f' k. search rules))
    (IsPartitionPoint-from_clause (is_not_above c.args.key.now) _ _ c.partition_point-to.ensures.partitioned (not_above_in_front c.args.key.now c.args.keys.now c.requires) (λ a r f' k. search rules))
