use Rattle.std.proofs.Common.{ltb, ltb-true, rules}
use Rattle.std.proofs.lemmas.List.Sorted.{IsPartitionPoint-from_clause, IsPartitionedBy-ltb}
use Rattle.ss_expand_bodies.specs.Origins.{origin_of, class_in}
use Rattle.ss_expand_bodies.proofs.ByClass.{by_class_in_code, not_below}
use Rattle.ss_expand_bodies.proofs.origins.count_before.Goals as goal

pub returns-clause-parted : goal.returns-clause-parted
returns-clause-parted c =
    let class = c.args.class.0 in
    let parted = IsPartitionedBy-ltb (λ o. class_in (origin_of o)) c.args.origins.now class (by_class_in_code c.args.origins.now c.requires.by_class) in
    let point = IsPartitionPoint-from_clause (λ o. ltb (class_in (origin_of o)) class) _ _ c.partition_point.ensures.partitioned parted (λ a r q k. search rules) in
    (λ k d l h. ltb-true _ _ (point.0 k d l h), λ k d l h. not_below _ _ (point.1 k d l h))
