use Rattle.res_map.proofs.Cited.{rules, nat_lt, IsPartitionPoint-from_clause, IsPartitionedBy-ltb, rank, rank_of}
use Rattle.res_map.proofs.index.rows_below.Goals as goal

pub returns-clause-point : goal.returns-clause-point
returns-clause-point c = λ rising. IsPartitionPoint-from_clause (λ r. nat_lt (rank_of r) (rank c.args.kind c.args.key)) _ _
    c.partition_point.ensures.partitioned (IsPartitionedBy-ltb rank_of _ _ rising) (λ a r q k. search rules)
