use Rattle.std.proofs.Common.{◌≡◌, false, true, rules}
use Rattle.std.specs.List.Sorted.{IsPartitionPoint}
use Rattle.std.proofs.lemmas.Fn.{always_returns_same}
use Rattle.rma_dyn.specs.inside.Sorted.{is_below}
use Rattle.rma_dyn.proofs.SortLemmas.{after_point, before_point, below_first}
use Rattle.rma_dyn.proofs.sorted.behind_of.Goals as goal

parted : (c : goal.After-partition_point)
    → IsPartitionPoint (λ own. is_below c.args.owner c.args.address c.args.call own ≡ true) (λ own. is_below c.args.owner c.args.address c.args.call own ≡ false) c.args.list.now c.partition_point.result
parted c =
    let below = is_below c.args.owner c.args.address c.args.call in
    c.partition_point.ensures.partitioned below (always_returns_same _ (λ a r. r ≡ below a.0.now) _ (λ a r f called. search rules)) (below_first c.args.list.now c.requires c.args.owner c.args.address c.args.call)

pub returns-clause-before : goal.returns-clause-before
returns-clause-before c = before_point c.args.list.now c.requires c.args.owner c.args.address c.args.call c.partition_point.result (parted c)

pub returns-clause-after : goal.returns-clause-after
returns-clause-after c = after_point c.args.list.now c.requires c.args.owner c.args.address c.args.call c.partition_point.result (parted c)
