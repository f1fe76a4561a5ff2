use Rattle.std.proofs.Common.{◌↔◌, length}
use Rattle.rma_type.proofs.Words.{copies, spread, BeginsWith, rest_at, IsCursor}
use Rattle.rma_type.proofs.prefix.begins_with.Given as goal

abbrev pub invariant-loop-sought : goal.invariant-loop-sought
invariant-loop-sought l = record {
  there : IsCursor l.there;
  sought : IsCursor l.sought;
  same : BeginsWith (copies l.whole_count (spread l.whole)) (copies l.prefix_count (spread l.prefix)) ↔ BeginsWith (rest_at l.whole l.there) (rest_at l.prefix l.sought);
}

abbrev pub decreases-loop-sought : goal.decreases-loop-sought
decreases-loop-sought l = length (rest_at l.prefix l.sought)
