use Rattle.std.proofs.Common.{◌≡◌, false, map, take, drop, []}
use Rattle.std.specs.List.Sorted.{IsStrictlyIncreasing, IsPermutation}
use Rattle.rma_base.specs.RankSet.{number_of, has_repeat, placed_all}
use Rattle.rma_base.proofs.rank_set.RankSet.new.Given as goal

abbrev pub invariant-loop-rank : goal.invariant-loop-rank
invariant-loop-rank l = record {
  ascending : IsStrictlyIncreasing l.numbers.items;
  same : IsPermutation (map number_of (take l.rank-index l.ranks)) l.numbers.items;
  sorted : placed_all l.numbers.items (map number_of (drop l.rank-index l.ranks)) ≡ placed_all [] (map number_of l.ranks);
  single : has_repeat (map number_of (take l.rank-index l.ranks)) ≡ false;
}
