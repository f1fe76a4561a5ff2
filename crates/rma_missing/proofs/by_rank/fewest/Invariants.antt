use Rattle.std.proofs.Common.{◌≡◌, ℕ, nat_le, take}
use Rattle.std.specs.List.{list_any}
use Rattle.rma_missing.specs.inside.ByRank.{count_in_rank, is_reached}
use Rattle.rma_missing.proofs.by_rank.fewest.Given as goal

-- the fewest calls of the members so far
abbrev pub invariant-loop-member : goal.invariant-loop-member
invariant-loop-member l = (number : ℕ) → list_any (λ m. nat_le (count_in_rank l.counts_by_rank m l.name) number) (take l.member-index l.members) ≡ is_reached l.fewest number
