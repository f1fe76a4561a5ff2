use Rattle.std.proofs.Common.{◌≡◌, ◌≤◌, ℕ, true, length, take, nat_le}
use Rattle.std.specs.List.{list_all}
use Rattle.rma_difference.specs.inside.CallCount.{AreCallCounts}
use Rattle.rma_difference.proofs.call_count.CallCounts.is_balanced.Given as goal

-- the first members make as many calls as any rank does
abbrev pub invariant-loop-rank_count : goal.invariant-loop-rank_count
invariant-loop-rank_count l = record {
  within : l.balanced ≤ length l.members;
  balanced : (f : ℕ → ℕ) (index : ℕ) → AreCallCounts f index l.self → list_all (λ m. nat_le l.self.largest (f m)) (take l.balanced l.members) ≡ true;
}
