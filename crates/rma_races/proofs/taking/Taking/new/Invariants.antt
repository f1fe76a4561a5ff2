use Rattle.std.proofs.Common.{◌≡◌, List, map}
use Rattle.std.specs.Prelude.{All}
use Rattle.rma_call.specs.Call.{RankCalls}
use Rattle.rma_accesses.specs.inside.Kept.{IsAccessesOf, rank_of}
use Rattle.rma_races.proofs.NewLemmas.{AreFirst, AreNew}
use Rattle.rma_races.proofs.taking.Taking.new.Given as goal

-- so many ranks have nothing kept and nothing taken, and their first call comes next
abbrev pub invariant-loop-own : goal.invariant-loop-own
invariant-loop-own l = AreNew l.own-index l.taking × ((run : List RankCalls) → map rank_of l.ranks ≡ run → All (IsAccessesOf run) l.ranks → AreFirst run l.own-index l.taking.next.items)
