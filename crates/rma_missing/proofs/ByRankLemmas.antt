-- The numbers of calls of each rank.
use Rattle.std.proofs.Common.{◌≡◌, ℕ, zero, suc, List, [], ◌∷◌, ◌++◌, refl}
use Rattle.rma_call.specs.Call.{RankCalls}
use Rattle.rma_round.specs.declared.kind.Kind.{Kind}
use Rattle.rma_agreement.specs.Collective.{made}
use Rattle.rma_missing.specs.inside.NameCount.{AreCounts}
use Rattle.rma_missing.specs.inside.ByRank.{Numbers, AreCountsByRank, count_in_rank}

-- the numbers of one more rank
pub AreCountsByRank_push : (kind : Kind) (ranks : List RankCalls) (counts_by_rank : List Numbers) (rank : RankCalls) (numbers : Numbers) →
    AreCountsByRank kind ranks counts_by_rank → AreCounts kind rank.calls numbers.entries → AreCountsByRank kind (ranks ++ rank ∷ []) (counts_by_rank ++ numbers ∷ [])
AreCountsByRank_push kind [] [] rank numbers h k = (k, tt)
AreCountsByRank_push kind [] (t ∷ counts_by_rank) rank numbers h k = absurd h
AreCountsByRank_push kind (r ∷ ranks) [] rank numbers h k = absurd h
AreCountsByRank_push kind (r ∷ ranks) (t ∷ counts_by_rank) rank numbers h k = (h.0, AreCountsByRank_push kind ranks counts_by_rank rank numbers h.1 k)

-- the number that stands there is that of the calls
pub count_in_rank_made : (kind : Kind) (ranks : List RankCalls) (counts_by_rank : List Numbers) → AreCountsByRank kind ranks counts_by_rank → (rank : ℕ) (name : List ℕ) →
    count_in_rank counts_by_rank rank name ≡ made kind ranks rank name
count_in_rank_made kind [] [] h rank name = refl
count_in_rank_made kind [] (t ∷ counts_by_rank) h rank name = absurd h
count_in_rank_made kind (r ∷ ranks) [] h rank name = absurd h
count_in_rank_made kind (r ∷ ranks) (t ∷ counts_by_rank) h zero name = h.0 name
count_in_rank_made kind (r ∷ ranks) (t ∷ counts_by_rank) h (suc n) name = count_in_rank_made kind ranks counts_by_rank h.1 n name
