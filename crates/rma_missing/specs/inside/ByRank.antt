-- How many calls of a kind each rank makes on each name.
use Rattle.std.specs.Prelude.{ℕ, List, Bool, false, Option, Some, None, slice_get, nat_le}
use Rattle.std.specs.List.{AllZip}
use Rattle.std.specs.Option.{option_map_or}
use Rattle.std.specs.HashMap.{HashMap}
use Rattle.std.specs.declared.hash.FoldHasher.{FoldHasher}
use Rattle.std.specs.declared.hash.BuildHasherDefault.{BuildHasherDefault}
use Rattle.rma_call.specs.Call.{RankCalls}
use Rattle.rma_round.specs.declared.kind.Kind.{Kind}
use Rattle.rma_missing.specs.inside.NameCount.{count_in, AreCounts}

-- the numbers of one rank
abbrev pub Numbers : Type 0
Numbers = HashMap (List ℕ) ℕ (BuildHasherDefault FoldHasher)

-- the numbers are those of the calls of each rank
abbrev pub AreCountsByRank : Kind → List RankCalls → List Numbers → Type 0
AreCountsByRank kind ranks counts_by_rank = AllZip (λ r t. AreCounts kind r.calls t.entries) ranks counts_by_rank

-- how many calls on the name the numbers of a rank have, and 0 where there is no such rank
abbrev pub count_in_rank : List Numbers → ℕ → List ℕ → ℕ
count_in_rank counts_by_rank rank name = option_map_or (λ t. count_in t.entries name) (slice_get counts_by_rank rank) 0

-- whether a number is as large as the fewest calls of a member, so that this member has no call of this number
abbrev pub is_reached : Option ℕ → ℕ → Bool
is_reached None number = false
is_reached (Some fewest) number = nat_le fewest number
