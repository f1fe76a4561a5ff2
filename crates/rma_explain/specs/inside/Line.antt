-- Where the calls of a rank that access memory stand, by their lines.
use Rattle.std.specs.Prelude.{◌≡◌, ℕ, List, Contains, Some, slice_get}
use Rattle.rma_call.specs.Call.{Call, CallTable, RankCalls}
use Rattle.rma_span.specs.Span.{origin_of, spanned_calls}
use Rattle.rma_accesses.specs.Run.{AreGood}
use Rattle.rma_accesses.specs.declared.rank.RankAccesses.{RankAccesses}
use Rattle.rma_accesses.specs.inside.Kept.{IsAccessesOf, rank_of}

-- these are the accesses of a rank of a run of good logs, and its calls
pub record IsOfLog (ranks : List RankCalls) (table : CallTable) (given : RankAccesses) : Type 0 where
  pub good : AreGood ranks
  pub of_run : Contains ranks (rank_of given)
  pub accesses : IsAccessesOf ranks given
  pub calls : table.calls ≡ (rank_of given).calls

-- the call at this index among those of the rank that access memory has this line
pub record IsLineAt (ranks : List RankCalls) (own : RankCalls) (index line : ℕ) : Type 0 where
  pub number : ℕ
  pub call : Call
  pub spanned : slice_get (spanned_calls (origin_of ranks own)) index ≡ Some number
  pub there : slice_get (origin_of ranks own).sound number ≡ Some call
  pub line_is : call.line.0 ≡ line
