-- How the accesses of a run are kept.
use Rattle.std.specs.Prelude.{◌≡◌, List, map, All}
use Rattle.rma_call.specs.Call.{RankCalls}
use Rattle.rma_span.specs.Span.{AreAskable, origin_of}
use Rattle.rma_span.specs.inside.Stored.{Represents}
use Rattle.rma_accesses.specs.declared.accesses.RunAccesses.{RunAccesses}
use Rattle.rma_accesses.specs.declared.rank.RankAccesses.{RankAccesses}
use Rattle.rma_accesses.specs.Run.{AreListsOf}

-- the rank whose accesses these are
abbrev pub rank_of : RankAccesses → RankCalls
rank_of given = given.own.now

-- what is kept is that of its rank in this run
pub record IsAccessesOf (ranks : List RankCalls) (given : RankAccesses) : Type 0 where
  pub spans : Represents (origin_of ranks given.own.now) given.spans
  pub askable : AreAskable (origin_of ranks given.own.now) given.calls.now given.parts.now

-- what is kept is that of this run
pub record AreAccessesOf (ranks : List RankCalls) (given : RunAccesses) : Type 0 where
  pub owns : map rank_of given.ranks.items ≡ ranks
  pub each : All (IsAccessesOf ranks) given.ranks.items
  pub lists : AreListsOf ranks given.lists
