-- Runs of good logs whose calls match those of other ranks (MPI 4.0, "Groups, Contexts, Communicators, and Caching", "Collective
-- Communication" and "One-Sided Communications").
use Rattle.std.specs.Prelude.{◌≡◌, ℕ, List, [], length, Contains, IsSome}
use Rattle.rma_base.specs.declared.rank.Rank.{Rank}
use Rattle.rma_call.specs.Call.{RankCalls}
use Rattle.rma_kept.specs.Kept.{AreKept}
use Rattle.rma_link.specs.declared.meet.Member.{Member}
use Rattle.rma_member.specs.Member.{members}
use Rattle.rma_round.specs.Meet.{round_at}
use Rattle.rma_round.specs.declared.kind.Kind.{Kind}
use Rattle.rma_run.specs.Run.{AreInOrder}
use Rattle.rma_sync.specs.Matching.{match_faults}
use Rattle.rma_window.specs.Creation.{creations}
use Rattle.rma_window.specs.Windows.{part_named, windows_by}

-- The logs of a run are good, and their calls match.
pub record IsMatched (ranks : List RankCalls) : Type 0 where
  -- the i-th log is that of rank i
  pub in_order : AreInOrder ranks
  -- the calls of each rank are kept
  pub kept : (own : RankCalls) → Contains ranks own → AreKept own.rank.0 (length ranks) own.calls
  -- each call matches those of other ranks
  pub matched : match_faults ranks ≡ []

-- the rank has to make the calls of this kind on the name
abbrev pub IsMember : Kind → List RankCalls → List ℕ → ℕ → Type 0
IsMember kind ranks name rank = Contains (members kind ranks name) rank

-- the rank makes a call of the round of this number of a kind on a name
abbrev pub IsInRound : Kind → List RankCalls → List ℕ → ℕ → ℕ → Type 0
IsInRound kind ranks name place rank = (member : Member) × Contains (round_at kind name ranks place) member × (member.rank.0 ≡ rank)

-- the rank has a part of the window
abbrev pub HasPart : List RankCalls → List ℕ → Rank → Type 0
HasPart ranks window rank = IsSome (part_named (windows_by (creations ranks)) window rank)
