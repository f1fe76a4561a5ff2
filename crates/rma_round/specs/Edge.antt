-- What a call that moves data from a root or to it orders (MPI 4.0, "Collective Communication").
use Rattle.std.specs.Prelude.{◌≡◌, ℕ, ◌==◌, List, [], Bool, true, false, Option, Some, None, option_map, slice_get, Contains, if◌then◌else◌}
use Rattle.std.specs.List.{cons_option}
use Rattle.std.specs.Option.{option_and_then}
use Rattle.rma_base.specs.declared.rank.Rank.{Rank}
use Rattle.rma_call.specs.Call.{Call, RankCalls}
use Rattle.rma_call.specs.declared.what.What.{What}
use Rattle.rma_call.specs.declared.what.What.TheVariants.{Sync}
use Rattle.rma_call.specs.declared.what.SyncCall.TheVariants as sync
use Rattle.rma_call.specs.declared.moving.MovingCall.TheVariants.{Bcast, Scatter, Gather, Reduce}
use Rattle.rma_link.specs.declared.edge.Edge.{Edge}
use Rattle.rma_link.specs.Point.{entry, return_of}
use Rattle.rma_run.specs.Run.{calls_of, by_rank}
use Rattle.rma_round.specs.declared.kind.Kind.TheVariants.{Moving}
use Rattle.rma_round.specs.Round.{match_of}

-- a movement of data from a root to all, or from all to the root, on a communicator
pub record Rooted : Type 0 where
  pub to_root : Bool
  pub root : Rank
  pub comm : List ℕ

-- a movement, where any bytes are moved
abbrev pub movement : Bool → Rank → ℕ → List ℕ → Option Rooted
movement to_root root bytes comm = if bytes == 0 then None else Some (record { to_root = to_root; root = root; comm = comm })

-- the movement that a call is part of: a broadcast and a scatter go from the root, a gather and a reduction go to it
abbrev pub rooted_of : What → Option Rooted
rooted_of (Sync (sync.Moving (Bcast root bytes comm))) = movement false root bytes comm
rooted_of (Sync (sync.Moving (Scatter root bytes comm))) = movement false root bytes comm
rooted_of (Sync (sync.Moving (Gather root bytes comm))) = movement true root bytes comm
rooted_of (Sync (sync.Moving (Reduce root bytes comm))) = movement true root bytes comm
rooted_of _ = None

-- the root's call of the round of the call of this number of a rank, where the rank is not the root
abbrev pub call_of_root : (ℕ → List Call) → ℕ → ℕ → Rooted → Option ℕ
call_of_root calls rank number at = if at.root.0 == rank then None else match_of Moving at.comm calls rank number at.root.0

-- the edge between the call of this number of a rank and the root's call: from the entry of the one that gives data to the return
-- of the one that gets it
abbrev pub edge_with : Rank → ℕ → Rooted → ℕ → Edge
edge_with rank number at call =
    if at.to_root then record { from = entry rank number; to = return_of at.root call } else record { from = entry at.root call; to = return_of rank number }

-- the edge of a call that is part of this movement
abbrev pub edge_of : (ℕ → List Call) → Rank → ℕ → Rooted → Option Edge
edge_of calls rank number at = option_map (edge_with rank number at) (call_of_root calls rank.0 number at)

-- the edge of a call that does this, which has none where it moves no data from a root or to it
abbrev pub edge_at : (ℕ → List Call) → Rank → ℕ → What → Option Edge
edge_at calls rank number what = option_and_then (edge_of calls rank number) (rooted_of what)

-- the same as a list
abbrev pub edges_at : (ℕ → List Call) → Rank → ℕ → Call → List Edge
edges_at calls rank number call = cons_option (edge_at calls rank number call.what) []

-- the edges of a run
abbrev pub round_edges : List RankCalls → List Edge
round_edges ranks = by_rank (edges_at (calls_of ranks)) ranks

-- an edge of a run: a call of one of its ranks is part of a movement of data from a root or to it, the root is another rank and
-- has a call in its round, and the edge leads from the entry of the call that gives data to the return of the one that gets it
pub record IsRoundEdge (ranks : List RankCalls) (edge : Edge) : Type 0 where
  pub own : RankCalls
  pub number : ℕ
  pub call : Call
  pub at : Rooted
  pub root_call : ℕ
  pub of_run : Contains ranks own
  pub there : slice_get own.calls number ≡ Some call
  pub moves : rooted_of call.what ≡ Some at
  pub is_not_root : (at.root.0 == own.rank.0) ≡ false
  pub matched : match_of Moving at.comm (calls_of ranks) own.rank.0 number at.root.0 ≡ Some root_call
  pub leads : edge_with own.rank number at root_call ≡ edge
