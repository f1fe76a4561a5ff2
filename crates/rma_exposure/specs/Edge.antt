-- What a complete orders before the return of an expwait (MPI 4.0, "One-Sided Communications").
use Rattle.std.specs.Prelude.{◌≡◌, ℕ, List, [], Option, Some, option_map, slice_get, Contains}
use Rattle.std.specs.List.{filter_map}
use Rattle.std.specs.Option.{option_and_then, option_map_or}
use Rattle.rma_base.specs.declared.rank.Rank.{Rank}
use Rattle.rma_call.specs.Call.{Call, RankCalls}
use Rattle.rma_link.specs.declared.edge.Edge.{Edge}
use Rattle.rma_link.specs.Point.{entry, return_of}
use Rattle.rma_run.specs.Run.{calls_of, by_rank}
use Rattle.rma_exposure.specs.declared.side.Side.TheVariants.{Exposure, Access}
use Rattle.rma_exposure.specs.Opening.{Opening, opened}
use Rattle.rma_exposure.specs.Closing.{closing_of}
use Rattle.rma_exposure.specs.Matching.{match_of}

-- the complete of an origin's start that matches the post of this number of a rank
abbrev pub complete_for : (ℕ → List Call) → ℕ → ℕ → List ℕ → ℕ → Option ℕ
complete_for calls rank post window origin = option_and_then (closing_of Access (calls origin)) (match_of Exposure window calls rank post origin)

-- the edge from the entry of that complete to the return of this expwait
abbrev pub edge_from : (ℕ → List Call) → Rank → ℕ → List ℕ → ℕ → ℕ → Option Edge
edge_from calls rank post window expwait origin =
    option_map (λ complete. record { from = entry (record { 0 = origin }) complete; to = return_of rank expwait }) (complete_for calls rank.0 post window origin)

-- the edges to the return of the expwait of a post, one for each origin whose start matches it and is completed
abbrev pub edges_to : (ℕ → List Call) → Rank → ℕ → Opening → List Edge
edges_to calls rank post opening =
    option_map_or (λ expwait. filter_map (edge_from calls rank post opening.window expwait) opening.group) (closing_of Exposure (calls rank.0) post) []

-- the same of any call, which has none where it is no post
abbrev pub edges_at : (ℕ → List Call) → Rank → ℕ → Call → List Edge
edges_at calls rank number call = option_map_or (edges_to calls rank number) (opened Exposure call.what) []

-- the edges of a run
abbrev pub exposure_edges : List RankCalls → List Edge
exposure_edges ranks = by_rank (edges_at (calls_of ranks)) ranks

-- an edge of a run: a post of one of its ranks has an origin in its group whose start matches it; the start has a complete and
-- the post an expwait; and the edge leads from the entry of the one to the return of the other
pub record IsExposureEdge (ranks : List RankCalls) (edge : Edge) : Type 0 where
  pub own : RankCalls
  pub post : ℕ
  pub call : Call
  pub opening : Opening
  pub origin : ℕ
  pub start : ℕ
  pub complete : ℕ
  pub expwait : ℕ
  pub of_run : Contains ranks own
  pub there : slice_get own.calls post ≡ Some call
  pub opens : opened Exposure call.what ≡ Some opening
  pub has_origin : Contains opening.group origin
  pub matched : match_of Exposure opening.window (calls_of ranks) own.rank.0 post origin ≡ Some start
  pub completed : closing_of Access (calls_of ranks origin) start ≡ Some complete
  pub waited : closing_of Exposure (calls_of ranks own.rank.0) post ≡ Some expwait
  pub leads : record { from = entry (record { 0 = origin }) complete; to = return_of own.rank expwait } ≡ edge
