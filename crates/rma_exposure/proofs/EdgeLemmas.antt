-- The edges of a run, one by one.
use Rattle.std.proofs.Common.{◌≡◌, ℕ, List, [], Option, Some, None, slice_get, refl, ap}
use Rattle.std.specs.Prelude.{Contains, option_map}
use Rattle.std.specs.List.{filter_map}
use Rattle.std.specs.Option.{option_and_then, option_map_or}
use Rattle.rma_call.specs.Call.{Call, RankCalls}
use Rattle.rma_link.specs.Point.{entry, return_of}
use Rattle.rma_link.specs.declared.edge.Edge.{Edge}
use Rattle.rma_run.specs.Run.{calls_of, lens_of}
use Rattle.rma_link.specs.Within.{IsEdgeWithin}
use Rattle.rma_run.proofs.CallLemmas.{lens_are}
use Rattle.std.proofs.lemmas.Option.{slice_get_within}
use Rattle.std.specs.Prelude.{All}
use Rattle.std.proofs.Common.{◌<◌, get_or, subst}
use Rattle.rma_exposure.proofs.ClosingLemmas.{closing_is}
use Rattle.rma_exposure.specs.declared.side.Side.{Side}
use Rattle.rma_exposure.specs.declared.side.Side.TheVariants.{Exposure, Access}
use Rattle.rma_exposure.specs.Opening.{Opening, opened}
use Rattle.rma_run.proofs.ContainLemmas.{all_from_contains, has_none, in_filter_map, filter_map_has, in_by_rank, by_rank_has}
use Rattle.rma_exposure.specs.Closing.{closing_of}
use Rattle.rma_exposure.specs.Matching.{match_of}
use Rattle.rma_exposure.specs.Edge.{edge_from, edges_to, edges_at, exposure_edges, IsExposureEdge}

module _ (ranks : List RankCalls) (own : RankCalls) (of_run : Contains ranks own) (post : ℕ) (call : Call) (there : slice_get own.calls post ≡ Some call) (edge : Edge) where
  of_complete : (opening : Opening) (expwait origin start : ℕ) → opened Exposure call.what ≡ Some opening → closing_of Exposure (calls_of ranks own.rank.0) post ≡ Some expwait → Contains opening.group origin
      → match_of Exposure opening.window (calls_of ranks) own.rank.0 post origin ≡ Some start → (o : Option ℕ) → closing_of Access (calls_of ranks origin) start ≡ o
      → option_map (λ complete. let e : Edge = record { from = entry (record { 0 = origin }) complete; to = return_of own.rank expwait } in e) o ≡ Some edge → IsExposureEdge ranks edge
  of_complete opening expwait origin start opens waited has matched None is leads = absurd (cc)
  of_complete opening expwait origin start opens waited has matched (Some complete) is leads = record {
    own = own;
    post = post;
    call = call;
    opening = opening;
    origin = origin;
    start = start;
    complete = complete;
    expwait = expwait;
    of_run = of_run;
    there = there;
    opens = opens;
    has_origin = has;
    matched = matched;
    completed = is;
    waited = waited;
    leads = cc;
  }

  of_start : (opening : Opening) (expwait origin : ℕ) → opened Exposure call.what ≡ Some opening → closing_of Exposure (calls_of ranks own.rank.0) post ≡ Some expwait → Contains opening.group origin
      → (o : Option ℕ) → match_of Exposure opening.window (calls_of ranks) own.rank.0 post origin ≡ o
      → option_map (λ complete. let e : Edge = record { from = entry (record { 0 = origin }) complete; to = return_of own.rank expwait } in e) (option_and_then (closing_of Access (calls_of ranks origin)) o) ≡ Some edge
      → IsExposureEdge ranks edge
  of_start opening expwait origin opens waited has None is leads = absurd (cc)
  of_start opening expwait origin opens waited has (Some start) is leads =
      of_complete opening expwait origin start opens waited has is (closing_of Access (calls_of ranks origin) start) refl leads

  of_expwait : (opening : Opening) → opened Exposure call.what ≡ Some opening → (o : Option ℕ) → closing_of Exposure (calls_of ranks own.rank.0) post ≡ o
      → Contains (option_map_or (λ expwait. filter_map (edge_from (calls_of ranks) own.rank post opening.window expwait) opening.group) o []) edge → IsExposureEdge ranks edge
  of_expwait opening opens None is has = has_none edge has
  of_expwait opening opens (Some expwait) is has =
      let one = in_filter_map (edge_from (calls_of ranks) own.rank post opening.window expwait) opening.group edge has in
      of_start opening expwait one.0 opens is one.1 (match_of Exposure opening.window (calls_of ranks) own.rank.0 post one.0) refl one.2

  of_post : (o : Option Opening) → opened Exposure call.what ≡ o → Contains (option_map_or (edges_to (calls_of ranks) own.rank post) o []) edge → IsExposureEdge ranks edge
  of_post None is has = has_none edge has
  of_post (Some opening) is has = of_expwait opening is (closing_of Exposure (calls_of ranks own.rank.0) post) refl has

-- an edge of the list is one of the run
pub edge_is : (ranks : List RankCalls) (edge : Edge) → Contains (exposure_edges ranks) edge → IsExposureEdge ranks edge
edge_is ranks edge has =
    let one = in_by_rank (edges_at (calls_of ranks)) ranks edge has in
    of_post ranks one.0 one.3.of_run one.1 one.2 one.3.there edge (opened Exposure one.2.what) refl one.4

-- an edge of the run is in the list
pub edge_has : (ranks : List RankCalls) (edge : Edge) → IsExposureEdge ranks edge → Contains (exposure_edges ranks) edge
edge_has ranks edge is =
    let calls = calls_of ranks in
    let from : edge_from calls is.own.rank is.post is.opening.window is.expwait is.origin ≡ Some edge = rw (is.matched, is.completed) (ap Some is.leads) in
    by_rank_has (edges_at calls) ranks is.own is.post is.call edge (record { of_run = is.of_run; there = is.there })
    (rw (is.opens, is.waited) (filter_map_has (edge_from calls is.own.rank is.post is.opening.window is.expwait) is.opening.group is.origin edge is.has_origin from))

-- the call that closes an epoch is one of its rank
closing_within : (ranks : List RankCalls) (side : Side) (rank opener closing : ℕ) → closing_of side (calls_of ranks rank) opener ≡ Some closing → closing < get_or (lens_of ranks) rank 0
closing_within ranks side rank opener closing is =
    let one = closing_is side (calls_of ranks rank) opener closing is in
    rw (lens_are ranks rank) (slice_get_within (calls_of ranks rank) closing one.call one.there)

edge_within : (ranks : List RankCalls) (edge : Edge) → IsExposureEdge ranks edge → IsEdgeWithin (lens_of ranks) edge
edge_within ranks edge is =
    subst (IsEdgeWithin (lens_of ranks)) is.leads
    ((is.complete, closing_within ranks Access is.origin is.start is.complete is.completed, refl), (is.expwait, closing_within ranks Exposure is.own.rank.0 is.post is.expwait is.waited, refl))

-- the edges of a run are between its calls
pub edges_are_within : (ranks : List RankCalls) → All (IsEdgeWithin (lens_of ranks)) (exposure_edges ranks)
edges_are_within ranks = all_from_contains (IsEdgeWithin (lens_of ranks)) (exposure_edges ranks) (λ edge has. edge_within ranks edge (edge_is ranks edge has))
