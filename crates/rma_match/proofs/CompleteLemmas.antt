-- The completes that an expwait waits for are those from which an edge leads to its return.
use Rattle.std.proofs.Common.{◌≡◌, ℕ, ◌+◌, ◌*◌, ◌∷◌, List, [], Option, Some, None, slice_get, map, refl, ap, subst, ◌∙◌, arith}
use Rattle.std.specs.Prelude.{Contains, option_map}
use Rattle.std.specs.Option.{option_and_then, option_map_or}
use Rattle.rma_base.specs.declared.rank.Rank.{Rank}
use Rattle.rma_base.specs.declared.point.Point.{Point}
use Rattle.rma_call.specs.Call.{Call, RankCalls}
use Rattle.rma_link.specs.declared.edge.Edge.{Edge}
use Rattle.rma_link.specs.Point.{entry, return_of}
use Rattle.rma_run.specs.Run.{AreInOrder, calls_of}
use Rattle.rma_run.proofs.CallLemmas.{calls_are_own}
use Rattle.rma_run.proofs.ContainLemmas.{has_first, has_later, has_none, first_or_later}
use Rattle.rma_round.proofs.RowLemmas.{in_map}
use Rattle.rma_exposure.specs.declared.side.Side.TheVariants.{Exposure, Access}
use Rattle.rma_exposure.specs.Opening.{Opening, opened, opening_at}
use Rattle.rma_exposure.specs.Closing.{closing_of, opener_of}
use Rattle.rma_exposure.specs.Matching.{match_of}
use Rattle.rma_exposure.specs.Edge.{exposure_edges, IsExposureEdge}
use Rattle.rma_exposure.proofs.EdgeLemmas.{edge_is, edge_has}
use Rattle.rma_exposure.proofs.ClosingLemmas.{closing_is, closing_has}
use Rattle.rma_exposure.proofs.OpenerLemmas.{opener_is, opener_has}
use Rattle.rma_match.specs.Source.{complete_entry, complete_entries, expwait_entries}

module _ {X Y : Type 0} (f : X → Y) where
  map_has : (xs : List X) (x : X) → Contains xs x → Contains (map f xs) (f x)
  map_has [] x has = has_none x has
  map_has (z ∷ zs) x has =
      first_or_later z x zs
      (λ (at : z ≡ x). subst (λ y. Contains (map f (z ∷ zs)) (f y)) at (has_first (f z) (map f zs)))
      (λ (later : Contains zs x). has_later (f z) (f x) (map f zs) (map_has zs x later))
      has

-- the call at a number that opens an epoch
opened_at : (calls : List Call) (number : ℕ) (opening : Opening) → opening_at Exposure calls number ≡ Some opening → (call : Call) × (slice_get calls number ≡ Some call) × (opened Exposure call.what ≡ Some opening)
opened_at calls number opening is = by (slice_get calls number) refl is
  where
    by : (o : Option Call) → slice_get calls number ≡ o → option_and_then (λ (c : Call). opened Exposure c.what) o ≡ Some opening → (call : Call) × (slice_get calls number ≡ Some call) × (opened Exposure call.what ≡ Some opening)
    by None there at = absurd (cc)
    by (Some call) there at = (call, there, at)

module _ (ranks : List RankCalls) (in_order : AreInOrder ranks) (own : RankCalls) (number : ℕ) (point : Point) (of_run : Contains ranks own) where
  abbrev calls : ℕ → List Call
  calls = calls_of ranks

  abbrev rank : ℕ
  rank = own.rank.0

  abbrev edge : Edge
  edge = record { from = point; to = return_of own.rank number }

  of_complete : (post : ℕ) (opening : Opening) (origin start complete : ℕ) → opener_of Exposure (calls rank) number ≡ Some post → opening_at Exposure (calls rank) post ≡ Some opening → Contains opening.group origin →
      match_of Exposure opening.window calls rank post origin ≡ Some start → closing_of Access (calls origin) start ≡ Some complete → entry (record { 0 = origin }) complete ≡ point → Contains (exposure_edges ranks) edge
  of_complete post opening origin start complete opener is has_origin matched completed at =
      let one = opened_at (calls rank) post opening is in
      let same = calls_are_own ranks own in_order of_run in
      let leads : (let e : Edge = record { from = entry (record { 0 = origin }) complete; to = return_of own.rank number } in e) ≡ edge = ap (λ (p : Point). let e : Edge = record { from = p; to = return_of own.rank number } in e) at in
      edge_has ranks edge
      (record {
        own = own;
        post = post;
        call = one.0;
        opening = opening;
        origin = origin;
        start = start;
        complete = complete;
        expwait = number;
        of_run = of_run;
        there = subst (λ l. slice_get l post ≡ Some one.0) same one.1;
        opens = one.2;
        has_origin = has_origin;
        matched = matched;
        completed = completed;
        waited = closing_has Exposure (calls rank) post number (opener_is Exposure (calls rank) post number opener);
        leads = leads;
      })

  of_origin : (post : ℕ) (opening : Opening) (origin : ℕ) → opener_of Exposure (calls rank) number ≡ Some post → opening_at Exposure (calls rank) post ≡ Some opening → Contains opening.group origin →
      complete_entry calls rank post opening.window origin ≡ Some point → Contains (exposure_edges ranks) edge
  of_origin post opening origin opener is has_origin at = by (match_of Exposure opening.window calls rank post origin) refl at
    where
      by_start : (start : ℕ) → match_of Exposure opening.window calls rank post origin ≡ Some start → (o : Option ℕ) → closing_of Access (calls origin) start ≡ o → option_map (entry (record { 0 = origin })) o ≡ Some point → Contains (exposure_edges ranks) edge
      by_start start matched None completed e = absurd (cc)
      by_start start matched (Some complete) completed e =
          let same : entry (record { 0 = origin }) complete ≡ point = cc in
          of_complete post opening origin start complete opener is has_origin matched completed same

      by : (o : Option ℕ) → match_of Exposure opening.window calls rank post origin ≡ o → option_map (entry (record { 0 = origin })) (option_and_then (closing_of Access (calls origin)) o) ≡ Some point → Contains (exposure_edges ranks) edge
      by None matched e = absurd (cc)
      by (Some start) matched e = by_start start matched (closing_of Access (calls origin) start) refl e

  pub complete_is : Contains (expwait_entries calls rank number) (Some point) → Contains (exposure_edges ranks) edge
  complete_is has = by (opener_of Exposure (calls rank) number) refl has
    where
      by_opening : (post : ℕ) → opener_of Exposure (calls rank) number ≡ Some post → (o : Option Opening) → opening_at Exposure (calls rank) post ≡ o → Contains (option_map_or (complete_entries calls rank post) o []) (Some point) → Contains (exposure_edges ranks) edge
      by_opening post opener None is among = has_none (Some point) among
      by_opening post opener (Some opening) is among =
          let one = in_map (complete_entry calls rank post opening.window) opening.group (Some point) among in
          of_origin post opening one.0 opener is one.1 one.2

      by : (o : Option ℕ) → opener_of Exposure (calls rank) number ≡ o → Contains (option_map_or (λ post. option_map_or (complete_entries calls rank post) (opening_at Exposure (calls rank) post) []) o []) (Some point) → Contains (exposure_edges ranks) edge
      by None opener among = has_none (Some point) among
      by (Some post) opener among = by_opening post opener (opening_at Exposure (calls rank) post) refl among

  -- an edge to the return of an expwait of another rank, or of another number, is no edge to this one
  has_of : (e : IsExposureEdge ranks edge) → Contains (expwait_entries calls e.own.rank.0 e.expwait) (Some point)
  has_of e =
      let r = e.own.rank.0 in
      let opener = opener_has Exposure (calls r) e.post e.expwait (closing_is Exposure (calls r) e.post e.expwait e.waited) in
      let there : slice_get (calls r) e.post ≡ Some e.call = ap (λ l. slice_get l e.post) (calls_are_own ranks e.own in_order e.of_run) ∙ e.there in
      let opening : opening_at Exposure (calls r) e.post ≡ Some e.opening = ap (option_and_then (λ (c : Call). opened Exposure c.what)) there ∙ e.opens in
      let from : entry (record { 0 = e.origin }) e.complete ≡ point = ap (λ (x : Edge). x.from) e.leads in
      let at : complete_entry calls r e.post e.opening.window e.origin ≡ Some point =
      ap (λ o. option_map (entry (record { 0 = e.origin })) (option_and_then (closing_of Access (calls e.origin)) o)) e.matched
      ∙ ap (option_map (entry (record { 0 = e.origin }))) e.completed
      ∙ ap Some from in
      let among : Contains (complete_entries calls r e.post e.opening) (Some point) =
      subst (Contains (complete_entries calls r e.post e.opening)) at (map_has (complete_entry calls r e.post e.opening.window) e.opening.group e.origin e.has_origin) in
      rw (opener, opening) among

  pub complete_has : Contains (exposure_edges ranks) edge → Contains (expwait_entries calls rank number) (Some point)
  complete_has has =
      let e = edge_is ranks edge has in
      let same_rank : e.own.rank ≡ own.rank = ap (λ (x : Edge). x.to.rank) e.leads in
      let same_pos : 2 * e.expwait + 1 ≡ 2 * number + 1 = ap (λ (x : Edge). x.to.pos) e.leads in
      let same : e.expwait ≡ number = omega arith in
      subst (λ n. Contains (expwait_entries calls rank n) (Some point)) same
      (subst (λ (r : Rank). Contains (expwait_entries calls r.0 e.expwait) (Some point)) same_rank (has_of e))
