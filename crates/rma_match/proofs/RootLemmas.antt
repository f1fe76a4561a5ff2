-- An edge leads from the call of the root that a call waits for.
use Rattle.std.proofs.Common.{◌≡◌, ℕ, Bool, true, false, cond, ◌∷◌, List, [], Option, Some, None, nat_eq, slice_get, map, refl, sym, ap, ◌∙◌}
use Rattle.std.specs.Prelude.{Contains, option_map}
use Rattle.std.specs.Option.{option_and_then}
use Rattle.rma_base.specs.declared.rank.Rank.{Rank}
use Rattle.rma_base.specs.declared.point.Point.{Point}
use Rattle.rma_call.specs.Call.{Call, RankCalls}
use Rattle.rma_call.specs.declared.what.What.{What}
use Rattle.rma_call.specs.declared.what.What.TheVariants.{Sync, Rma, Local}
use Rattle.rma_call.specs.declared.what.SyncCall.TheVariants as sync
use Rattle.rma_call.specs.declared.moving.MovingCall.TheVariants.{Bcast, Scatter, Gather, Reduce, Allreduce, Allgather, Alltoall}
use Rattle.rma_link.specs.declared.edge.Edge.{Edge}
use Rattle.rma_link.specs.Point.{entry, return_of}
use Rattle.rma_run.specs.Run.{AreInOrder, calls_of}
use Rattle.rma_run.proofs.CallLemmas.{calls_are_own}
use Rattle.rma_run.proofs.ContainLemmas.{has_none, first_or_later}
use Rattle.rma_round.specs.declared.kind.Kind.TheVariants.{Moving}
use Rattle.rma_round.specs.Round.{match_of, matched, partner_of}
use Rattle.rma_round.specs.Edge.{Rooted, movement, rooted_of, edge_with, round_edges}
use Rattle.rma_round.specs.Meet.{waits_for_all}
use Rattle.rma_round.proofs.EdgeLemmas.{edge_has}
use Rattle.rma_match.specs.Membership.{members}
use Rattle.rma_match.specs.Source.{others, awaited_in, round_entry, round_entries}

movement_on : (to_root : Bool) (root : Rank) (bytes : ℕ) (comm : List ℕ) (at : Rooted) → movement to_root root bytes comm ≡ Some at → comm ≡ at.comm
movement_on to_root root bytes comm at is = by (nat_eq bytes 0) is
  where
    by : (b : Bool) → cond b None (Some (let r : Rooted = record { to_root = to_root; root = root; comm = comm } in r)) ≡ Some at → comm ≡ at.comm
    by true e = absurd (cc)
    by false e =
        let r : Rooted = record { to_root = to_root; root = root; comm = comm } in
        let same : r ≡ at = cc in
        ap (λ (x : Rooted). x.comm) same

-- a call of a movement does not wait for all, and matches by its communicator
module _ (calls : ℕ → List Call) (rank number other : ℕ) where
  rooted_is : (what : What) (at : Rooted) → rooted_of what ≡ Some at → (waits_for_all what ≡ false) × (matched calls rank number other what ≡ match_of Moving at.comm calls rank number other)
  rooted_is (Sync (sync.Moving (Bcast root bytes comm))) at is = (refl, ap (λ name. match_of Moving name calls rank number other) (movement_on false root bytes comm at is))
  rooted_is (Sync (sync.Moving (Scatter root bytes comm))) at is = (refl, ap (λ name. match_of Moving name calls rank number other) (movement_on false root bytes comm at is))
  rooted_is (Sync (sync.Moving (Gather root bytes comm))) at is = (refl, ap (λ name. match_of Moving name calls rank number other) (movement_on true root bytes comm at is))
  rooted_is (Sync (sync.Moving (Reduce root bytes comm))) at is = (refl, ap (λ name. match_of Moving name calls rank number other) (movement_on true root bytes comm at is))
  rooted_is (Sync (sync.Moving (Allreduce bytes comm))) at is = absurd (cc)
  rooted_is (Sync (sync.Moving (Allgather bytes comm))) at is = absurd (cc)
  rooted_is (Sync (sync.Moving (Alltoall bytes comm))) at is = absurd (cc)
  rooted_is (Sync (sync.Frame call)) at is = absurd (cc)
  rooted_is (Sync (sync.Message call)) at is = absurd (cc)
  rooted_is (Sync (sync.Window call)) at is = absurd (cc)
  rooted_is (Sync (sync.Epoch call)) at is = absurd (cc)
  rooted_is (Rma call) at is = absurd (cc)
  rooted_is (Local call) at is = absurd (cc)

module _ (ranks : List RankCalls) (in_order : AreInOrder ranks) (own : RankCalls) (number : ℕ) (call : Call) (at : Rooted) (point : Point)
    (of_run : Contains ranks own) (there : slice_get own.calls number ≡ Some call) (moves : rooted_of call.what ≡ Some at) (from_root : at.to_root ≡ false) where
  abbrev calls : ℕ → List Call
  calls = calls_of ranks

  abbrev rank : ℕ
  rank = own.rank.0

  abbrev edge : Edge
  edge = record { from = point; to = return_of own.rank number }

  of_root : (found : ℕ) → nat_eq at.root.0 rank ≡ false → partner_of calls rank number at.root.0 ≡ Some found → entry at.root found ≡ point → Contains (round_edges ranks) edge
  of_root found apart is same =
      let here : slice_get (calls rank) number ≡ Some call = ap (λ l. slice_get l number) (calls_are_own ranks own in_order of_run) ∙ there in
      let of_call : matched calls rank number at.root.0 call.what ≡ Some found = sym (ap (option_and_then (λ (c : Call). matched calls rank number at.root.0 c.what)) here) ∙ is in
      let on : match_of Moving at.comm calls rank number at.root.0 ≡ Some found = sym (rooted_is calls rank number at.root.0 call.what at moves).1 ∙ of_call in
      let leads : edge_with own.rank number at found ≡ edge = rw from_root (ap (λ (p : Point). let e : Edge = record { from = p; to = return_of own.rank number } in e) same) in
      edge_has ranks edge
      (record {
        own = own;
        number = number;
        call = call;
        at = at;
        root_call = found;
        of_run = of_run;
        there = there;
        moves = moves;
        is_not_root = apart;
        matched = on;
        leads = leads;
      })

  of_entry : nat_eq at.root.0 rank ≡ false → round_entry calls rank number at.root.0 ≡ Some point → Contains (round_edges ranks) edge
  of_entry apart is = by (partner_of calls rank number at.root.0) refl is
    where
      by : (o : Option ℕ) → partner_of calls rank number at.root.0 ≡ o → option_map (entry (record { 0 = at.root.0 })) o ≡ Some point → Contains (round_edges ranks) edge
      by None is_partner e = absurd (cc)
      by (Some found) is_partner e = let same : entry at.root found ≡ point = cc in of_root found apart is_partner same

  pub root_is_edge : (count : ℕ) → Contains (round_entries count calls rank number call.what) (Some point) → Contains (round_edges ranks) edge
  root_is_edge count has =
      let rest = others rank (members count (calls rank) call.what) in
      let waits = (rooted_is calls rank number at.root.0 call.what at moves).0 in
      let among : Contains (map (round_entry calls rank number) (awaited_in rest rank at)) (Some point) = rw (waits, moves) at has in
      by (nat_eq at.root.0 rank) refl (rw from_root at among)
    where
      by : (b : Bool) → nat_eq at.root.0 rank ≡ b → Contains (map (round_entry calls rank number) (cond b [] (at.root.0 ∷ []))) (Some point) → Contains (round_edges ranks) edge
      by true is_root among = has_none (Some point) among
      by false apart among =
          first_or_later (round_entry calls rank number at.root.0) (Some point) []
          (λ (is : round_entry calls rank number at.root.0 ≡ Some point). of_entry apart is)
          (λ (later : Contains [] (Some point)). has_none (Some point) later)
          among
