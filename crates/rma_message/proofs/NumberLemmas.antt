-- The numbers of calls that ends of messages have, and the edges between them.
use Rattle.std.proofs.Common.{◌≡◌, ℕ, zero, suc, ◌+◌, ◌<◌, ◌≤◌, List, [], ◌∷◌, length, Option, Some, None, get_or, slice_get, refl, sym, ap, subst, ◌∙◌, arith}
use Rattle.std.specs.Prelude.{All, Contains, IfSome, filter}
use Rattle.std.specs.List.{cons_option, filter_map, flat_map}
use Rattle.std.specs.Option.{option_map_or}
use Rattle.std.proofs.lemmas.List.Elements.{All-nil, All-cons, All-head, All-tail, All-push, All-append, All-contains}
use Rattle.std.proofs.lemmas.Option.{slice_get_within, get_or_from_slice_get}
use Rattle.rma_base.specs.Limits.{fed_limit}
use Rattle.rma_base.specs.declared.line.LineNo.{LineNo}
use Rattle.rma_base.specs.declared.rank.Rank.{Rank}
use Rattle.rma_call.specs.Call.{Call, RankCalls}
use Rattle.rma_call.specs.declared.what.What.{What}
use Rattle.rma_call.specs.declared.what.What.TheVariants.{Sync, Rma, Local}
use Rattle.rma_call.specs.declared.what.SyncCall.TheVariants.{Frame, Message, Window, Epoch, Moving}
use Rattle.rma_call.specs.declared.message.MessageCall.TheVariants.{Send, Isend, Recv, Irecv, Wait}
use Rattle.rma_call.specs.declared.message.Received.{Received}
use Rattle.rma_link.specs.declared.edge.Edge.{Edge}
use Rattle.rma_link.specs.Within.{IsEdgeWithin}
use Rattle.rma_run.specs.Run.{AreInOrder, lens_of}
use Rattle.rma_run.proofs.CallLemmas.{lens_are, calls_are_own}
use Rattle.rma_run.proofs.ContainLemmas.{in_flat_map, all_from_contains}
use Rattle.rma_message.specs.declared.key.Key.{Key}
use Rattle.rma_message.specs.declared.end.End.{End}
use Rattle.rma_message.specs.Key.{has_key}
use Rattle.rma_message.specs.declared.receive.Receive.{Receive}
use Rattle.rma_message.specs.declared.receive.Completion.{Completion}
use Rattle.rma_message.specs.Receive.{posted, waited, complete_at, open_at, end_of}
use Rattle.rma_message.specs.RankMessages.{RankMessages, no_messages, sent_end, with_what, with_call, with_calls, messages_by}
use Rattle.rma_message.specs.Matching.{IsNumbered}
use Rattle.rma_message.specs.Messages.{AreNumbered, IsMessageEdge, messages_of, message_edges, receives_in}
use Rattle.rma_message.proofs.MatchLemmas.{same_key_true}
use Rattle.rma_message.proofs.NumberedLemmas.{IsNumber, of_number, edge_by_number}

-- a send is one of so many calls of a rank
abbrev IsSentBy : ℕ → Rank → End → Type 0
IsSentBy limit rank e = (e.key.from ≡ rank) × (e.call < limit)

-- an end is one of so many calls of a rank
abbrev IsMadeBy : ℕ → Rank → End → Type 0
IsMadeBy limit rank e = (e.rank ≡ rank) × (e.call < limit)

-- the call that completes a receive is one of so many
abbrev IsDone : ℕ → Receive → Type 0
IsDone limit r = IfSome r.completion (λ c. c.call < limit)

-- so is each call of the messages of a rank
record AreDone (limit : ℕ) (rank : Rank) (m : RankMessages) : Type 0 where
  rank_is : m.rank ≡ rank
  sends : All (IsSentBy limit rank) m.sends
  receives : All (IsDone limit) m.receives

module _ (limit : ℕ) where
  completed_done : (index : ℕ) (completion : Completion) (rs : List Receive) → completion.call < limit → All (IsDone limit) rs → All (IsDone limit) (complete_at index completion rs)
  completed_done index completion [] lt all = all
  completed_done zero completion (r ∷ rs) lt all = All-cons (IsDone limit) (record r { completion = Some completion }) rs lt (All-tail (IsDone limit) r rs all)
  completed_done (suc index) completion (r ∷ rs) lt all =
      All-cons (IsDone limit) r (complete_at index completion rs) (All-head (IsDone limit) r rs all) (completed_done index completion rs lt (All-tail (IsDone limit) r rs all))

  pub waited_done : (request : Option ℕ) (received : Option Received) (number : ℕ) (rs : List Receive) → number < limit → All (IsDone limit) rs → All (IsDone limit) (waited request received number rs)
  waited_done None received number rs lt all = all
  waited_done (Some request) None number rs lt all = all
  waited_done (Some request) (Some received) number rs lt all = by (open_at request rs)
    where
      by : (found : Option ℕ) → All (IsDone limit) (option_map_or (λ index. complete_at index (record { from = received.from; tag = received.tag; call = number }) rs) found rs)
      by None = all
      by (Some index) = completed_done index (record { from = received.from; tag = received.tag; call = number }) rs lt all

  call_done : (rank : Rank) (m : RankMessages) (number : ℕ) (line : LineNo) (request : Option ℕ) (what : What) → number < limit → AreDone limit rank m → AreDone limit rank (with_what m number line request what)
  call_done rank m number line request (Sync (Message (Send to tag comm))) lt done =
      record { rank_is = done.rank_is; sends = All-push (IsSentBy limit rank) m.sends (sent_end m.rank number line to tag comm) done.sends (done.rank_is, lt); receives = done.receives }
  call_done rank m number line request (Sync (Message (Isend to tag comm))) lt done =
      record { rank_is = done.rank_is; sends = All-push (IsSentBy limit rank) m.sends (sent_end m.rank number line to tag comm) done.sends (done.rank_is, lt); receives = done.receives }
  call_done rank m number line request (Sync (Message (Recv from tag comm))) lt done =
      record { rank_is = done.rank_is; sends = done.sends; receives = All-push (IsDone limit) m.receives (posted comm line None (Some (record { from = from; tag = tag; call = number }))) done.receives lt }
  call_done rank m number line request (Sync (Message (Irecv comm))) lt done =
      record { rank_is = done.rank_is; sends = done.sends; receives = All-push (IsDone limit) m.receives (posted comm line request None) done.receives tt }
  call_done rank m number line request (Sync (Message (Wait received))) lt done =
      record { rank_is = done.rank_is; sends = done.sends; receives = waited_done request received number m.receives lt done.receives }
  call_done rank m number line request (Sync (Frame call)) lt done = done
  call_done rank m number line request (Sync (Window call)) lt done = done
  call_done rank m number line request (Sync (Epoch call)) lt done = done
  call_done rank m number line request (Sync (Moving call)) lt done = done
  call_done rank m number line request (Rma call) lt done = done
  call_done rank m number line request (Local call) lt done = done

  calls_done : (rank : Rank) (m : RankMessages) (number : ℕ) (calls : List Call) → number + length calls ≤ limit → AreDone limit rank m → AreDone limit rank (with_calls m number calls)
  calls_done rank m number [] le done = done
  calls_done rank m number (call ∷ calls) le done =
      calls_done rank (with_call m number call) (number + 1) calls (omega arith) (call_done rank m number call.line call.request call.what (omega arith) done)

  ends_made : (rank : Rank) (rs : List Receive) → All (IsDone limit) rs → All (IsMadeBy limit rank) (filter_map (end_of rank) rs)
  ends_made rank [] all = All-nil (IsMadeBy limit rank)
  ends_made rank (r ∷ rs) all = by r.completion (All-head (IsDone limit) r rs all) (ends_made rank rs (All-tail (IsDone limit) r rs all))
    where
      by : (completion : Option Completion) → IfSome completion (λ c. c.call < limit) → All (IsMadeBy limit rank) (filter_map (end_of rank) rs)
          → All (IsMadeBy limit rank) (cons_option (end_of rank (record r { completion = completion })) (filter_map (end_of rank) rs))
      by None fits rest = rest
      by (Some c) fits rest =
          All-cons (IsMadeBy limit rank) (record { key = record { from = c.from; to = rank; comm = r.comm; tag = c.tag }; rank = rank; call = c.call; line = r.line }) (filter_map (end_of rank) rs) (refl, fits) rest

rank_done : (own : RankCalls) → AreDone (length own.calls) own.rank (messages_by own)
rank_done own =
    calls_done (length own.calls) own.rank (no_messages own.rank) 0 own.calls (omega arith)
    (record { rank_is = refl; sends = All-nil (IsSentBy (length own.calls) own.rank); receives = All-nil (IsDone (length own.calls)) })

rank_receives : (own : RankCalls) → All (IsMadeBy (length own.calls) own.rank) (receives_in (messages_by own))
rank_receives own =
    let done = rank_done own in
    subst (λ r. All (IsMadeBy (length own.calls) own.rank) (filter_map (end_of r) (messages_by own).receives)) (sym done.rank_is) (ends_made (length own.calls) own.rank (messages_by own).receives done.receives)

-- a send is a call of its rank
send_within : (ranks : List RankCalls) (e : End) → AreInOrder ranks → Contains (messages_of ranks).sends e → e.call < get_or (lens_of ranks) e.key.from.0 0
send_within ranks e in_order has =
    let one = in_flat_map (λ (r : RankCalls). (messages_by r).sends) ranks e has in
    let own = one.0 in
    let made : IsSentBy (length own.calls) own.rank e = All-contains (IsSentBy (length own.calls) own.rank) (messages_by own).sends e (rank_done own).sends one.2 in
    subst (λ (r : Rank). e.call < get_or (lens_of ranks) r.0 0) (sym made.0) (rw (lens_are ranks own.rank.0, calls_are_own ranks own in_order one.1) made.1)

-- what completes a receive is a call of its rank
receive_within : (ranks : List RankCalls) (e : End) → AreInOrder ranks → Contains (messages_of ranks).receives e → e.call < get_or (lens_of ranks) e.rank.0 0
receive_within ranks e in_order has =
    let one = in_flat_map (λ (r : RankCalls). receives_in (messages_by r)) ranks e has in
    let own = one.0 in
    let made : IsMadeBy (length own.calls) own.rank e = All-contains (IsMadeBy (length own.calls) own.rank) (receives_in (messages_by own)) e (rank_receives own) one.2 in
    subst (λ (r : Rank). e.call < get_or (lens_of ranks) r.0 0) (sym made.0) (rw (lens_are ranks own.rank.0, calls_are_own ranks own in_order one.1) made.1)

-- an end is in a list where it has a number among those of its key
of_key : (key : Key) (es : List End) (number : ℕ) (e : End) → slice_get (filter (has_key key) es) number ≡ Some e → Contains es e × (e.key ≡ key)
of_key key es number e at =
    let found : IsNumber (has_key key) es number e = of_number (has_key key) es number e at in
    let lt : found.index < length es = slice_get_within es found.index e found.there in
    ((found.index, lt, get_or_from_slice_get es found.index e e found.there), same_key_true e.key key found.passes)

edge_within : (ranks : List RankCalls) (edge : Edge) → AreInOrder ranks → IsMessageEdge (messages_of ranks) edge → IsEdgeWithin (lens_of ranks) edge
edge_within ranks edge in_order is =
    let send = of_key is.key (messages_of ranks).sends is.number is.send is.is_send in
    let receive = of_key is.key (messages_of ranks).receives is.number is.receive is.is_receive in
    let from : is.send.call < get_or (lens_of ranks) is.receive.key.from.0 0 =
    subst (λ (k : Key). is.send.call < get_or (lens_of ranks) k.from.0 0) (send.1 ∙ sym receive.1) (send_within ranks is.send in_order send.0) in
    subst (IsEdgeWithin (lens_of ranks)) (sym is.is_edge)
    ((is.send.call, from, refl), (is.receive.call, receive_within ranks is.receive in_order receive.0, refl))

-- the edges of a run are between its calls
pub edges_are_within : (ranks : List RankCalls) → AreInOrder ranks → All (IsEdgeWithin (lens_of ranks)) (message_edges ranks)
edges_are_within ranks in_order =
    all_from_contains (IsEdgeWithin (lens_of ranks)) (message_edges ranks) (λ edge has. edge_within ranks edge in_order (edge_by_number (messages_of ranks) edge has))

-- an end that is one of so many calls has a number that a call may have
numbered : (P : End → Type 0) (es : List End) → ((e : End) → P e → IsNumbered e) → All P es → All IsNumbered es
numbered P es each all = λ k d lt. each (get_or es k d) (all k d lt)

-- the ends of the messages of a run have numbers that calls may have
pub messages_numbered : (ranks : List RankCalls) → All (λ r. length r.calls ≤ fed_limit) ranks → AreNumbered (messages_of ranks)
messages_numbered [] all = record { sends = All-nil IsNumbered; receives = All-nil IsNumbered }
messages_numbered (own ∷ ranks) all =
    let few : RankCalls → Type 0 = λ (r : RankCalls). length r.calls ≤ fed_limit in
    let rest = messages_numbered ranks (All-tail few own ranks all) in
    let le = All-head few own ranks all in
    record {
      sends = All-append IsNumbered (messages_by own).sends (flat_map (λ (r : RankCalls). (messages_by r).sends) ranks)
          (numbered (IsSentBy (length own.calls) own.rank) (messages_by own).sends (λ e sent. let lt = sent.1 in omega arith) (rank_done own).sends) rest.sends;
      receives = All-append IsNumbered (receives_in (messages_by own)) (flat_map (λ (r : RankCalls). receives_in (messages_by r)) ranks)
          (numbered (IsMadeBy (length own.calls) own.rank) (receives_in (messages_by own)) (λ e made. let lt = made.1 in omega arith) (rank_receives own)) rest.receives;
    }

-- the calls of a rank complete its receives
pub calls_before : (rank : Rank) (calls : List Call) → All (λ r. IfSome r.completion (λ c. c.call < length calls)) (with_calls (no_messages rank) 0 calls).receives
calls_before rank calls = (rank_done (record { rank = rank; calls = calls; end = record { 0 = 0 } })).receives

-- the messages of a rank are its own
pub calls_rank : (rank : Rank) (calls : List Call) → (with_calls (no_messages rank) 0 calls).rank ≡ rank
calls_rank rank calls = (rank_done (record { rank = rank; calls = calls; end = record { 0 = 0 } })).rank_is

pub calls_whole : (rank : Rank) (calls : List Call) → with_calls (no_messages rank) 0 calls
    ≡ record { rank = rank; sends = (with_calls (no_messages rank) 0 calls).sends; receives = (with_calls (no_messages rank) 0 calls).receives }
calls_whole rank calls = ap (λ r. record { rank = r; sends = (with_calls (no_messages rank) 0 calls).sends; receives = (with_calls (no_messages rank) 0 calls).receives }) (calls_rank rank calls)

-- a rank makes its sends
pub sends_from : (own : RankCalls) → All (λ e. e.key.from ≡ own.rank) (messages_by own).sends
sends_from own = λ k d lt. ((rank_done own).sends k d lt).0

ends_to : (rank : Rank) (rs : List Receive) → All (λ e. e.key.to ≡ rank) (filter_map (end_of rank) rs)
ends_to rank [] = All-nil (λ e. e.key.to ≡ rank)
ends_to rank (r ∷ rs) = by r.completion (ends_to rank rs)
  where
    by : (completion : Option Completion) → All (λ e. e.key.to ≡ rank) (filter_map (end_of rank) rs)
        → All (λ e. e.key.to ≡ rank) (cons_option (end_of rank (record r { completion = completion })) (filter_map (end_of rank) rs))
    by None rest = rest
    by (Some c) rest =
        All-cons (λ (e : End). e.key.to ≡ rank) (record { key = record { from = c.from; to = rank; comm = r.comm; tag = c.tag }; rank = rank; call = c.call; line = r.line }) (filter_map (end_of rank) rs) refl rest

-- and gets its receives
pub receives_to : (own : RankCalls) → All (λ e. e.key.to ≡ own.rank) (receives_in (messages_by own))
receives_to own = subst (λ r. All (λ e. e.key.to ≡ own.rank) (filter_map (end_of r) (messages_by own).receives)) (sym (rank_done own).rank_is) (ends_to own.rank (messages_by own).receives)

-- it makes the calls that complete them
pub receives_by : (own : RankCalls) → All (λ e. e.rank ≡ own.rank) (receives_in (messages_by own))
receives_by own = λ k d lt. (rank_receives own k d lt).0
