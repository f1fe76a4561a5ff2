-- The source of a message stays as more calls are taken.
use Rattle.std.proofs.Common.{◌≡◌, ℕ, zero, suc, ◌+◌, ◌<◌, Bool, true, false, cond, List, [], ◌∷◌, ◌++◌, length, take, Option, Some, None, slice_get, nat_eq, eqb, refl, sym, ap, subst, ◌∙◌, arith}
use Rattle.std.specs.Prelude.{filter, count_by, map, option_map}
use Rattle.std.specs.List.{filter_map, list_all}
use Rattle.std.specs.Option.{option_map_or}
use Rattle.std.proofs.lemmas.Bool.{eqb-true, false≢true}
use Rattle.std.proofs.lemmas.List.{take-append-le}
use Rattle.std.proofs.lemmas.List.Elements.{filter-append}
use Rattle.std.proofs.lemmas.Option.{same_Some, slice_get_within}
use Rattle.rma_base.specs.declared.line.LineNo.{LineNo}
use Rattle.rma_base.specs.declared.point.Point.{Point}
use Rattle.rma_call.specs.Call.{Call}
use Rattle.rma_call.specs.declared.what.What.{What}
use Rattle.rma_call.specs.declared.what.What.TheVariants.{Sync, Rma, Local}
use Rattle.rma_call.specs.declared.what.SyncCall.TheVariants.{Frame, Message, Window, Epoch, Moving}
use Rattle.rma_call.specs.declared.message.MessageCall.TheVariants.{Send, Isend, Recv, Irecv, Wait}
use Rattle.rma_call.specs.declared.message.Received.{Received}
use Rattle.rma_run.specs.Run.{with_calls as with_more}
use Rattle.rma_message.specs.declared.end.End.{End}
use Rattle.rma_message.specs.declared.receive.Receive.{Receive}
use Rattle.rma_message.specs.declared.receive.Completion.{Completion}
use Rattle.rma_message.specs.declared.source.MessageSource.TheVariants.{From}
use Rattle.rma_message.specs.Key.{has_key}
use Rattle.rma_message.specs.Receive.{posted, waited, complete_at, open_at, end_of}
use Rattle.rma_message.specs.RankMessages.{RankMessages, no_messages, sent_end, with_what, with_call, with_calls}
use Rattle.rma_message.specs.Source.{messages_at, completed_at, is_complete, is_on, source_of}
use Rattle.rma_message.specs.inside.Live.{AreBefore, is_key, key_of}
use Rattle.rma_message.proofs.FoundLemmas.{what_before}
use Rattle.rma_message.proofs.LiveLemmas.{receives_before}
use Rattle.rma_message.proofs.PlaceLemmas.{completed_within, not_completed, completed_elsewhere, IsPending, pending_there}
use Rattle.rma_message.proofs.SourceLemmas.{own_end, end_comm, count_on}
use Rattle.rma_message.proofs.KnownLemmas.{IsFrom, known, source_is}
use Rattle.rma_message.proofs.ListLemmas.{both, get_before}

-- ---- a receive of which the number is settled

-- the call of a number completes a receive of this end, which is so many-th of its key, and all before it are complete
record IsSettled (rank number : ℕ) (rs : List Receive) (e : End) (n : ℕ) : Type 0 where
  index : ℕ
  receive : Receive
  found : completed_at number rs ≡ Some index
  there : slice_get rs index ≡ Some receive
  complete : list_all is_complete (filter (is_on receive.comm) (take index rs)) ≡ true
  is_end : own_end rank receive ≡ Some e
  count : count_by (has_key e.key) (filter_map (end_of (record { 0 = rank })) (take index rs)) ≡ n

-- ---- one more receive

completed_kept : (number i : ℕ) (rs : List Receive) (r : Receive) → completed_at number rs ≡ Some i → completed_at number (rs ++ r ∷ []) ≡ Some i
completed_kept number i [] r at = cc
completed_kept number i (x ∷ rs) r at = by (completed_at number rs) (λ j is. completed_kept number j rs r is) (option_map_or (λ (c : Completion). eqb c.call number) x.completion false) at
  where
    by : (o : Option ℕ) → ((j : ℕ) → o ≡ Some j → completed_at number (rs ++ r ∷ []) ≡ Some j) → (b : Bool) → cond b (Some 0) (option_map suc o) ≡ Some i
        → cond b (Some 0) (option_map suc (completed_at number (rs ++ r ∷ []))) ≡ Some i
    by o rest true is = is
    by None rest false is = cc
    by (Some j) rest false is = ap (option_map suc) (rest j refl) ∙ is

module _ (rank number : ℕ) (rs : List Receive) (e : End) (n : ℕ) (settled : IsSettled rank number rs e n) where
  settled_posted : (r : Receive) → IsSettled rank number (rs ++ r ∷ []) e n
  settled_posted r =
      let i = settled.index in
      let lt : i < length rs = completed_within number i rs settled.found in
      let front : take i (rs ++ r ∷ []) ≡ take i rs = take-append-le i rs (r ∷ []) (omega arith) in
      record {
        index = i;
        receive = settled.receive;
        found = completed_kept number i rs r settled.found;
        there = get_before rs (r ∷ []) i lt ∙ settled.there;
        complete = ap (λ l. list_all is_complete (filter (is_on settled.receive.comm) l)) front ∙ settled.complete;
        is_end = settled.is_end;
        count = ap (λ l. count_by (has_key e.key) (filter_map (end_of (record { 0 = rank })) l)) front ∙ settled.count;
      }

-- ---- a receive that is complete now

complete_other : (index : ℕ) (done : Completion) (rs : List Receive) (i : ℕ) → (i ≡ index → ⊥) → slice_get (complete_at index done rs) i ≡ slice_get rs i
complete_other index done [] i differ = refl
complete_other zero done (r ∷ rs) zero differ = absurd (differ refl)
complete_other zero done (r ∷ rs) (suc i) differ = refl
complete_other (suc index) done (r ∷ rs) zero differ = refl
complete_other (suc index) done (r ∷ rs) (suc i) differ = complete_other index done rs i (λ is. differ (ap suc is))

-- where all receives on a communicator are complete, none of them changes
front_kept : (comm : List ℕ) (index : ℕ) (done : Completion) (rs : List Receive) (i : ℕ) (r : Receive) → slice_get rs index ≡ Some r → r.completion ≡ None →
    list_all is_complete (filter (is_on comm) (take i rs)) ≡ true → filter (is_on comm) (take i (complete_at index done rs)) ≡ filter (is_on comm) (take i rs)
front_kept comm index done rs zero r at none all = refl
front_kept comm index done [] (suc i) r at none all = refl
front_kept comm zero done (x ∷ rs) (suc i) r at none all = by (is_on comm x) all
  where
    not_complete : is_complete x ≡ false
    not_complete = ap (λ (y : Receive). is_complete y) (same_Some x r at) ∙ rw none refl

    by : (b : Bool) → list_all is_complete (cond b (x ∷ filter (is_on comm) (take i rs)) (filter (is_on comm) (take i rs))) ≡ true
        → cond b (record x { completion = Some done } ∷ filter (is_on comm) (take i rs)) (filter (is_on comm) (take i rs)) ≡ cond b (x ∷ filter (is_on comm) (take i rs)) (filter (is_on comm) (take i rs))
    by true is = absurd (false≢true (sym not_complete ∙ (both (is_complete x) (list_all is_complete (filter (is_on comm) (take i rs))) is).0))
    by false is = refl
front_kept comm (suc index) done (x ∷ rs) (suc i) r at none all = by (is_on comm x) all (λ rest. front_kept comm index done rs i r at none rest)
  where
    by : (b : Bool) → list_all is_complete (cond b (x ∷ filter (is_on comm) (take i rs)) (filter (is_on comm) (take i rs))) ≡ true
        → (list_all is_complete (filter (is_on comm) (take i rs)) ≡ true → filter (is_on comm) (take i (complete_at index done rs)) ≡ filter (is_on comm) (take i rs))
        → cond b (x ∷ filter (is_on comm) (take i (complete_at index done rs))) (filter (is_on comm) (take i (complete_at index done rs))) ≡ cond b (x ∷ filter (is_on comm) (take i rs)) (filter (is_on comm) (take i rs))
    by true is rest = ap (λ l. x ∷ l) (rest (both (is_complete x) (list_all is_complete (filter (is_on comm) (take i rs))) is).1)
    by false is rest = rest is

-- a receive that has an end is complete
end_complete : (rank : ℕ) (r : Receive) (e : End) → own_end rank r ≡ Some e → r.completion ≡ None → ⊥
end_complete rank r e is none = by r.completion is none
  where
    by : (completion : Option Completion) → own_end rank (record r { completion = completion }) ≡ Some e → completion ≡ None → ⊥
    by None at absent = cc
    by (Some c) at absent = cc

module _ (rank number : ℕ) (rs : List Receive) (e : End) (n : ℕ) (settled : IsSettled rank number rs e n) where
  settled_completed : (index : ℕ) (done : Completion) → IsPending rs index → completed_at done.call rs ≡ None → IsSettled rank number (complete_at index done rs) e n
  settled_completed index done pending fresh =
      let i = settled.index in
      let r = settled.receive in
      let differ : i ≡ index → ⊥ = λ is.
      let same : r ≡ pending.receive = same_Some r pending.receive (sym settled.there ∙ ap (slice_get rs) is ∙ pending.there) in
      end_complete rank r e settled.is_end (ap (λ (x : Receive). x.completion) same ∙ pending.not_complete) in
      let front : filter (is_on r.comm) (take i (complete_at index done rs)) ≡ filter (is_on r.comm) (take i rs) =
      front_kept r.comm index done rs i pending.receive pending.there pending.not_complete settled.complete in
      let own : filter (is_on e.key.comm) (take i (complete_at index done rs)) ≡ filter (is_on e.key.comm) (take i rs) =
      subst (λ c. filter (is_on c) (take i (complete_at index done rs)) ≡ filter (is_on c) (take i rs)) (sym (end_comm rank r e settled.is_end)) front in
      record {
        index = i;
        receive = r;
        found = completed_elsewhere number index done rs pending.receive pending.there pending.not_complete (other (eqb done.call number) refl) ∙ settled.found;
        there = complete_other index done rs i differ ∙ settled.there;
        complete = ap (list_all is_complete) front ∙ settled.complete;
        is_end = settled.is_end;
        count = sym (count_on rank e.key (take i (complete_at index done rs)))
            ∙ ap (λ l. count_by (is_key e.key) (map (key_of rank) l)) own
            ∙ count_on rank e.key (take i rs)
            ∙ settled.count;
      }
    where
      other : (b : Bool) → eqb done.call number ≡ b → b ≡ false
      other true h =
          let none : completed_at number rs ≡ None = subst (λ k. completed_at k rs ≡ None) (eqb-true done.call number h) fresh in
          absurd (let wrong : None ≡ Some settled.index = sym none ∙ settled.found in cc)
      other false h = refl

-- ---- calls

module _ (rank number : ℕ) (e : End) (n : ℕ) where
  waited_settled : (request : Option ℕ) (received : Option Received) (k : ℕ) (rs : List Receive) → AreBefore k rs → IsSettled rank number rs e n → IsSettled rank number (waited request received k rs) e n
  waited_settled None received k rs before settled = settled
  waited_settled (Some request) None k rs before settled = settled
  waited_settled (Some request) (Some received) k rs before settled = by (open_at request rs) refl
    where
      by : (found : Option ℕ) → open_at request rs ≡ found → IsSettled rank number (option_map_or (λ index. complete_at index (record { from = received.from; tag = received.tag; call = k }) rs) found rs) e n
      by None at = settled
      by (Some index) at =
          settled_completed rank number rs e n settled index (record { from = received.from; tag = received.tag; call = k }) (pending_there request index rs at) (not_completed k rs before)

  what_settled : (m : RankMessages) (k : ℕ) (line : LineNo) (request : Option ℕ) (what : What) → AreBefore k m.receives → IsSettled rank number m.receives e n → IsSettled rank number (with_what m k line request what).receives e n
  what_settled m k line request (Sync (Message (Send to tag comm))) before settled = settled
  what_settled m k line request (Sync (Message (Isend to tag comm))) before settled = settled
  what_settled m k line request (Sync (Message (Recv from tag comm))) before settled = settled_posted rank number m.receives e n settled (posted comm line None (Some (record { from = from; tag = tag; call = k })))
  what_settled m k line request (Sync (Message (Irecv comm))) before settled = settled_posted rank number m.receives e n settled (posted comm line request None)
  what_settled m k line request (Sync (Message (Wait received))) before settled = waited_settled request received k m.receives before settled
  what_settled m k line request (Sync (Frame call)) before settled = settled
  what_settled m k line request (Sync (Window call)) before settled = settled
  what_settled m k line request (Sync (Epoch call)) before settled = settled
  what_settled m k line request (Sync (Moving call)) before settled = settled
  what_settled m k line request (Rma call) before settled = settled
  what_settled m k line request (Local call) before settled = settled

  calls_settled : (m : RankMessages) (k : ℕ) (calls : List Call) → AreBefore k m.receives → IsSettled rank number m.receives e n → IsSettled rank number (with_calls m k calls).receives e n
  calls_settled m k [] before settled = settled
  calls_settled m k (call ∷ calls) before settled =
      calls_settled (with_call m k call) (k + 1) calls (what_before m k call.line call.request call.what before) (what_settled m k call.line call.request call.what before settled)

module _ (p : End → Bool) (n : ℕ) (s : End) where
  sent_more : (sends : List End) (e : End) → slice_get (filter p sends) n ≡ Some s → slice_get (filter p (sends ++ e ∷ [])) n ≡ Some s
  sent_more sends e at = ap (λ l. slice_get l n) (filter-append p sends (e ∷ [])) ∙ get_before (filter p sends) (filter p (e ∷ [])) n (slice_get_within (filter p sends) n s at) ∙ at

  what_sent : (m : RankMessages) (k : ℕ) (line : LineNo) (request : Option ℕ) (what : What) → slice_get (filter p m.sends) n ≡ Some s → slice_get (filter p (with_what m k line request what).sends) n ≡ Some s
  what_sent m k line request (Sync (Message (Send to tag comm))) at = sent_more m.sends (sent_end m.rank k line to tag comm) at
  what_sent m k line request (Sync (Message (Isend to tag comm))) at = sent_more m.sends (sent_end m.rank k line to tag comm) at
  what_sent m k line request (Sync (Message (Recv from tag comm))) at = at
  what_sent m k line request (Sync (Message (Irecv comm))) at = at
  what_sent m k line request (Sync (Message (Wait received))) at = at
  what_sent m k line request (Sync (Frame call)) at = at
  what_sent m k line request (Sync (Window call)) at = at
  what_sent m k line request (Sync (Epoch call)) at = at
  what_sent m k line request (Sync (Moving call)) at = at
  what_sent m k line request (Rma call) at = at
  what_sent m k line request (Local call) at = at

  calls_sent : (m : RankMessages) (k : ℕ) (calls : List Call) → slice_get (filter p m.sends) n ≡ Some s → slice_get (filter p (with_calls m k calls).sends) n ≡ Some s
  calls_sent m k [] at = at
  calls_sent m k (call ∷ calls) at = calls_sent (with_call m k call) (k + 1) calls (what_sent m k call.line call.request call.what at)

-- the calls, and then more
calls_append : (m : RankMessages) (k : ℕ) (calls more : List Call) → with_calls m k (calls ++ more) ≡ with_calls (with_calls m k calls) (k + length calls) more
calls_append m k [] more = ap (λ i. with_calls m i more) (let e : k ≡ k + 0 = omega arith in e)
calls_append m k (call ∷ calls) more =
    calls_append (with_call m k call) (k + 1) calls more
    ∙ ap (λ i. with_calls (with_calls (with_call m k call) (k + 1) calls) i more) (let e : k + 1 + length calls ≡ k + suc (length calls) = omega arith in e)

-- ---- the run

module _ (calls : ℕ → List Call) (other : ℕ) (more : List Call) where
  abbrev later : ℕ → List Call
  later = with_more calls other more

  -- the messages of a rank with what may come
  later_messages : (rank : ℕ) (P : RankMessages → Type 0) → P (messages_at calls rank) → ((own : List Call) → P (with_calls (messages_at calls rank) (0 + length (calls rank)) own)) → P (messages_at later rank)
  later_messages rank P now then_more = by (nat_eq other rank)
    where
      by : (b : Bool) → P (with_calls (no_messages (record { 0 = rank })) 0 (cond b (calls rank ++ more) (calls rank)))
      by true = subst P (sym (calls_append (no_messages (record { 0 = rank })) 0 (calls rank) more)) (then_more more)
      by false = now

  -- a source that is known stays
  pub source_stays : (rank number : ℕ) (point : Point) → source_of calls rank number ≡ From point → source_of later rank number ≡ From point
  source_stays rank number point is =
      let rs = (messages_at calls rank).receives in
      let from : IsFrom calls rank number rs point = known calls rank number rs point is in
      let e = from.end in
      let n = count_by (has_key e.key) (filter_map (end_of (record { 0 = rank })) (take from.index rs)) in
      let settled : IsSettled rank number rs e n =
      record { index = from.index; receive = from.receive; found = from.found; there = from.there; complete = from.complete; is_end = from.is_end; count = refl } in
      let before : AreBefore (0 + length (calls rank)) rs = receives_before calls rank (0 + length (calls rank)) (omega arith) in
      let stays : IsSettled rank number (messages_at later rank).receives e n =
      later_messages rank (λ m. IsSettled rank number m.receives e n) settled (λ own. calls_settled rank number e n (messages_at calls rank) (0 + length (calls rank)) own before settled) in
      let sender = e.key.from.0 in
      let sent : slice_get (filter (has_key e.key) (messages_at later sender).sends) n ≡ Some from.send =
      later_messages sender (λ m. slice_get (filter (has_key e.key) m.sends) n ≡ Some from.send) from.matched
      (λ own. calls_sent (has_key e.key) n from.send (messages_at calls sender) (0 + length (calls sender)) own from.matched) in
      source_is later rank number (messages_at later rank).receives stays.index stays.receive e from.send stays.found stays.there stays.complete stays.is_end
      (ap (slice_get (filter (has_key e.key) (messages_at later sender).sends)) stays.count ∙ sent)
      ∙ ap From from.is_point
