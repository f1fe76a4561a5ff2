-- The edges of a run that the sources of its messages are.
use Rattle.std.proofs.Common.{◌≡◌, ℕ, zero, suc, ◌+◌, ◌<◌, Bool, true, false, cond, List, [], ◌∷◌, ◌++◌, length, take, Option, Some, None, slice_get, eqb, append-nil, refl, sym, ap, ◌∙◌, arith, ◌*◌}
use Rattle.std.specs.Prelude.{All, Contains, filter, count_by, option_map}
use Rattle.std.specs.List.{filter_map, flat_map, list_all, cons_option}
use Rattle.std.specs.Option.{option_map_or}
use Rattle.std.proofs.lemmas.Bool.{eqb-true, eq-eqb, false≢true}
use Rattle.std.proofs.lemmas.List.Elements.{All-head, All-tail, All-contains, filter-append}
use Rattle.std.proofs.lemmas.Option.{same_Some, slice_get_read, slice_get_within, get_or_from_slice_get}
use Rattle.rma_base.specs.declared.rank.Rank.{Rank}
use Rattle.rma_base.specs.declared.point.Point.{Point}
use Rattle.rma_call.specs.Call.{RankCalls}
use Rattle.rma_link.specs.declared.edge.Edge.{Edge}
use Rattle.rma_link.specs.Point.{entry, return_of}
use Rattle.rma_run.specs.Run.{AreInOrder, calls_of}
use Rattle.rma_run.proofs.CallLemmas.{calls_are_own}
use Rattle.rma_run.proofs.ContainLemmas.{in_flat_map}
use Rattle.rma_message.proofs.KnownLemmas.{IsFrom, known, source_is}
use Rattle.rma_message.proofs.FoundLemmas.{receives_are_found}
use Rattle.rma_message.specs.declared.key.Key.{Key}
use Rattle.rma_message.specs.declared.end.End.{End}
use Rattle.rma_message.specs.declared.receive.Receive.{Receive}
use Rattle.rma_message.specs.declared.receive.Completion.{Completion}
use Rattle.rma_message.specs.declared.source.MessageSource.TheVariants.{NoReceive, From}
use Rattle.rma_message.specs.Key.{has_key}
use Rattle.rma_message.specs.Receive.{end_of}
use Rattle.rma_message.specs.RankMessages.{RankMessages, no_messages, with_calls, messages_by}
use Rattle.rma_message.specs.Matching.{partner}
use Rattle.rma_message.specs.Messages.{IsMessageEdge, messages_of, message_edges, receives_in}
use Rattle.rma_message.specs.Source.{messages_at, completed_at, completes, is_complete, is_on, source_at, source_of}
use Rattle.rma_message.proofs.MatchLemmas.{same_key_true, same_key_refl}
use Rattle.rma_message.proofs.NumberLemmas.{calls_rank, sends_from, receives_to, receives_by}
use Rattle.rma_message.proofs.NumberedLemmas.{IsNumber, of_number, edge_by_number, edge_of_number}
use Rattle.rma_message.proofs.SourceLemmas.{own_end}
use Rattle.rma_message.proofs.ListLemmas.{both, count_cons}

-- ---- the ends of one rank among those of all

-- the i-th log from this rank on is that of rank i
abbrev AreFrom : ℕ → List RankCalls → Type 0
AreFrom n ranks = (i : ℕ) (r : RankCalls) → slice_get ranks i ≡ Some r → r.rank.0 ≡ n + i

next_from : (n : ℕ) (r : RankCalls) (ranks : List RankCalls) → AreFrom n (r ∷ ranks) → AreFrom (n + 1) ranks
next_from n r ranks from i x at = let e : x.rank.0 ≡ n + suc i = from (suc i) x at in omega arith

module _ (f : RankCalls → List End) (p : End → Bool) (rank : ℕ) (others : (r : RankCalls) → (r.rank.0 ≡ rank → ⊥) → filter p (f r) ≡ []) where
  none_after : (n : ℕ) (ranks : List RankCalls) → AreFrom n ranks → rank < n → filter p (flat_map f ranks) ≡ []
  none_after n [] from lt = refl
  none_after n (r ∷ ranks) from lt =
      filter-append p (f r) (flat_map f ranks)
      ∙ ap (λ l. l ++ filter p (flat_map f ranks)) (others r (λ is. let at : r.rank.0 ≡ n + 0 = from 0 r refl in omega arith))
      ∙ none_after (n + 1) ranks (next_from n r ranks from) (omega arith)

  own_among : (j n : ℕ) (ranks : List RankCalls) → AreFrom n ranks → rank ≡ n + j → filter p (flat_map f ranks) ≡ option_map_or (λ r. filter p (f r)) (slice_get ranks j) []
  own_among j n [] from is = refl
  own_among zero n (r ∷ ranks) from is =
      filter-append p (f r) (flat_map f ranks)
      ∙ ap (λ l. filter p (f r) ++ l) (none_after (n + 1) ranks (next_from n r ranks from) (omega arith))
      ∙ append-nil (filter p (f r))
  own_among (suc j) n (r ∷ ranks) from is =
      filter-append p (f r) (flat_map f ranks)
      ∙ ap (λ l. l ++ filter p (flat_map f ranks)) (others r (λ same. let at : r.rank.0 ≡ n + 0 = from 0 r refl in omega arith))
      ∙ own_among j (n + 1) ranks (next_from n r ranks from) (omega arith)

  -- the ends of a rank are those of all that pass
  ends_of_rank : (ranks : List RankCalls) → AreInOrder ranks → filter p (flat_map f ranks) ≡ option_map_or (λ r. filter p (f r)) (slice_get ranks rank) []
  ends_of_rank ranks in_order = own_among rank 0 ranks (λ i r at. let e : r.rank.0 ≡ i = in_order i r at in omega arith) (omega arith)

-- none of the ends passes
filter_none : (P : End → Type 0) (p : End → Bool) (es : List End) → ((e : End) → P e → p e ≡ false) → All P es → filter p es ≡ []
filter_none P p [] fails all = refl
filter_none P p (e ∷ es) fails all = rw (fails e (All-head P e es all), filter_none P p es fails (All-tail P e es all)) refl

-- an end of another key
other_key : (key : Key) (e : End) → (e.key ≡ key → ⊥) → has_key key e ≡ false
other_key key e differ = by (has_key key e) refl
  where
    by : (b : Bool) → has_key key e ≡ b → b ≡ false
    by true h = absurd (differ (same_key_true e.key key h))
    by false h = refl

-- the sends of a key are those of the rank that sends them
sends_of_key : (ranks : List RankCalls) (key : Key) → AreInOrder ranks → filter (has_key key) (messages_of ranks).sends ≡ filter (has_key key) (messages_at (calls_of ranks) key.from.0).sends
sends_of_key ranks key in_order =
    ends_of_rank (λ r. (messages_by r).sends) (has_key key) key.from.0
    (λ r differ. filter_none (λ e. e.key.from ≡ r.rank) (has_key key) (messages_by r).sends
    (λ e from. other_key key e (λ same. differ (ap (λ (x : Rank). x.0) (sym from) ∙ ap (λ (k : Key). k.from.0) same)))
    (sends_from r))
    ranks in_order
    ∙ by (slice_get ranks key.from.0) refl
  where
    by : (o : Option RankCalls) → slice_get ranks key.from.0 ≡ o → option_map_or (λ (r : RankCalls). filter (has_key key) (messages_by r).sends) o []
        ≡ filter (has_key key) (with_calls (no_messages (record { 0 = key.from.0 })) 0 (option_map_or (λ (r : RankCalls). r.calls) o [])).sends
    by None at = refl
    by (Some r) at = ap (λ n. filter (has_key key) (with_calls (no_messages (record { 0 = n })) 0 r.calls).sends) (in_order key.from.0 r at)

-- the receives of a key are those of the rank that gets them
receives_of_key : (ranks : List RankCalls) (own : RankCalls) (key : Key) → AreInOrder ranks → slice_get ranks own.rank.0 ≡ Some own → key.to ≡ own.rank →
    filter (has_key key) (messages_of ranks).receives ≡ filter (has_key key) (receives_in (messages_by own))
receives_of_key ranks own key in_order there to =
    ends_of_rank (λ r. receives_in (messages_by r)) (has_key key) own.rank.0
    (λ r differ. filter_none (λ e. e.key.to ≡ r.rank) (has_key key) (receives_in (messages_by r))
    (λ e is. other_key key e (λ same. differ (ap (λ (x : Rank). x.0) (sym is) ∙ ap (λ (k : Key). k.to.0) same ∙ ap (λ (x : Rank). x.0) to)))
    (receives_to r))
    ranks in_order
    ∙ ap (λ o. option_map_or (λ (r : RankCalls). filter (has_key key) (receives_in (messages_by r))) o []) there

-- ---- the number of a receive

module _ (h : Receive → Option End) (p : End → Bool) where
  -- an end has as its number how many that pass come before it
  number_in : (rs : List Receive) (i : ℕ) (r : Receive) (e : End) → slice_get rs i ≡ Some r → h r ≡ Some e → p e ≡ true → slice_get (filter p (filter_map h rs)) (count_by p (filter_map h (take i rs))) ≡ Some e
  number_in [] i r e at is pass = cc
  number_in (x ∷ rs) zero r e at is pass =
      let own : h x ≡ Some e = ap h (same_Some x r at) ∙ is in
      rw (own, pass) refl
  number_in (x ∷ rs) (suc i) r e at is pass = by (h x) (number_in rs i r e at is pass)
    where
      step : (b : Bool) (y : End) → slice_get (filter p (filter_map h rs)) (count_by p (filter_map h (take i rs))) ≡ Some e
          → slice_get (cond b (y ∷ filter p (filter_map h rs)) (filter p (filter_map h rs))) (cond b (suc (count_by p (filter_map h (take i rs)))) (count_by p (filter_map h (take i rs)))) ≡ Some e
      step true y rest = rest
      step false y rest = rest

      by : (o : Option End) → slice_get (filter p (filter_map h rs)) (count_by p (filter_map h (take i rs))) ≡ Some e
          → slice_get (filter p (cons_option o (filter_map h rs))) (count_by p (cons_option o (filter_map h (take i rs)))) ≡ Some e
      by None rest = rest
      by (Some y) rest = ap (slice_get (filter p (y ∷ filter_map h rs))) (count_cons p y (filter_map h (take i rs))) ∙ step (p y) y rest

-- ---- the edge of a source

-- the receive that a call completes is completed by it
completed_by : (number i : ℕ) (rs : List Receive) (r : Receive) → completed_at number rs ≡ Some i → slice_get rs i ≡ Some r → completes number r ≡ true
completed_by number i [] r at there = cc
completed_by number i (x ∷ rs) r at there = by (completes number x) refl (completed_at number rs) i (λ j is at_j. completed_by number j rs r is at_j) at there
  where
    by : (b : Bool) → completes number x ≡ b → (o : Option ℕ) (k : ℕ) → ((j : ℕ) → o ≡ Some j → slice_get rs j ≡ Some r → completes number r ≡ true) → cond b (Some 0) (option_map suc o) ≡ Some k
        → slice_get (x ∷ rs) k ≡ Some r → completes number r ≡ true
    by true h o k rest is at_k =
        let first : 0 ≡ k = same_Some 0 k is in
        ap (completes number) (sym (same_Some x r (ap (slice_get (x ∷ rs)) first ∙ at_k))) ∙ h
    by false h None k rest is at_k = cc
    by false h (Some j) k rest is at_k =
        let next : suc j ≡ k = same_Some (suc j) k is in
        rest j refl (ap (slice_get (x ∷ rs)) next ∙ at_k)

-- the end of a receive that a call completes
record IsOwnEnd (rank number : ℕ) (e : End) : Type 0 where
  call_is : e.call ≡ number
  rank_is : e.rank ≡ record { 0 = rank }
  to_is : e.key.to ≡ record { 0 = rank }

own_end_is : (rank number : ℕ) (r : Receive) (e : End) → completes number r ≡ true → own_end rank r ≡ Some e → IsOwnEnd rank number e
own_end_is rank number r e done is = by r.completion done is
  where
    by : (completion : Option Completion) → option_map_or (λ (c : Completion). eqb c.call number) completion false ≡ true → own_end rank (record r { completion = completion }) ≡ Some e → IsOwnEnd rank number e
    by None done at = absurd (false≢true done)
    by (Some c) done at =
        let same : record { key = record { from = c.from; to = record { 0 = rank }; comm = r.comm; tag = c.tag }; rank = record { 0 = rank }; call = c.call; line = r.line } ≡ e =
        same_Some (record { key = record { from = c.from; to = record { 0 = rank }; comm = r.comm; tag = c.tag }; rank = record { 0 = rank }; call = c.call; line = r.line }) e at in
        record {
          call_is = ap (λ (x : End). x.call) (sym same) ∙ eqb-true c.call number done;
          rank_is = ap (λ (x : End). x.rank) (sym same);
          to_is = ap (λ (x : End). x.key.to) (sym same);
        }

-- the source of a message is the point that its edge leads from
pub source_is_edge : (ranks : List RankCalls) → AreInOrder ranks → (own : RankCalls) (number : ℕ) (point : Point) → Contains ranks own → source_of (calls_of ranks) own.rank.0 number ≡ From point →
    Contains (message_edges ranks) (record { from = point; to = return_of own.rank number })
source_is_edge ranks in_order own number point (k, lt, at) is =
    let calls = calls_of ranks in
    let there : slice_get ranks k ≡ Some own = slice_get_read ranks (length ranks) k own refl lt (sym at) in
    let its : slice_get ranks own.rank.0 ≡ Some own = ap (slice_get ranks) (in_order k own there) ∙ there in
    let m : RankMessages = messages_by own in
    let same : messages_at calls own.rank.0 ≡ m = ap (λ cs. with_calls (no_messages own.rank) 0 cs) (calls_are_own ranks own in_order (k, lt, at)) in
    let from : IsFrom calls own.rank.0 number m.receives point =
    known calls own.rank.0 number m.receives point (ap (λ (x : RankMessages). option_map_or (source_at calls own.rank.0 x.receives) (completed_at number x.receives) NoReceive) (sym same) ∙ is) in
    let e = from.end in
    let its_end : IsOwnEnd own.rank.0 number e = own_end_is own.rank.0 number from.receive e (completed_by number from.index m.receives from.receive from.found from.there) from.is_end in
    let before = filter_map (end_of own.rank) (take from.index m.receives) in
    let n = count_by (has_key e.key) before in
    let receive : slice_get (filter (has_key e.key) (messages_of ranks).receives) n ≡ Some e =
    ap (λ l. slice_get l n) (receives_of_key ranks own e.key in_order its its_end.to_is ∙ ap (λ r. filter (has_key e.key) (filter_map (end_of r) m.receives)) (calls_rank own.rank own.calls))
    ∙ number_in (end_of own.rank) (has_key e.key) m.receives from.index from.receive e from.there from.is_end (same_key_refl e.key) in
    let send : slice_get (filter (has_key e.key) (messages_of ranks).sends) n ≡ Some from.send = ap (λ l. slice_get l n) (sends_of_key ranks e.key in_order) ∙ from.matched in
    let edge : Edge = record { from = point; to = return_of own.rank number } in
    let is_edge : edge ≡ record { from = entry e.key.from from.send.call; to = return_of e.rank e.call } =
    ap (λ p. record { from = p; to = return_of own.rank number }) (sym from.is_point)
    ∙ ap (λ r. record { from = entry e.key.from from.send.call; to = return_of r number }) (sym its_end.rank_is)
    ∙ ap (λ c. record { from = entry e.key.from from.send.call; to = return_of e.rank c }) (sym its_end.call_is) in
    edge_of_number (messages_of ranks) edge (record { key = e.key; number = n; send = from.send; receive = e; is_send = send; is_receive = receive; is_edge = is_edge })

-- ---- the sources of edges

module _ (h : Receive → Option End) (p : End → Bool) where
  -- where the end of a number comes from
  record IsAt (rs : List Receive) (number : ℕ) (e : End) : Type 0 where
    index : ℕ
    receive : Receive
    there : slice_get rs index ≡ Some receive
    is_end : h receive ≡ Some e
    passes : p e ≡ true
    count : count_by p (filter_map h (take index rs)) ≡ number

  at_number : (rs : List Receive) (number : ℕ) (e : End) → slice_get (filter p (filter_map h rs)) number ≡ Some e → IsAt rs number e
  at_number [] number e at = cc
  at_number (x ∷ rs) number e at = by (h x) refl number at (at_number rs)
    where
      later : (o : Option End) → h x ≡ o → (n : ℕ) (found : IsAt rs n e) (m : ℕ) → count_by p (cons_option o (filter_map h (take found.index rs))) ≡ m → IsAt (x ∷ rs) m e
      later o is n found m counts = record {
        index = suc found.index;
        receive = found.receive;
        there = found.there;
        is_end = found.is_end;
        passes = found.passes;
        count = ap (λ (a : Option End). count_by p (cons_option a (filter_map h (take found.index rs)))) is ∙ counts;
      }

      one : (y : End) → h x ≡ Some y → (b : Bool) → p y ≡ b → (n : ℕ) → slice_get (cond b (y ∷ filter p (filter_map h rs)) (filter p (filter_map h rs))) n ≡ Some e
          → ((k : ℕ) (z : End) → slice_get (filter p (filter_map h rs)) k ≡ Some z → IsAt rs k z) → IsAt (x ∷ rs) n e
      one y is true pass zero at rest =
          let same : y ≡ e = same_Some y e at in
          record { index = 0; receive = x; there = refl; is_end = is ∙ ap Some same; passes = ap p (sym same) ∙ pass; count = refl }
      one y is true pass (suc n) at rest =
          let found : IsAt rs n e = rest n e at in
          later (Some y) is n found (suc n)
          (count_cons p y (filter_map h (take found.index rs)) ∙ ap (λ b. cond b (suc (count_by p (filter_map h (take found.index rs)))) (count_by p (filter_map h (take found.index rs)))) pass ∙ ap suc found.count)
      one y is false pass n at rest =
          let found : IsAt rs n e = rest n e at in
          later (Some y) is n found n
          (count_cons p y (filter_map h (take found.index rs)) ∙ ap (λ b. cond b (suc (count_by p (filter_map h (take found.index rs)))) (count_by p (filter_map h (take found.index rs)))) pass ∙ found.count)

      by : (o : Option End) → h x ≡ o → (n : ℕ) → slice_get (filter p (cons_option o (filter_map h rs))) n ≡ Some e → ((k : ℕ) (z : End) → slice_get (filter p (filter_map h rs)) k ≡ Some z → IsAt rs k z) → IsAt (x ∷ rs) n e
      by None is n at rest = let found : IsAt rs n e = rest n e at in later None is n found n found.count
      by (Some y) is n at rest = one y is (p y) refl n at rest

-- what holds of all holds of some of the first
all_before : (p q : Receive → Bool) (i : ℕ) (rs : List Receive) → list_all p rs ≡ true → list_all p (filter q (take i rs)) ≡ true
all_before p q zero rs all = refl
all_before p q (suc i) [] all = refl
all_before p q (suc i) (x ∷ rs) all =
    let halves = both (p x) (list_all p rs) all in
    by (q x) (all_before p q i rs halves.1) halves.0
  where
    by : (b : Bool) → list_all p (filter q (take i rs)) ≡ true → p x ≡ true → list_all p (cond b (x ∷ filter q (take i rs)) (filter q (take i rs))) ≡ true
    by true rest own = rw (own, rest) refl
    by false rest own = rest

-- a receive whose end has the number of a call is completed by it
end_completes : (rank number : ℕ) (r : Receive) (e : End) → own_end rank r ≡ Some e → e.call ≡ number → completes number r ≡ true
end_completes rank number r e is call = by r.completion is
  where
    by : (completion : Option Completion) → own_end rank (record r { completion = completion }) ≡ Some e → option_map_or (λ (c : Completion). eqb c.call number) completion false ≡ true
    by None at = cc
    by (Some c) at =
        eq-eqb c.call number
        (ap (λ (x : End). x.call) (same_Some (record { key = record { from = c.from; to = record { 0 = rank }; comm = r.comm; tag = c.tag }; rank = record { 0 = rank }; call = c.call; line = r.line }) e at) ∙ call)

-- the receive of a key goes to the rank that gets it
to_rank : (ranks : List RankCalls) (e : End) → Contains (messages_of ranks).receives e → e.key.to ≡ e.rank
to_rank ranks e has =
    let one = in_flat_map (λ (r : RankCalls). receives_in (messages_by r)) ranks e has in
    let r = one.0 in
    All-contains (λ (x : End). x.key.to ≡ r.rank) (receives_in (messages_by r)) e (receives_to r) one.2
    ∙ sym (All-contains (λ (x : End). x.rank ≡ r.rank) (receives_in (messages_by r)) e (receives_by r) one.2)

-- each edge leads from the source of its message, where the receives of the rank are complete
pub edge_has_source : (ranks : List RankCalls) → AreInOrder ranks → (own : RankCalls) (number : ℕ) (point : Point) → Contains ranks own → list_all is_complete (messages_by own).receives ≡ true →
    Contains (message_edges ranks) (record { from = point; to = return_of own.rank number }) → source_of (calls_of ranks) own.rank.0 number ≡ From point
edge_has_source ranks in_order own number point (k, lt, at) complete has =
    let calls = calls_of ranks in
    let edge : Edge = record { from = point; to = return_of own.rank number } in
    let is : IsMessageEdge (messages_of ranks) edge = edge_by_number (messages_of ranks) edge has in
    let e = is.receive in
    let p = has_key is.key in
    let h = end_of own.rank in
    let there : slice_get ranks k ≡ Some own = slice_get_read ranks (length ranks) k own refl lt (sym at) in
    let its : slice_get ranks own.rank.0 ≡ Some own = ap (slice_get ranks) (in_order k own there) ∙ there in
    let m : RankMessages = messages_by own in
    let same : messages_at calls own.rank.0 ≡ m = ap (λ cs. with_calls (no_messages own.rank) 0 cs) (calls_are_own ranks own in_order (k, lt, at)) in
    let among : IsNumber p (messages_of ranks).receives is.number e = of_number p (messages_of ranks).receives is.number e is.is_receive in
    let inside : among.index < length (messages_of ranks).receives = slice_get_within (messages_of ranks).receives among.index e among.there in
    let key : e.key ≡ is.key = same_key_true e.key is.key among.passes in
    let rank : own.rank ≡ e.rank = ap (λ (x : Edge). x.to.rank) is.is_edge in
    let call : e.call ≡ number = (let twice : 2 * number + 1 ≡ 2 * e.call + 1 = ap (λ (x : Edge). x.to.pos) is.is_edge in omega arith) in
    let to : is.key.to ≡ own.rank = ap (λ (x : Key). x.to) (sym key) ∙ to_rank ranks e (among.index, inside, get_or_from_slice_get (messages_of ranks).receives among.index e e among.there) ∙ sym rank in
    let numbered : slice_get (filter p (filter_map h m.receives)) is.number ≡ Some e =
    ap (λ l. slice_get l is.number) (ap (λ r. filter p (filter_map (end_of r) m.receives)) (sym (calls_rank own.rank own.calls)) ∙ sym (receives_of_key ranks own is.key in_order its to)) ∙ is.is_receive in
    let stands : IsAt h p m.receives is.number e = at_number h p m.receives is.number e numbered in
    let i = stands.index in
    let r = stands.receive in
    let found : completed_at number m.receives ≡ Some i = receives_are_found own number i r stands.there (end_completes own.rank.0 number r e stands.is_end call) in
    let matched : partner (messages_at calls e.key.from.0).sends (filter_map h (take i m.receives)) e ≡ Some is.send =
    ap (λ (x : Key). slice_get (filter (has_key x) (messages_at calls x.from.0).sends) (count_by (has_key x) (filter_map h (take i m.receives)))) key
    ∙ ap (slice_get (filter p (messages_at calls is.key.from.0).sends)) stands.count
    ∙ ap (λ l. slice_get l is.number) (sym (sends_of_key ranks is.key in_order))
    ∙ is.is_send in
    ap (λ (x : RankMessages). option_map_or (source_at calls own.rank.0 x.receives) (completed_at number x.receives) NoReceive) same
    ∙ source_is calls own.rank.0 number m.receives i r e is.send found stands.there (all_before is_complete (is_on r.comm) i m.receives complete) stands.is_end matched
    ∙ ap From (sym (ap (λ (x : Edge). x.from) is.is_edge))
