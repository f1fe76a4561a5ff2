-- Ends of which each has a match.
use Rattle.std.proofs.Common.{◌≡◌, ℕ, zero, suc, ◌+◌, ◌<◌, Bool, true, false, cond, List, [], ◌∷◌, ◌++◌, length, take, drop, Option, Some, None, slice_get, refl, sym, ap, subst, ◌∙◌, arith, append-nil}
use Rattle.std.specs.Prelude.{map, filter, count_by, option_map, Contains, All}
use Rattle.std.specs.List.{cons_option, filter_map}
use Rattle.std.specs.Map.{lookup, keys_of}
use Rattle.std.specs.Option.{option_map_or}
use Rattle.std.specs.declared.collections.VecDeque.{VecDeque}
use Rattle.std.proofs.lemmas.Bool.{false≢true}
use Rattle.std.proofs.lemmas.Map.Views.{Contains-from_lookup}
use Rattle.std.proofs.lemmas.Option.{slice_get_within, get_or_from_slice_get}
use Rattle.rma_base.specs.Limits.{fed_limit}
use Rattle.rma_base.specs.declared.rank.Rank.{Rank}
use Rattle.rma_base.specs.declared.match_reason.MatchReason.{MatchReason}
use Rattle.rma_base.specs.declared.match_reason.MatchReason.TheVariants.{SendUnreceived, ReceiveUnsent}
use Rattle.rma_call.specs.Call.{RankCalls}
use Rattle.rma_call.specs.declared.what.What.{What}
use Rattle.rma_call.specs.declared.match_fault.MatchFault.{MatchFault}
use Rattle.rma_link.specs.declared.edge.Edge.{Edge}
use Rattle.rma_link.specs.Point.{entry, return_of}
use Rattle.rma_message.specs.declared.key.Key.{Key}
use Rattle.rma_message.specs.declared.end.End.{End}
use Rattle.rma_message.specs.declared.receive.Receive.{Receive}
use Rattle.rma_message.specs.declared.posted.Posted.{Posted}
use Rattle.rma_message.specs.declared.posted.Posted.TheVariants.{Open, Done}
use Rattle.rma_message.specs.Key.{same_key, has_key}
use Rattle.rma_message.specs.Receive.{end_of}
use Rattle.rma_message.specs.RankMessages.{messages_by}
use Rattle.rma_message.specs.Messages.{Messages, message_faults, messages_of}
use Rattle.rma_message.specs.Matching.{IsNumbered, IsUnmatched, edge_between, edge_of, fault_of, partner, unmatched, walked}
use Rattle.rma_message.specs.inside.Queue.{calls_of, queue_of}
use Rattle.rma_message.specs.inside.Matched.{AreMatched, ArePosted, IsDone, IsPosted}
use Rattle.rma_message.proofs.ListLemmas.{count_cons, some_at}
use Rattle.rma_message.proofs.MatchLemmas.{edge_is, first_left, found_numbered, no_fault, popped_end, same_key_true, walked_push}
use Rattle.rma_message.proofs.NumberLemmas.{calls_rank}
use Rattle.rma_message.proofs.NumberedLemmas.{fault_by_number}
use Rattle.rma_message.proofs.RunLemmas.{filter_map_more, messages_more}

-- an element of a list that is left behind is one of so many
left_behind : {X Y : Type 0} (f : X → Y) (xs : List X) (n i : ℕ) (x : X) → drop n (map f xs) ≡ [] → slice_get xs i ≡ Some x → i < n
left_behind f [] n i x none at = absurd (cc)
left_behind f (y ∷ ys) zero i x none at = absurd (cc)
left_behind f (y ∷ ys) (suc n) zero x none at = omega arith
left_behind f (y ∷ ys) (suc n) (suc i) x none at =
    let lt = left_behind f ys n i x none at in
    omega arith

-- of so many elements that pass each is there
there_are : (p : End → Bool) (es : List End) (i : ℕ) → i < count_by p es → slice_get (filter p es) i ≡ None → ⊥
there_are p [] i lt none = omega arith
there_are p (e ∷ es) i lt none = by (p e) i (subst (λ n. i < n) (count_cons p e es) lt) none (there_are p es)
  where
    by : (b : Bool) (k : ℕ) → k < cond b (suc (count_by p es)) (count_by p es) → slice_get (cond b (e ∷ filter p es) (filter p es)) k ≡ None
        → ((j : ℕ) → j < count_by p es → slice_get (filter p es) j ≡ None → ⊥) → ⊥
    by true zero less absent rest = cc
    by true (suc k) less absent rest = rest k (omega arith) absent
    by false k less absent rest = rest k less absent

-- where the others take all ends of each key, each end has a match
pub none_unmatched : (reason : MatchReason) (others own : List End) → ((key : Key) → drop (count_by (has_key key) others) (calls_of key own) ≡ []) → unmatched reason others own ≡ []
none_unmatched reason others own taken = by (unmatched reason others own) refl
  where
    by : (faults : List MatchFault) → unmatched reason others own ≡ faults → faults ≡ []
    by [] is = refl
    by (fault ∷ faults) is =
        let one : IsUnmatched reason others own fault = fault_by_number reason others own fault (subst (λ fs. Contains fs fault) (sym is) (0, omega arith, refl)) in
        let lt = left_behind (λ (e : End). e.call) (filter (has_key one.key) own) (count_by (has_key one.key) others) one.number one.end (taken one.key) one.is_own in
        absurd (there_are (has_key one.key) others one.number lt one.is_alone)

-- a list without a first element
pub no_first : (xs : List ℕ) (some : Bool) → (0 < length xs → some ≡ true) → some ≡ false → xs ≡ []
no_first [] some is none = refl
no_first (x ∷ xs) some is none = absurd (false≢true (sym none ∙ is (omega arith)))

-- queues that are all empty
pub queues_empty : {A : Type 0} (queues : List (Key × VecDeque ℕ A)) → All (λ e. e.1.items ≡ []) queues → (key : Key) → queue_of queues key ≡ []
queues_empty {A} queues all key = by (lookup (same_key key) queues) refl
  where
    by : (o : Option (VecDeque ℕ A)) → lookup (same_key key) queues ≡ o → option_map_or (λ (q : VecDeque ℕ A). q.items) o [] ≡ []
    by None is = refl
    by (Some q) is =
        let (k, lt, at) = Contains-from_lookup {eq = same_key} same_key_true key q queues is in
        subst (λ e. e.1.items ≡ []) at (all k (key, q) lt)

-- ---- messages one after the other

module _ {A : Type 0} (sends received : List End) (edges : List Edge) (old : List (Key × VecDeque ℕ A)) (matched : AreMatched sends received edges old) (e : End) (send : ℕ) (first : Some send ≡ slice_get (queue_of old e.key) 0) where
  found : Some send ≡ option_map (λ (x : End). x.call) (partner sends received e)
  found = first ∙ first_left old sends received e matched.left

  -- one more receive takes its send
  pub matched_more : (new : List (Key × VecDeque ℕ A)) → ((key : Key) → queue_of new key ≡ cond (same_key e.key key) (drop 1 (queue_of old e.key)) (queue_of old key))
      → AreMatched sends (received ++ e ∷ []) (edges ++ edge_between send e ∷ []) new
  matched_more new step = record {
    edges_are =
        ap (λ es. es ++ edge_between send e ∷ []) matched.edges_are
        ∙ ap (λ o. walked (edge_of sends) [] received ++ cons_option o []) (sym (edge_is sends received e (Some send) found))
        ∙ sym (walked_push (edge_of sends) [] received e);
    left = popped_end old new sends received e matched.left step;
    sent = λ reason.
        walked_push (fault_of reason sends) [] received e
        ∙ ap (λ o. walked (fault_of reason sends) [] received ++ cons_option o []) (no_fault sends received e (Some send) found reason refl)
        ∙ append-nil (walked (fault_of reason sends) [] received)
        ∙ matched.sent reason;
  }

  -- the number of the send is one that a call may have
  pub send_below : All IsNumbered sends → send < fed_limit
  send_below all = found_numbered sends received e (Some send) found all send refl

-- ---- the receives of a rank

-- what is not complete is open
pub not_done : (p : Posted) → ((place : ℕ) (from : Rank) (call : ℕ) → p ≡ Done place from call → ⊥) → (what : ℕ) × (p ≡ Open what)
not_done (Open what) other = (what, refl)
not_done (Done place from call) other = absurd (other place from call refl)

module _ (sends before : List End) (rank : Rank) (keys : List Key) (whats : List What) (rs : List Receive) (ps : List Posted) (posted : ArePosted rank keys whats rs ps) (j : ℕ) where
  abbrev so_far : ℕ → List End
  so_far n = before ++ filter_map (end_of rank) (take n rs)

  next : (r : Receive) → slice_get rs j ≡ Some r → so_far j ++ cons_option (end_of rank r) [] ≡ so_far (j + 1)
  next r at = filter_map_more (end_of rank) rs j r before (slice_get_within rs j r at) (sym (get_or_from_slice_get rs j r r at))

  abbrev IsAt : Posted → Type 0
  IsAt p = (r : Receive) × (slice_get rs j ≡ Some r) × IsPosted rank keys whats p r

  receive_at : (p : Posted) → slice_get ps j ≡ Some p → IsAt p
  receive_at p at =
      let within = slice_get_within ps j p at in
      let len = posted.len in
      let one = some_at rs j (omega arith) in
      (one.0, one.1, posted.each j p one.0 at one.1)

  -- one that is not complete is no end
  pub open_skipped : {A : Type 0} (what : ℕ) (edges : List Edge) (queues : List (Key × VecDeque ℕ A)) → slice_get ps j ≡ Some (Open what) → AreMatched sends (so_far j) edges queues → AreMatched sends (so_far (j + 1)) edges queues
  open_skipped what edges queues at matched =
      let (r, there, is) = receive_at (Open what) at in
      let none : None ≡ end_of rank r = sym (ap (λ completion. end_of rank (record r { completion = completion })) is.is_incomplete) in
      subst (λ es. AreMatched sends es edges queues) (sym (append-nil (so_far j)) ∙ ap (λ o. so_far j ++ cons_option o []) none ∙ next r there) matched

  module _ (place call : ℕ) (from : Rank) (at : slice_get ps j ≡ Some (Done place from call)) where
    abbrev r : Receive
    r = (receive_at (Done place from call) at).0

    abbrev done : IsDone rank keys place from call r
    done = (receive_at (Done place from call) at).2

    -- the call that completes it has a number that a call may have
    pub call_below : call < fed_limit
    call_below = done.below

    module _ {A : Type 0} (edges : List Edge) (old : List (Key × VecDeque ℕ A)) (send : ℕ) (keys_are : keys_of old ≡ keys)
        (first : (own : Key) → slice_get (keys_of old) place ≡ Some own → Some send ≡ slice_get (queue_of old own) 0) (matched : AreMatched sends (so_far j) edges old) where
      key_at : slice_get (keys_of old) place ≡ Some done.end.key
      key_at = ap (λ ks. slice_get ks place) keys_are ∙ done.is_place

      -- so has the send that it takes
      pub done_send_below : All IsNumbered sends → send < fed_limit
      done_send_below all = send_below sends (so_far j) edges old matched done.end send (first done.end.key key_at) all

      pub done_matched : (new : List (Key × VecDeque ℕ A)) (edge : Edge)
          → ((own : Key) → slice_get (keys_of old) place ≡ Some own → (key : Key) → queue_of new key ≡ cond (same_key own key) (drop 1 (queue_of old own)) (queue_of old key))
          → edge ≡ record { from = entry from send; to = return_of rank call } → AreMatched sends (so_far (j + 1)) (edges ++ edge ∷ []) new
      done_matched new edge rest is =
          let e = done.end in
          let own : edge ≡ edge_between send e =
          is
          ∙ ap (λ x. record { from = entry x send; to = return_of rank call }) (sym done.is_from)
          ∙ ap (λ x. record { from = entry e.key.from send; to = return_of x call }) (sym done.is_rank)
          ∙ ap (λ x. record { from = entry e.key.from send; to = return_of e.rank x }) (sym done.is_call) in
          let ends : so_far j ++ e ∷ [] ≡ so_far (j + 1) = ap (λ o. so_far j ++ cons_option o []) (sym done.is_end) ∙ next r (receive_at (Done place from call) at).1 in
          subst (λ es. AreMatched sends es (edges ++ edge ∷ []) new) ends
          (subst (λ x. AreMatched sends (so_far j ++ e ∷ []) (edges ++ x ∷ []) new) (sym own) (matched_more sends (so_far j) edges old matched e send (first e.key key_at) new (rest e.key key_at)))

-- the receives of one more rank
pub receives_joined : (ranks : List RankCalls) (index : ℕ) (own : RankCalls) → slice_get ranks index ≡ Some own
    → (messages_of (take index ranks)).receives ++ filter_map (end_of own.rank) (messages_by own).receives ≡ (messages_of (take (index + 1) ranks)).receives
receives_joined ranks index own at =
    ap (λ rank. (messages_of (take index ranks)).receives ++ filter_map (end_of rank) (messages_by own).receives) (sym (calls_rank own.rank own.calls))
    ∙ ap (λ (m : Messages). m.receives) (messages_more ranks index own (slice_get_within ranks index own at) (sym (get_or_from_slice_get ranks index own own at)))

-- ---- all messages

module _ {A : Type 0} (ranks : List RankCalls) (edges : List Edge) (queues : List (Key × VecDeque ℕ A)) (matched : AreMatched (messages_of ranks).sends (messages_of ranks).receives edges queues) where
  -- where no send is left there are no faults
  pub no_faults : ((key : Key) → queue_of queues key ≡ []) → message_faults ranks ≡ []
  no_faults empty =
      ap (λ fs. fs ++ unmatched ReceiveUnsent (messages_of ranks).sends (messages_of ranks).receives)
      (none_unmatched SendUnreceived (messages_of ranks).receives (messages_of ranks).sends (λ key. sym (matched.left key) ∙ empty key))
      ∙ matched.sent ReceiveUnsent
