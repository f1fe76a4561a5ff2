-- The sends of a run in the queues of their keys.
use Rattle.std.proofs.Common.{◌≡◌, ◌<◌, ℕ, ◌+◌, false, cond, List, [], ◌∷◌, ◌++◌, length, take, get_or, slice_get, position, is_some, Option, Some, None, refl, sym, ap, subst, ◌∙◌, append_assoc}
use Rattle.std.specs.Prelude.{IfSome}
use Rattle.std.specs.Map.{keys_of}
use Rattle.std.proofs.lemmas.List.{map-append}
use Rattle.std.proofs.lemmas.List.Quantifiers.{position-Some}
use Rattle.std.proofs.lemmas.Option.{slice_get-get_or}
use Rattle.std.specs.declared.collections.VecDeque.{VecDeque}
use Rattle.indexmap.specs.IndexMap.{IndexMap, keys, get, insert_entry}
use Rattle.indexmap.proofs.CallerLemmas.{insert_entry-new}
use Rattle.rma_base.specs.declared.rank.Rank.{Rank}
use Rattle.rma_call.specs.Call.{Call, RankCalls}
use Rattle.rma_call.specs.declared.what.What.{What}
use Rattle.rma_message.specs.declared.key.Key.{Key}
use Rattle.rma_message.specs.declared.end.End.{End}
use Rattle.rma_message.specs.Key.{same_key}
use Rattle.rma_message.specs.RankMessages.{RankMessages, no_messages, with_call, with_calls, messages_by}
use Rattle.rma_message.specs.Messages.{messages_of}
use Rattle.rma_message.specs.inside.Queue.{AreLeft, queue_of}
use Rattle.rma_message.specs.inside.Matched.{AreSendPlaces, IsSendPlace, StayThere, own_end}
use Rattle.rma_message.proofs.ListLemmas.{in_push}
use Rattle.rma_message.proofs.MatchLemmas.{pushed_end, same_key_true}
use Rattle.rma_message.proofs.NumberLemmas.{calls_whole}
use Rattle.rma_message.proofs.RunLemmas.{with_next_call, messages_more}

-- ---- the places of keys

-- the key at the place that is found
pub found_at : (ks : List Key) (key : Key) (place : ℕ) → Some place ≡ position (same_key key) ks → slice_get ks place ≡ Some key
found_at ks key place is =
    let at = position-Some (same_key key) ks place key (sym is) in
    slice_get-get_or ks place key at.0 ∙ ap Some (sym (same_key_true key (get_or ks place key) at.1))

-- the same where there may be none
pub found_place : (ks : List Key) (key other : Key) (found : Option ℕ) → found ≡ position (same_key key) ks → key ≡ other → IfSome found (λ place. slice_get ks place ≡ Some other)
found_place ks key other None is same = tt
found_place ks key other (Some place) is same = found_at ks key place is ∙ ap Some same

pub no_entry : {X : Type 0} (o : Option X) → is_some o ≡ false → o ≡ None
no_entry None none = refl
no_entry (Some x) none = absurd (cc)

-- a new key goes last
pub key_added : {X S : Type 0} (m : IndexMap Key X S) (key : Key) (own : X) (new : List (Key × X)) → is_some (get same_key m key) ≡ false → new ≡ insert_entry same_key m.entries key own → keys_of new ≡ keys m ++ key ∷ []
key_added m key own new none is = ap keys_of (is ∙ insert_entry-new same_key m key own (no_entry (get same_key m key) none)) ∙ map-append (λ e. e.0) m.entries ((key, own) ∷ [])

module _ (rank : Rank) where
  -- a place stays that of the sends that do this
  IsSendPlace_stays : (old new : List Key) (what : What) (place : Option ℕ) → StayThere old new → IsSendPlace rank old what place → IsSendPlace rank new what place
  IsSendPlace_stays old new what None stay none = none
  IsSendPlace_stays old new what (Some place) stay (key, at, are) = (key, stay place key at, are)

  -- the places with one more
  pub AreSendPlaces_more : (old new : List Key) (whats : List What) (places : List (Option ℕ)) (what : What) (place : Option ℕ) → StayThere old new →
      slice_get whats (length places) ≡ Some what → IsSendPlace rank new what place → AreSendPlaces rank old whats places → AreSendPlaces rank new whats (places ++ place ∷ [])
  AreSendPlaces_more old new whats places what place stay there is are number other found at in_places =
      in_push (IsSendPlace rank new other found) places place found number in_places
      (λ before. IsSendPlace_stays old new other found stay (are number other found at before))
      (λ last same. let one : what ≡ other = (let here = ap (slice_get whats) last in cc) in subst (λ p. IsSendPlace rank new other p) same (subst (λ w. IsSendPlace rank new w place) one is))

  -- ---- the calls of a rank

  abbrev after : List Call → RankMessages
  after calls = with_calls (no_messages rank) 0 calls

  -- one more call that is no send, or one more send in the queue of its key
  pub sent_more : {A : Type 0} (old new : List (Key × VecDeque ℕ A)) (before : List End) (calls : List Call) (i : ℕ) (call : Call) (place : Option ℕ) → slice_get calls i ≡ Some call
      → IsSendPlace rank (keys_of old) call.what place
      → (place ≡ None → (key : Key) → queue_of new key ≡ queue_of old key)
      → ((index : ℕ) (own : Key) → place ≡ Some index → slice_get (keys_of old) index ≡ Some own → (key : Key) → queue_of new key ≡ cond (same_key own key) (queue_of old own ++ i ∷ []) (queue_of old key))
      → AreLeft (before ++ (after (take i calls)).sends) [] old → AreLeft (before ++ (after (take (i + 1) calls)).sends) [] new
  sent_more {A} old new before calls i call place there is none some left = subst (λ m. AreLeft (before ++ m.sends) [] new) (with_next_call (no_messages rank) calls i call there) (by place is none some)
    where
      m : RankMessages
      m = after (take i calls)

      by : (p : Option ℕ) → IsSendPlace rank (keys_of old) call.what p → (p ≡ None → (key : Key) → queue_of new key ≡ queue_of old key)
          → ((index : ℕ) (own : Key) → p ≡ Some index → slice_get (keys_of old) index ≡ Some own → (key : Key) → queue_of new key ≡ cond (same_key own key) (queue_of old own ++ i ∷ []) (queue_of old key))
          → AreLeft (before ++ (with_call m i call).sends) [] new
      by None nothing same step = subst (λ sends. AreLeft (before ++ sends) [] new) (sym (nothing m i call.line call.request)) (λ key. same refl key ∙ left key)
      by (Some index) (own, at, are) same step =
          let e = own_end rank own i call.line in
          let sends : (with_call m i call).sends ≡ m.sends ++ e ∷ [] = ap (λ (x : RankMessages). (with_call x i call).sends) (calls_whole rank (take i calls)) ∙ are m.sends m.receives i call.line call.request in
          subst (λ es. AreLeft es [] new) (append_assoc before m.sends (e ∷ []) ∙ ap (λ es. before ++ es) (sym sends)) (pushed_end old new (before ++ m.sends) e left (step index own refl at))

-- the sends of one more rank
pub sends_more : (ranks : List RankCalls) (i : ℕ) (own : RankCalls) → i < length ranks → own ≡ get_or ranks i own →
    (messages_of (take i ranks)).sends ++ (messages_by own).sends ≡ (messages_of (take (i + 1) ranks)).sends
sends_more ranks i own lt is = ap (λ m. m.sends) (messages_more ranks i own lt is)
