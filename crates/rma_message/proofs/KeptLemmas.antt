-- What is kept of the receives of a rank, as they are posted and completed.
use Rattle.std.proofs.Common.{◌≡◌, ℕ, ◌<◌, Bool, true, false, cond, List, [], ◌∷◌, ◌++◌, length, set, take, Option, Some, None, nat_eq, eqb, slice_get, append-nil, refl, sym, ap, subst, ◌∙◌}
use Rattle.std.specs.Prelude.{count_by}
use Rattle.std.specs.Map.{lookup}
use Rattle.std.specs.Option.{option_map_or, option_and_then}
use Rattle.std.specs.Cmp.Lexicographic.{pointwise, same_text}
use Rattle.std.proofs.lemmas.Bool.{eqb-true}
use Rattle.std.proofs.lemmas.Option.{same_Some, slice_get_within}
use Rattle.rma_message.specs.declared.key.Key.{Key}
use Rattle.rma_message.specs.declared.receive.Receive.{Receive}
use Rattle.rma_message.specs.declared.receive.Completion.{Completion}
use Rattle.rma_message.specs.declared.rank_receives.Place.{Place}
use Rattle.rma_message.specs.declared.rank_receives.RankReceives.{RankReceives}
use Rattle.rma_message.specs.Receive.{makes, is_open, open_at, complete_at}
use Rattle.rma_message.specs.Source.{completed_at, completes, is_on}
use Rattle.rma_message.specs.inside.Live.{key_at, key_of, keys_on, place_of, kept_on, AreBefore, AreReceives, IsOnComm}
use Rattle.rma_message.proofs.ReceiveLemmas.{open_at_within, open_at_other, open_at_own, open_at_completed, open_at_kept}
use Rattle.rma_message.proofs.PlaceLemmas.{keys_posted, places_before, place_last, completed_within, not_completed, completed_other, completed_own, place_complete, places_complete, done_key, keys_complete, keys_elsewhere, key_there, IsPending, pending_there, completed_elsewhere, completed_now}

-- ---- one more receive

module _ (rank : ℕ) (rs : List Receive) (r : Receive) (old new : RankReceives) (are : AreReceives rank rs old) where
  -- the communicators
  comms_posted : IsOnComm (keys_on rank r.comm rs ++ key_of rank r ∷ []) (kept_on new.comms.entries r.comm)
      → ((other : List ℕ) → pointwise nat_eq r.comm other ≡ false → kept_on new.comms.entries other ≡ kept_on old.comms.entries other)
      → (comm : List ℕ) → IsOnComm (keys_on rank comm (rs ++ r ∷ [])) (kept_on new.comms.entries comm)
  comms_posted own others comm = by (pointwise nat_eq r.comm comm) refl
    where
      by : (b : Bool) → pointwise nat_eq r.comm comm ≡ b → IsOnComm (keys_on rank comm (rs ++ r ∷ [])) (kept_on new.comms.entries comm)
      by true h =
          let here : keys_on rank r.comm (rs ++ r ∷ []) ≡ keys_on rank r.comm rs ++ key_of rank r ∷ [] =
          keys_posted rank r.comm rs r ∙ ap (λ b. keys_on rank r.comm rs ++ cond b (key_of rank r ∷ []) []) (subst (λ c. pointwise nat_eq r.comm c ≡ true) (sym (same_text r.comm comm (sym h))) h) in
          subst (λ c. IsOnComm (keys_on rank c (rs ++ r ∷ [])) (kept_on new.comms.entries c)) (same_text r.comm comm (sym h))
          (subst (λ keys. IsOnComm keys (kept_on new.comms.entries r.comm)) (sym here) own)
      by false h =
          let here : keys_on rank comm (rs ++ r ∷ []) ≡ keys_on rank comm rs =
          keys_posted rank comm rs r ∙ ap (λ b. keys_on rank comm rs ++ cond b (key_of rank r ∷ []) []) h ∙ append-nil (keys_on rank comm rs) in
          subst (λ keys. IsOnComm keys (kept_on new.comms.entries comm)) (sym here) (subst (IsOnComm (keys_on rank comm rs)) (sym (others comm h)) (are.comms_are comm))

  open_before : (request : ℕ) → option_and_then (place_of (rs ++ r ∷ [])) (open_at request rs) ≡ option_and_then (place_of rs) (open_at request rs)
  open_before request = places_before rs r (open_at request rs) (λ i is. open_at_within request i rs is)

  completed_before : (number : ℕ) → option_and_then (place_of (rs ++ r ∷ [])) (completed_at number rs) ≡ option_and_then (place_of rs) (completed_at number rs)
  completed_before number = places_before rs r (completed_at number rs) (λ i is. completed_within number i rs is)

  -- the requests, where it makes none
  pending_none : r.request ≡ None → new.pending.entries ≡ old.pending.entries → (request : ℕ) → lookup (nat_eq request) new.pending.entries ≡ option_and_then (place_of (rs ++ r ∷ [])) (open_at request (rs ++ r ∷ []))
  pending_none none same request =
      ap (lookup (nat_eq request)) same
      ∙ are.pending_are request
      ∙ sym (open_before request)
      ∙ ap (option_and_then (place_of (rs ++ r ∷ []))) (sym (open_at_other request rs r (ap (λ (made : Option ℕ). option_map_or (λ n. eqb n request) made false) none)))

  -- the requests, where it makes one
  pending_posted : (request : ℕ) (place : Place) → r.request ≡ Some request → r.completion ≡ None → place ≡ record { comm = r.comm; index = length (keys_on rank r.comm rs) }
      → ((q : ℕ) → lookup (nat_eq q) new.pending.entries ≡ cond (nat_eq request q) (Some place) (lookup (nat_eq q) old.pending.entries))
      → (q : ℕ) → lookup (nat_eq q) new.pending.entries ≡ option_and_then (place_of (rs ++ r ∷ [])) (open_at q (rs ++ r ∷ []))
  pending_posted request place makes_it not_done is step q = step q ∙ by (eqb request q) refl
    where
      by : (b : Bool) → eqb request q ≡ b → cond b (Some place) (lookup (nat_eq q) old.pending.entries) ≡ option_and_then (place_of (rs ++ r ∷ [])) (open_at q (rs ++ r ∷ []))
      by true h =
          let own : makes q r ≡ true = ap (λ (m : Option ℕ). option_map_or (λ n. eqb n q) m false) makes_it ∙ h in
          let open_now : is_open r ≡ true = rw not_done refl in
          ap Some is ∙ sym (place_last rank rs r) ∙ ap (option_and_then (place_of (rs ++ r ∷ []))) (sym (open_at_own q rs r own open_now))
      by false h =
          let other : makes q r ≡ false = ap (λ (m : Option ℕ). option_map_or (λ n. eqb n q) m false) makes_it ∙ h in
          are.pending_are q ∙ sym (open_before q) ∙ ap (option_and_then (place_of (rs ++ r ∷ []))) (sym (open_at_other q rs r other))

  -- the calls that complete receives, where nothing has completed it
  completed_none : r.completion ≡ None → new.completed.entries ≡ old.completed.entries → (number : ℕ) → lookup (nat_eq number) new.completed.entries ≡ option_and_then (place_of (rs ++ r ∷ [])) (completed_at number (rs ++ r ∷ []))
  completed_none none same number =
      ap (lookup (nat_eq number)) same
      ∙ are.completed_are number
      ∙ sym (completed_before number)
      ∙ ap (option_and_then (place_of (rs ++ r ∷ []))) (sym (completed_other number rs r (ap (λ (d : Option Completion). option_map_or (λ (c : Completion). eqb c.call number) d false) none)))

  -- the same, where its own call has
  completed_posted : (done : Completion) (place : Place) → r.completion ≡ Some done → AreBefore done.call rs → place ≡ record { comm = r.comm; index = length (keys_on rank r.comm rs) }
      → ((q : ℕ) → lookup (nat_eq q) new.completed.entries ≡ cond (nat_eq done.call q) (Some place) (lookup (nat_eq q) old.completed.entries))
      → (q : ℕ) → lookup (nat_eq q) new.completed.entries ≡ option_and_then (place_of (rs ++ r ∷ [])) (completed_at q (rs ++ r ∷ []))
  completed_posted done place is_done before is step q = step q ∙ by (eqb done.call q) refl
    where
      by : (b : Bool) → eqb done.call q ≡ b → cond b (Some place) (lookup (nat_eq q) old.completed.entries) ≡ option_and_then (place_of (rs ++ r ∷ [])) (completed_at q (rs ++ r ∷ []))
      by true h =
          let own : completes q r ≡ true = ap (λ (d : Option Completion). option_map_or (λ (c : Completion). eqb c.call q) d false) is_done ∙ h in
          let none : completed_at q rs ≡ None = subst (λ n. completed_at n rs ≡ None) (eqb-true done.call q h) (not_completed done.call rs before) in
          ap Some is ∙ sym (place_last rank rs r) ∙ ap (option_and_then (place_of (rs ++ r ∷ []))) (sym (completed_own q rs r none own))
      by false h =
          let other : completes q r ≡ false = ap (λ (d : Option Completion). option_map_or (λ (c : Completion). eqb c.call q) d false) is_done ∙ h in
          are.completed_are q ∙ sym (completed_before q) ∙ ap (option_and_then (place_of (rs ++ r ∷ []))) (sym (completed_other q rs r other))

  -- a receive that its own call completes
  pub received : (done : Completion) (place : Place) → r.request ≡ None → r.completion ≡ Some done → AreBefore done.call rs → place ≡ record { comm = r.comm; index = length (keys_on rank r.comm rs) }
      → IsOnComm (keys_on rank r.comm rs ++ key_of rank r ∷ []) (kept_on new.comms.entries r.comm)
      → ((other : List ℕ) → pointwise nat_eq r.comm other ≡ false → kept_on new.comms.entries other ≡ kept_on old.comms.entries other)
      → new.pending.entries ≡ old.pending.entries
      → ((q : ℕ) → lookup (nat_eq q) new.completed.entries ≡ cond (nat_eq done.call q) (Some place) (lookup (nat_eq q) old.completed.entries))
      → AreReceives rank (rs ++ r ∷ []) new
  received done place none is_done before is own others same step = record {
    comms_are = comms_posted own others;
    pending_are = pending_none none same;
    completed_are = completed_posted done place is_done before is step;
  }

  -- a receive with a request
  pub requested : (request : ℕ) (place : Place) → r.request ≡ Some request → r.completion ≡ None → place ≡ record { comm = r.comm; index = length (keys_on rank r.comm rs) }
      → IsOnComm (keys_on rank r.comm rs ++ key_of rank r ∷ []) (kept_on new.comms.entries r.comm)
      → ((other : List ℕ) → pointwise nat_eq r.comm other ≡ false → kept_on new.comms.entries other ≡ kept_on old.comms.entries other)
      → ((q : ℕ) → lookup (nat_eq q) new.pending.entries ≡ cond (nat_eq request q) (Some place) (lookup (nat_eq q) old.pending.entries))
      → new.completed.entries ≡ old.completed.entries
      → AreReceives rank (rs ++ r ∷ []) new
  requested request place makes_it none is own others step same = record {
    comms_are = comms_posted own others;
    pending_are = pending_posted request place makes_it none is step;
    completed_are = completed_none none same;
  }

  -- one that is not complete and makes no request
  pub left_open : r.request ≡ None → r.completion ≡ None
      → IsOnComm (keys_on rank r.comm rs ++ key_of rank r ∷ []) (kept_on new.comms.entries r.comm)
      → ((other : List ℕ) → pointwise nat_eq r.comm other ≡ false → kept_on new.comms.entries other ≡ kept_on old.comms.entries other)
      → new.pending.entries ≡ old.pending.entries → new.completed.entries ≡ old.completed.entries
      → AreReceives rank (rs ++ r ∷ []) new
  left_open unmade none own others same_pending same_completed = record {
    comms_are = comms_posted own others;
    pending_are = pending_none unmade same_pending;
    completed_are = completed_none none same_completed;
  }

-- ---- a call that completes a request

-- where the receive of a request stands
record IsWaited (rs : List Receive) (request : ℕ) (place : Place) : Type 0 where
  index : ℕ
  found : open_at request rs ≡ Some index
  stands : place_of rs index ≡ Some place

module _ (rs : List Receive) (request : ℕ) where
  waited_there : (place : Place) → option_and_then (place_of rs) (open_at request rs) ≡ Some place → IsWaited rs request place
  waited_there place = by (open_at request rs) refl
    where
      by : (found : Option ℕ) → open_at request rs ≡ found → option_and_then (place_of rs) found ≡ Some place → IsWaited rs request place
      by None is at = cc
      by (Some i) is at = record { index = i; found = is; stands = at }

  -- no receive waits where none is kept
  pub none_waits : option_and_then (place_of rs) (open_at request rs) ≡ None → open_at request rs ≡ None
  none_waits = by (open_at request rs) refl
    where
      by : (found : Option ℕ) → open_at request rs ≡ found → option_and_then (place_of rs) found ≡ None → found ≡ None
      by None is at = refl
      by (Some i) is at =
          let pending : IsPending rs i = pending_there request i rs is in
          let there : place_of rs i ≡ Some (record { comm = pending.receive.comm; index = count_by (is_on pending.receive.comm) (take i rs) }) = rw pending.there refl in
          absurd (let wrong : Some (record { comm = pending.receive.comm; index = count_by (is_on pending.receive.comm) (take i rs) }) ≡ None = sym there ∙ at in cc)

module _ (rank : ℕ) (rs : List Receive) (request : ℕ) (place : Place) (done : Completion) (old new : RankReceives) (are : AreReceives rank rs old) (before : AreBefore done.call rs)
    (was : lookup (nat_eq request) old.pending.entries ≡ Some place)
    (own : (keys : List (Option Key)) → IsOnComm keys (kept_on old.comms.entries place.comm) → place.index < length keys → key_at keys place.index ≡ None
    → IsOnComm (set keys place.index (Some (done_key rank place.comm done))) (kept_on new.comms.entries place.comm))
    (others : (other : List ℕ) → pointwise nat_eq place.comm other ≡ false → kept_on new.comms.entries other ≡ kept_on old.comms.entries other)
    (pending_step : (q : ℕ) → lookup (nat_eq q) new.pending.entries ≡ cond (nat_eq request q) None (lookup (nat_eq q) old.pending.entries))
    (completed_step : (q : ℕ) → lookup (nat_eq q) new.completed.entries ≡ cond (nat_eq done.call q) (Some place) (lookup (nat_eq q) old.completed.entries)) where
  where_is : IsWaited rs request place
  where_is = waited_there rs request place (sym (are.pending_are request) ∙ was)

  abbrev index : ℕ
  index = where_is.index

  pending : IsPending rs index
  pending = pending_there request index rs where_is.found

  place_is : place ≡ record { comm = pending.receive.comm; index = count_by (is_on pending.receive.comm) (take index rs) }
  place_is =
      let stands : place_of rs index ≡ Some (record { comm = pending.receive.comm; index = count_by (is_on pending.receive.comm) (take index rs) }) = rw pending.there refl in
      same_Some place (record { comm = pending.receive.comm; index = count_by (is_on pending.receive.comm) (take index rs) }) (sym where_is.stands ∙ stands)

  comms_completed : (comm : List ℕ) → IsOnComm (keys_on rank comm (complete_at index done rs)) (kept_on new.comms.entries comm)
  comms_completed comm = by (pointwise nat_eq place.comm comm) refl
    where
      here : place.comm ≡ pending.receive.comm
      here = ap (λ (p : Place). p.comm) place_is

      there : slice_get (keys_on rank pending.receive.comm rs) (count_by (is_on pending.receive.comm) (take index rs)) ≡ Some None
      there = key_there rank index rs pending.receive pending.there ∙ rw pending.not_complete refl

      own_comm : IsOnComm (keys_on rank pending.receive.comm (complete_at index done rs)) (kept_on new.comms.entries pending.receive.comm)
      own_comm =
          let put = subst (λ (p : Place). (ks : List (Option Key)) → IsOnComm ks (kept_on old.comms.entries p.comm) → p.index < length ks → key_at ks p.index ≡ None
          → IsOnComm (set ks p.index (Some (done_key rank p.comm done))) (kept_on new.comms.entries p.comm)) place_is own in
          subst (λ ks. IsOnComm ks (kept_on new.comms.entries pending.receive.comm)) (sym (keys_complete rank index done rs pending.receive pending.there))
          (put (keys_on rank pending.receive.comm rs) (are.comms_are pending.receive.comm) (slice_get_within (keys_on rank pending.receive.comm rs) (count_by (is_on pending.receive.comm) (take index rs)) None there)
          (ap (option_and_then (λ (k : Option Key). k)) there))

      by : (b : Bool) → pointwise nat_eq place.comm comm ≡ b → IsOnComm (keys_on rank comm (complete_at index done rs)) (kept_on new.comms.entries comm)
      by true h = subst (λ c. IsOnComm (keys_on rank c (complete_at index done rs)) (kept_on new.comms.entries c)) (sym here ∙ same_text place.comm comm (sym h)) own_comm
      by false h =
          let not_on : is_on comm pending.receive ≡ false = ap (λ c. pointwise nat_eq c comm) (sym here) ∙ h in
          subst (λ ks. IsOnComm ks (kept_on new.comms.entries comm)) (sym (keys_elsewhere rank index done rs pending.receive comm pending.there not_on))
          (subst (IsOnComm (keys_on rank comm rs)) (sym (others comm h)) (are.comms_are comm))

  pending_completed : (q : ℕ) → lookup (nat_eq q) new.pending.entries ≡ option_and_then (place_of (complete_at index done rs)) (open_at q (complete_at index done rs))
  pending_completed q = pending_step q ∙ by (eqb request q) refl
    where
      by : (b : Bool) → eqb request q ≡ b → cond b None (lookup (nat_eq q) old.pending.entries) ≡ option_and_then (place_of (complete_at index done rs)) (open_at q (complete_at index done rs))
      by true h =
          let none : open_at q (complete_at index done rs) ≡ None = subst (λ k. open_at k (complete_at index done rs) ≡ None) (eqb-true request q h) (open_at_completed request index done rs where_is.found) in
          ap (option_and_then (place_of (complete_at index done rs))) (sym none)
      by false h =
          are.pending_are q
          ∙ sym (places_complete index done rs (open_at q rs))
          ∙ ap (option_and_then (place_of (complete_at index done rs))) (sym (open_at_kept request q index done rs where_is.found h))

  completed_completed : (q : ℕ) → lookup (nat_eq q) new.completed.entries ≡ option_and_then (place_of (complete_at index done rs)) (completed_at q (complete_at index done rs))
  completed_completed q = completed_step q ∙ by (eqb done.call q) refl
    where
      by : (b : Bool) → eqb done.call q ≡ b → cond b (Some place) (lookup (nat_eq q) old.completed.entries) ≡ option_and_then (place_of (complete_at index done rs)) (completed_at q (complete_at index done rs))
      by true h =
          let now : completed_at q (complete_at index done rs) ≡ Some index =
          subst (λ n. completed_at n (complete_at index done rs) ≡ Some index) (eqb-true done.call q h)
          (completed_now index done rs pending.receive pending.there (not_completed done.call rs before)) in
          sym where_is.stands ∙ sym (place_complete index done rs index) ∙ ap (option_and_then (place_of (complete_at index done rs))) (sym now)
      by false h =
          are.completed_are q
          ∙ sym (places_complete index done rs (completed_at q rs))
          ∙ ap (option_and_then (place_of (complete_at index done rs))) (sym (completed_elsewhere q index done rs pending.receive pending.there pending.not_complete h))

  -- the receive of the request is complete
  pub waited_for : AreReceives rank (option_map_or (λ i. complete_at i done rs) (open_at request rs) rs) new
  waited_for =
      subst (λ found. AreReceives rank (option_map_or (λ i. complete_at i done rs) found rs) new) (sym where_is.found)
      (record { comms_are = comms_completed; pending_are = pending_completed; completed_are = completed_completed })

-- nothing changes where no receive waits
pub not_waited : (rank : ℕ) (rs : List Receive) (request : ℕ) (done : Completion) (old new : RankReceives) → AreReceives rank rs old → lookup (nat_eq request) old.pending.entries ≡ None
    → ((q : ℕ) → lookup (nat_eq q) new.pending.entries ≡ cond (nat_eq request q) None (lookup (nat_eq q) old.pending.entries))
    → new.comms.entries ≡ old.comms.entries → new.completed.entries ≡ old.completed.entries
    → AreReceives rank (option_map_or (λ i. complete_at i done rs) (open_at request rs) rs) new
not_waited rank rs request done old new are none step same_comms same_completed =
    subst (λ found. AreReceives rank (option_map_or (λ i. complete_at i done rs) found rs) new) (sym (none_waits rs request (sym (are.pending_are request) ∙ none)))
    (record {
      comms_are = λ comm. subst (λ es. IsOnComm (keys_on rank comm rs) (kept_on es comm)) (sym same_comms) (are.comms_are comm);
      pending_are = λ q. step q ∙ by q (eqb request q) refl ∙ are.pending_are q;
      completed_are = λ q. ap (lookup (nat_eq q)) same_completed ∙ are.completed_are q;
    })
  where
    by : (q : ℕ) (b : Bool) → eqb request q ≡ b → cond b None (lookup (nat_eq q) old.pending.entries) ≡ lookup (nat_eq q) old.pending.entries
    by q true h = sym (subst (λ k. lookup (nat_eq k) old.pending.entries ≡ None) (eqb-true request q h) none)
    by q false h = refl
