-- The source of the message of a call, by what stands at the place of its receive.
use Rattle.std.proofs.Common.{◌≡◌, ℕ, ◌+◌, ◌*◌, Bool, true, false, cond, List, [], ◌∷◌, take, Option, Some, None, is_some, slice_get, nat_eq, refl, sym, ap, subst, ◌∙◌, arith}
use Rattle.std.specs.Prelude.{map, filter, count_by, option_map}
use Rattle.std.specs.List.{filter_map, list_all, cons_option}
use Rattle.std.specs.Option.{option_map_or, option_and_then}
use Rattle.std.specs.Cmp.Lexicographic.{pointwise, nat_list_eq_equiv}
use Rattle.std.proofs.lemmas.Bool.{false≢true}
use Rattle.std.proofs.lemmas.List.Sums.{sum_by-cons}
use Rattle.std.proofs.lemmas.Option.{slice_get-map, same_Some}
use Rattle.rma_call.specs.Call.{Call}
use Rattle.rma_link.specs.Point.{entry}
use Rattle.rma_message.specs.declared.key.Key.{Key}
use Rattle.rma_message.specs.declared.end.End.{End}
use Rattle.rma_message.specs.declared.receive.Receive.{Receive}
use Rattle.rma_message.specs.declared.receive.Completion.{Completion}
use Rattle.rma_message.specs.declared.rank_receives.Place.{Place}
use Rattle.rma_message.specs.declared.source.MessageSource.{MessageSource}
use Rattle.rma_message.specs.declared.source.MessageSource.TheVariants.{NoReceive, Unknown, From}
use Rattle.rma_message.specs.Key.{has_key}
use Rattle.rma_message.specs.Receive.{end_of}
use Rattle.rma_message.specs.Source.{messages_at, completed_at, is_on, is_complete, source_of_end, source_after, source_at, source_of}
use Rattle.rma_message.specs.inside.Live.{is_key, key_at, number_at, key_of, keys_on, place_of, entries_of}
use Rattle.rma_message.proofs.MatchLemmas.{same_key_true}
use Rattle.rma_message.proofs.PlaceLemmas.{place_in, key_there, keys_before}

-- the end of a receive
abbrev pub own_end : ℕ → Receive → Option End
own_end rank r = end_of (record { 0 = rank }) r

-- ---- the receives before

-- a receive has its key where it is complete
complete_key : (rank : ℕ) (r : Receive) → is_some (key_of rank r) ≡ is_complete r
complete_key rank r = by r.completion
  where
    by : (done : Option Completion) → is_some (key_of rank (record r { completion = done })) ≡ is_some done
    by None = refl
    by (Some c) = refl

all_on : (rank : ℕ) (comm : List ℕ) (rs : List Receive) → list_all is_some (keys_on rank comm rs) ≡ list_all is_complete (filter (is_on comm) rs)
all_on rank comm [] = refl
all_on rank comm (r ∷ rs) = by (is_on comm r) (all_on rank comm rs)
  where
    by : (b : Bool) → list_all is_some (keys_on rank comm rs) ≡ list_all is_complete (filter (is_on comm) rs)
        → list_all is_some (map (key_of rank) (cond b (r ∷ filter (is_on comm) rs) (filter (is_on comm) rs))) ≡ list_all is_complete (cond b (r ∷ filter (is_on comm) rs) (filter (is_on comm) rs))
    by true rest = rw (complete_key rank r, rest) refl
    by false rest = rest

-- the communicator of the end of a receive is its own
pub end_comm : (rank : ℕ) (r : Receive) (e : End) → own_end rank r ≡ Some e → e.key.comm ≡ r.comm
end_comm rank r e is = by r.completion is
  where
    by : (done : Option Completion) → own_end rank (record r { completion = done }) ≡ Some e → e.key.comm ≡ r.comm
    by None at = cc
    by (Some c) at =
        ap (λ (x : End). x.key.comm)
        (sym (same_Some (record { key = record { from = c.from; to = record { 0 = rank }; comm = r.comm; tag = c.tag }; rank = record { 0 = rank }; call = c.call; line = r.line }) e at))

-- as many have a key on its communicator as in all
pub count_on : (rank : ℕ) (key : Key) (rs : List Receive) → count_by (is_key key) (keys_on rank key.comm rs) ≡ count_by (has_key key) (filter_map (end_of (record { 0 = rank })) rs)
count_on rank key [] = refl
count_on rank key (r ∷ rs) = by (is_on key.comm r) (own_end rank r) refl refl (count_on rank key rs)
  where
    by : (b : Bool) (e : Option End) → is_on key.comm r ≡ b → own_end rank r ≡ e → count_by (is_key key) (keys_on rank key.comm rs) ≡ count_by (has_key key) (filter_map (end_of (record { 0 = rank })) rs)
        → count_by (is_key key) (map (key_of rank) (cond b (r ∷ filter (is_on key.comm) rs) (filter (is_on key.comm) rs))) ≡ count_by (has_key key) (cons_option e (filter_map (end_of (record { 0 = rank })) rs))
    by true None h is rest =
        sum_by-cons (λ o. cond (is_key key o) 1 0) (key_of rank r) (keys_on rank key.comm rs)
        ∙ ap (λ o. cond (is_key key (option_map (λ (e : End). e.key) o)) 1 0 + count_by (is_key key) (keys_on rank key.comm rs)) is
        ∙ (let same : count_by (is_key key) (keys_on rank key.comm rs) ≡ count_by (has_key key) (filter_map (end_of (record { 0 = rank })) rs) = rest in omega arith)
    by true (Some e) h is rest =
        sum_by-cons (λ o. cond (is_key key o) 1 0) (key_of rank r) (keys_on rank key.comm rs)
        ∙ ap (λ o. cond (is_key key (option_map (λ (e : End). e.key) o)) 1 0 + count_by (is_key key) (keys_on rank key.comm rs)) is
        ∙ ap (λ n. cond (has_key key e) 1 0 + n) rest
        ∙ sym (sum_by-cons (λ x. cond (has_key key x) 1 0) e (filter_map (end_of (record { 0 = rank })) rs))
    by false None h is rest = rest
    by false (Some e) h is rest =
        rest
        ∙ (let zero : count_by (has_key key) (filter_map (end_of (record { 0 = rank })) rs) ≡ 0 + count_by (has_key key) (filter_map (end_of (record { 0 = rank })) rs) = omega arith in zero)
        ∙ ap (λ b. cond b 1 0 + count_by (has_key key) (filter_map (end_of (record { 0 = rank })) rs)) (sym (not_own (has_key key e) refl))
        ∙ sym (sum_by-cons (λ x. cond (has_key key x) 1 0) e (filter_map (end_of (record { 0 = rank })) rs))
      where
        not_own : (b : Bool) → has_key key e ≡ b → b ≡ false
        not_own false has = refl
        not_own true has =
            let comm : r.comm ≡ key.comm = sym (end_comm rank r e is) ∙ ap (λ (k : Key). k.comm) (same_key_true e.key key has) in
            let on : is_on key.comm r ≡ true = ap (λ c. pointwise nat_eq c key.comm) comm ∙ nat_list_eq_equiv.refl key.comm in
            absurd (false≢true (sym h ∙ on))

-- ---- the source

-- where the send of this number of a key is entered
abbrev pub sent_in : List ℕ → Key → ℕ → MessageSource
sent_in entries key number = option_map_or (λ pos. From (record { rank = key.from; pos = pos })) (slice_get entries number) Unknown

-- the same of a key and a number that may be there
abbrev pub sent_of : (ℕ → List Call) → Option Key → Option ℕ → MessageSource
sent_of calls key number = option_map_or (λ k. option_map_or (sent_in (entries_of k (messages_at calls k.from.0).sends) k) number Unknown) key Unknown

partner_in : (key : Key) (sends : List End) (number : ℕ) → sent_in (entries_of key sends) key number ≡ option_map_or (λ (send : End). From (entry key.from send.call)) (slice_get (filter (has_key key) sends) number) Unknown
partner_in key sends number = ap (λ o. option_map_or (λ pos. From (record { rank = key.from; pos = pos })) o Unknown) (slice_get-map (λ (e : End). 2 * e.call) (filter (has_key key) sends) number) ∙ by (slice_get (filter (has_key key) sends) number)
  where
    by : (o : Option End) → option_map_or (λ pos. From (record { rank = key.from; pos = pos })) (option_map (λ (e : End). 2 * e.call) o) Unknown ≡ option_map_or (λ (send : End). From (entry key.from send.call)) o Unknown
    by None = refl
    by (Some e) = refl

module _ (calls : ℕ → List Call) (rank : ℕ) (rs : List Receive) (index : ℕ) (r : Receive) (there : slice_get rs index ≡ Some r) where
  abbrev before : List Receive
  before = take index rs

  abbrev keys : List (Option Key)
  keys = keys_on rank r.comm rs

  abbrev place : ℕ
  place = count_by (is_on r.comm) (take index rs)

  own_key : key_at keys place ≡ key_of rank r
  own_key = ap (option_and_then (λ (k : Option Key). k)) (key_there rank index rs r there)

  own_number : number_at keys place ≡ option_and_then (λ key. cond (list_all is_complete (filter (is_on r.comm) before)) (Some (count_by (is_key key) (keys_on rank r.comm before))) None) (key_of rank r)
  own_number =
      ap (λ o. option_and_then (λ key. cond (list_all is_some (take place keys)) (Some (count_by (is_key key) (take place keys))) None) o) own_key
      ∙ ap (λ l. option_and_then (λ key. cond (list_all is_some l) (Some (count_by (is_key key) l)) None) (key_of rank r)) (keys_before rank index r.comm rs)
      ∙ ap (λ b. option_and_then (λ key. cond b (Some (count_by (is_key key) (keys_on rank r.comm before))) None) (key_of rank r)) (all_on rank r.comm before)

  -- the source is what the place gives
  source_there : sent_of calls (key_at keys place) (number_at keys place) ≡ source_after calls rank before r
  source_there =
      ap (λ o. sent_of calls o (number_at keys place)) own_key
      ∙ ap (sent_of calls (key_of rank r)) own_number
      ∙ by (own_end rank r) refl (list_all is_complete (filter (is_on r.comm) before))
    where
      by : (e : Option End) → own_end rank r ≡ e → (b : Bool)
          → sent_of calls (option_map (λ (x : End). x.key) e) (option_and_then (λ key. cond b (Some (count_by (is_key key) (keys_on rank r.comm before))) None) (option_map (λ (x : End). x.key) e))
          ≡ cond b (option_map_or (source_of_end calls (filter_map (end_of (record { 0 = rank })) before)) e Unknown) Unknown
      by None is true = refl
      by None is false = refl
      by (Some e) is false = refl
      by (Some e) is true =
          let count : count_by (is_key e.key) (keys_on rank r.comm before) ≡ count_by (has_key e.key) (filter_map (end_of (record { 0 = rank })) before) =
          ap (λ c. count_by (is_key e.key) (keys_on rank c before)) (sym (end_comm rank r e is)) ∙ count_on rank e.key before in
          ap (sent_in (entries_of e.key (messages_at calls e.key.from.0).sends) e.key) count
          ∙ partner_in e.key (messages_at calls e.key.from.0).sends (count_by (has_key e.key) (filter_map (end_of (record { 0 = rank })) before))

-- the source of a call whose receive stands at a place
pub source_found : (calls : ℕ → List Call) (rank number : ℕ) (place : Place) → option_and_then (place_of (messages_at calls rank).receives) (completed_at number (messages_at calls rank).receives) ≡ Some place →
    sent_of calls (key_at (keys_on rank place.comm (messages_at calls rank).receives) place.index) (number_at (keys_on rank place.comm (messages_at calls rank).receives) place.index) ≡ source_of calls rank number
source_found calls rank number place = by (completed_at number (messages_at calls rank).receives)
  where
    there : (i : ℕ) (o : Option Receive) → slice_get (messages_at calls rank).receives i ≡ o → option_map (λ (r : Receive). record { comm = r.comm; index = count_by (is_on r.comm) (take i (messages_at calls rank).receives) }) o ≡ Some place
        → sent_of calls (key_at (keys_on rank place.comm (messages_at calls rank).receives) place.index) (number_at (keys_on rank place.comm (messages_at calls rank).receives) place.index) ≡ option_map_or (source_after calls rank (take i (messages_at calls rank).receives)) o NoReceive
    there i None at stands = cc
    there i (Some r) at stands =
        let own : record { comm = r.comm; index = count_by (is_on r.comm) (take i (messages_at calls rank).receives) } ≡ place = same_Some (record { comm = r.comm; index = count_by (is_on r.comm) (take i (messages_at calls rank).receives) }) place stands in
        subst (λ (p : Place). sent_of calls (key_at (keys_on rank p.comm (messages_at calls rank).receives) p.index) (number_at (keys_on rank p.comm (messages_at calls rank).receives) p.index) ≡ source_after calls rank (take i (messages_at calls rank).receives) r) own
        (source_there calls rank (messages_at calls rank).receives i r at)

    by : (found : Option ℕ) → option_and_then (place_of (messages_at calls rank).receives) found ≡ Some place
        → sent_of calls (key_at (keys_on rank place.comm (messages_at calls rank).receives) place.index) (number_at (keys_on rank place.comm (messages_at calls rank).receives) place.index) ≡ option_map_or (source_at calls rank (messages_at calls rank).receives) found NoReceive
    by None stands = cc
    by (Some i) stands = there i (slice_get (messages_at calls rank).receives i) refl stands

-- a call that completes no receive
pub no_source : (calls : ℕ → List Call) (rank number : ℕ) → option_and_then (place_of (messages_at calls rank).receives) (completed_at number (messages_at calls rank).receives) ≡ None →
    NoReceive ≡ source_of calls rank number
no_source calls rank number = by (completed_at number (messages_at calls rank).receives)
  where
    there : (i : ℕ) (o : Option Receive) → place_in (messages_at calls rank).receives i o ≡ None → NoReceive ≡ option_map_or (source_after calls rank (take i (messages_at calls rank).receives)) o NoReceive
    there i None stands = refl
    there i (Some r) stands = cc

    by : (found : Option ℕ) → option_and_then (place_of (messages_at calls rank).receives) found ≡ None → NoReceive ≡ option_map_or (source_at calls rank (messages_at calls rank).receives) found NoReceive
    by None stands = refl
    by (Some i) stands = there i (slice_get (messages_at calls rank).receives i) stands

-- the source of a call, by the key and the number that are kept of its receive
pub source_by : (calls : ℕ → List Call) (rank number : ℕ) (place : Place) (key : Option Key) (own : Option ℕ) →
    Some place ≡ option_and_then (place_of (messages_at calls rank).receives) (completed_at number (messages_at calls rank).receives) →
    key ≡ key_at (keys_on rank place.comm (messages_at calls rank).receives) place.index → own ≡ number_at (keys_on rank place.comm (messages_at calls rank).receives) place.index →
    sent_of calls key own ≡ source_of calls rank number
source_by calls rank number place key own found is_key is_own =
    ap (λ k. sent_of calls k own) is_key
    ∙ ap (sent_of calls (key_at (keys_on rank place.comm (messages_at calls rank).receives) place.index)) is_own
    ∙ source_found calls rank number place (sym found)
