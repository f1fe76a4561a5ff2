-- The requests that are pending after some calls, with one call more.
use Rattle.std.proofs.Common.{◌≡◌, ℕ, suc, ◌+◌, ◌<◌, ◌≤◌, Bool, true, false, List, [], ◌∷◌, ◌++◌, Option, Some, None, is_some, is_none, option_map, cond, refl, sym, ap, subst, ◌∙◌, ◌⊎◌, inl, inr, ⊎_elim, arith, not, ◌&&◌}
use Rattle.std.specs.List.{Contains}
use Rattle.std.specs.Option.{option_and_then, option_or}
use Rattle.std.specs.Prelude.{unwrap_or}
use Rattle.std.proofs.lemmas.Option.{some_pair_parts}
use Rattle.std.proofs.lemmas.List.Elements.{Contains-push_cases}
use Rattle.std.proofs.lemmas.List.Sums.{sum_by-append, sum_by-cons}
use Rattle.rma_buffer.proofs.BasicLemmas.{same_words}
use Rattle.rma_call.specs.Call.{Call}
use Rattle.rma_form.specs.declared.event.Event.{Event}
use Rattle.rma_judge.proofs.StateLemmas.{made_by_more}
use Rattle.rma_judge.specs.Judging.{lacks_request}
use Rattle.rma_judge.specs.Naming.{Attributes, attributes_of}
use Rattle.rma_judge.specs.Names.{awaited_by, is_same, made_by, makes, number_at, number_of, of_name, pending, request_number}
use Rattle.rma_judge.specs.declared.names.Pending.{Pending}
use Rattle.rma_kept.specs.Naming.{NoCall, SomeCall}
use Rattle.rma_kept.specs.Requests.{Awaits, Makes, received_by, receives, made_in, makes_one, waits}
use Rattle.rma_kept.proofs.AmongLemmas.{none_more, none_of_none, option_false, same_itself, some_front, some_last}
use Rattle.rma_kept.proofs.CountLemmas.{awaits_in, in_now, in_same, not_in_calls, open_below, open_less, open_same}
use Rattle.rma_kept.proofs.RequestLemmas.{AwaitsPending, awaited_by_more, awaits_pending, makes_next, number_is, pending_more}
use Rattle.rma_kept.proofs.RequestNameLemmas.{SaysRequest, request_of}

-- 1 where it is so, and else 0
abbrev one_if : Bool → ℕ
one_if b = cond b 1 0

-- how many requests some calls make, with one call more
made_in_push : (calls : List Call) (call : Call) → made_in (calls ++ call ∷ []) ≡ made_in calls + cond (makes_one call) 1 0
made_in_push calls call =
    let one = λ (c : Call). cond (makes_one c) 1 0 in
    sum_by-append one calls (call ∷ []) ∙ ap (λ n. made_in calls + n) (sum_by-cons one call [] ∙ omega arith)

-- The calls made this request, and none waited for it.
pub record IsPending (request : Pending) (calls : List Call) : Type 0 where
  pub number : ℕ
  pub ordinal : request.ordinal ≡ suc number
  pub made : SomeCall (Makes number) calls
  pub word : (other : Call) → Contains calls other → Makes number other → receives other.what ≡ request.receives
  pub unawaited : NoCall (Awaits number) calls

-- what these events and their calls made of requests
pub record RequestsAre (events : List Event) (calls : List Call) : Type 0 where
  pub made : (call : Call) (n : ℕ) → Contains calls call → Makes n call → n < made_by events
  pub awaited : (call : Call) (n : ℕ) → Contains calls call → Awaits n call → n < made_by events
  pub is_pending : (name : List ℕ) (request : Pending) → pending events name ≡ Some request → IsPending request calls
  pub unique : (name other : List ℕ) (request own : Pending) → pending events name ≡ Some request → pending events other ≡ Some own → request.ordinal ≡ own.ordinal → name ≡ other
  pub counted : made_by events ≡ made_in calls
  pub count : open_below (awaits_in calls) (made_by events) + awaited_by events ≡ made_by events

abbrev pub next_request : ℕ → Bool → Pending
next_request n word = record { ordinal = n + 1; receives = word }

-- what is pending under a name, where so many requests were made before, after something is made and something awaited
abbrev after_change : ℕ → List ℕ → Option (List ℕ × Bool) → Option (List ℕ × Bool) → Option Pending → Option Pending
after_change before name made awaited old =
    unwrap_or (option_or (option_map (λ word. Some (next_request before word)) (of_name name made)) (option_map (λ received. None) (of_name name awaited))) old

-- a request was made now, or was pending before and is not awaited
abbrev Changed : ℕ → List ℕ → Option (List ℕ × Bool) → Option (List ℕ × Bool) → Option Pending → Pending → Type 0
Changed before name made awaited old request =
    ((word : Bool) × (made ≡ request_of name word) × (request ≡ next_request before word))
    ⊎ ((old ≡ Some request) × ((word : Bool) → made ≡ None → awaited ≡ request_of name word → ⊥))

not_awaited : (found : Option Bool) (old : Option Pending) (request : Pending) → unwrap_or (option_map (λ (received : Bool). let none : Option Pending = None in none) found) old ≡ Some request
    → (old ≡ Some request) × (found ≡ None)
not_awaited None old request h = (h, refl)
not_awaited (Some received) old request h = cc

changed : (before : ℕ) (name : List ℕ) (made awaited : Option (List ℕ × Bool)) (old : Option Pending) (request : Pending) → after_change before name made awaited old ≡ Some request
    → Changed before name made awaited old request
changed before name None awaited old request h =
    let parts = not_awaited (of_name name awaited) old request h in
    inr (
      parts.0,
      λ word none is.
          let found : of_name name awaited ≡ Some word = ap (of_name name) is ∙ rw (same_itself name) refl in
          let wrong : None ≡ Some word = sym parts.1 ∙ found in cc wrong,
    )
changed before name (Some (own, word)) awaited old request h = by (is_same own name) refl h
  where
    by : (same : Bool) → is_same own name ≡ same
        → unwrap_or (option_or (option_map (λ word. Some (next_request before word)) (cond same (Some word) None)) (option_map (λ received. None) (of_name name awaited))) old ≡ Some request
        → Changed before name (Some (own, word)) awaited old request
    by true is h =
        let this : own ≡ name = same_words own name is in
        let same : next_request before word ≡ request = cc in
        inl (word, ap (λ n. request_of n word) this, sym same)
    by false is h = inr ((not_awaited (of_name name awaited) old request h).0, λ word none wrong. cc none)

-- what is pending stays so where a call neither makes nor awaits it
pending_front : (request : Pending) (calls : List Call) (call : Call) (h : IsPending request calls) → (Makes h.number call → ⊥) → (Awaits h.number call → ⊥) → IsPending request (calls ++ call ∷ [])
pending_front request calls call h makes awaits = record {
  number = h.number;
  ordinal = h.ordinal;
  made = some_front (Makes h.number) calls call h.made;
  word = λ other among does. ⊎_elim
      (λ (before : Contains calls other). h.word other before does)
      (λ (here : call ≡ other). absurd (makes (subst (Makes h.number) (sym here) does)))
      (Contains-push_cases calls call other among);
  unawaited = none_more (Awaits h.number) calls call h.unawaited awaits;
}

module _ (before : List Event) (event : Event) (calls : List Call) (call : Call) (says : SaysRequest (attributes_of event) call.what)
    (number : call.request ≡ request_number before (attributes_of event)) (h : RequestsAre before calls) (known : lacks_request before (attributes_of event) ≡ false) where
  abbrev it : Attributes
  it = attributes_of event

  abbrev events : List Event
  events = before ++ event ∷ []

  abbrev new : List Call
  new = calls ++ call ∷ []

  makes_some : (name : List ℕ) (word : Bool) → it.made ≡ request_of name word → made_by events ≡ made_by before + 1
  makes_some name word is = made_by_more before event ∙ ap (λ (made : Option (List ℕ × Bool)). made_by before + (cond (is_some made) 1 0)) is

  at_least : made_by before ≤ made_by events
  at_least = let more = made_by_more before event in omega arith

  number_below : (request : Pending) (p : IsPending request calls) → p.number < made_by before
  number_below request p = let some = p.made in h.made some.0 p.number some.1 some.2

  -- the request for which a call waits
  module _ (n : ℕ) (awaits : AwaitsPending before it call says number n) where
    its : IsPending awaits.request calls
    its = h.is_pending awaits.name awaits.request awaits.is

    same_number : its.number ≡ n
    same_number = let one = its.ordinal in let other = awaits.ordinal in omega arith

    pub made_before : SomeCall (Makes n) calls
    made_before = subst (λ k. SomeCall (Makes k) calls) same_number its.made

    pub awaited_once : NoCall (Awaits n) calls
    awaited_once = subst (λ k. NoCall (Awaits k) calls) same_number its.unawaited

    pub word_is : (other : Call) → Contains calls other → Makes n other → receives other.what ≡ awaits.request.receives
    word_is other among does = its.word other among (subst (λ k. Makes k other) (sym same_number) does)

    awaited_below : n < made_by before
    awaited_below = subst (λ k. k < made_by before) same_number (number_below awaits.request its)

  made_more : (other : Call) (n : ℕ) → Contains new other → Makes n other → n < made_by events
  made_more other n among does = ⊎_elim
      (λ (old : Contains calls other). let below = h.made other n old does in let more = at_least in omega arith)
      (λ (here : call ≡ other).
      let next = makes_next before it call says number n (subst (Makes n) (sym here) does) in
      let more = makes_some next.name (receives call.what) next.made in
      let is = next.is in
      omega arith)
      (Contains-push_cases calls call other among)

  awaited_more : (other : Call) (n : ℕ) → Contains new other → Awaits n other → n < made_by events
  awaited_more other n among does = ⊎_elim
      (λ (old : Contains calls other). let below = h.awaited other n old does in let more = at_least in omega arith)
      (λ (here : call ≡ other).
      let below = awaited_below n (awaits_pending before it call says number n (subst (Awaits n) (sym here) does)) in
      let more = at_least in
      omega arith)
      (Contains-push_cases calls call other among)

  -- what is pending now
  pending_is : (name : List ℕ) (request : Pending) → pending events name ≡ Some request → Changed (made_by before) name it.made it.awaited (pending before name) request
  pending_is name request is = changed (made_by before) name it.made it.awaited (pending before name) request (sym (pending_more before event name) ∙ is)

  -- the request that the call makes
  new_pending : (name : List ℕ) (word : Bool) → it.made ≡ request_of name word → IsPending (next_request (made_by before) word) new
  new_pending name word is =
      let said = says.made name word is in
      let makes : Makes (made_by before) call = (said.0, number_is before it call says number (request_of name word) it.awaited is refl) in
      record {
        number = made_by before;
        ordinal = omega arith;
        made = some_last (Makes (made_by before)) calls call makes;
        word = λ other among does. ⊎_elim
            (λ (old : Contains calls other). let below = h.made other (made_by before) old does in absurd (omega arith))
            (λ (here : call ≡ other). ap (λ (c : Call). receives c.what) (sym here) ∙ said.1)
            (Contains-push_cases calls call other among);
        unawaited = none_more (Awaits (made_by before)) calls call (λ other among does. let below = h.awaited other (made_by before) among does in absurd (omega arith))
            (λ waits. let wrong : false ≡ true = sym said.0 ∙ waits.0 in cc wrong);
      }

  -- one that was pending and is not awaited
  old_pending : (name : List ℕ) (request : Pending) → pending before name ≡ Some request → ((word : Bool) → it.made ≡ None → it.awaited ≡ request_of name word → ⊥) → IsPending request new
  old_pending name request is other =
      let p = h.is_pending name request is in
      pending_front request calls call p
      (λ makes. let next = makes_next before it call says number p.number makes in let same = next.is in let below = number_below request p in absurd (omega arith))
      (λ awaits.
      let found = awaits_pending before it call says number p.number awaits in
      let this = h.unique found.name name found.request request found.is is (found.ordinal ∙ sym p.ordinal) in
      let word = is_some (received_by call.what) in
      let said = says.awaited found.name word found.awaited in
      other word said.2 (found.awaited ∙ ap (λ n. request_of n word) this))

  pending_new : (name : List ℕ) (request : Pending) → pending events name ≡ Some request → IsPending request new
  pending_new name request is = ⊎_elim
      (λ (now : (word : Bool) × (it.made ≡ request_of name word) × (request ≡ next_request (made_by before) word)). subst (λ r. IsPending r new) (sym now.2) (new_pending name now.0 now.1))
      (λ (old : (pending before name ≡ Some request) × ((word : Bool) → it.made ≡ None → it.awaited ≡ request_of name word → ⊥)). old_pending name request old.0 old.1)
      (pending_is name request is)

  unique_new : (name other : List ℕ) (request own : Pending) → pending events name ≡ Some request → pending events other ≡ Some own → request.ordinal ≡ own.ordinal → name ≡ other
  unique_new name other request own is are same = by (pending_is name request is) (pending_is other own are)
    where
      by : Changed (made_by before) name it.made it.awaited (pending before name) request → Changed (made_by before) other it.made it.awaited (pending before other) own → name ≡ other
      by (inl now) (inl also) = (some_pair_parts name other now.0 also.0 (sym now.1 ∙ also.1)).0
      by (inl now) (inr old) =
          let p = h.is_pending other own old.0 in let below = number_below own p in let at = p.ordinal in let next = ap (λ (r : Pending). r.ordinal) now.2 in absurd (omega arith)
      by (inr old) (inl now) =
          let p = h.is_pending name request old.0 in let below = number_below request p in let at = p.ordinal in let next = ap (λ (r : Pending). r.ordinal) now.2 in absurd (omega arith)
      by (inr old) (inr also) = h.unique name other request own old.0 also.0 same

  -- ---- how many are awaited

  abbrev open_before : ℕ
  open_before = open_below (awaits_in calls) (made_by before)

  same_open : ((n : ℕ) → Awaits n call → ⊥) → open_below (awaits_in new) (made_by before) ≡ open_before
  same_open none = open_same (awaits_in calls) (awaits_in new) (made_by before) (λ k. in_same calls call k (none k))

  count_made : (name : List ℕ) (word : Bool) → it.made ≡ request_of name word → open_below (awaits_in new) (made_by events) + awaited_by events ≡ made_by events
  count_made name word is =
      let said = says.made name word is in
      let none : (n : ℕ) → Awaits n call → ⊥ = λ n waits. let wrong : false ≡ true = sym said.0 ∙ waits.0 in cc wrong in
      let next : made_by events ≡ suc (made_by before) = makes_some name word is ∙ omega arith in
      let last : awaits_in new (made_by before) ≡ false =
      in_same calls call (made_by before) (none (made_by before))
      ∙ not_in_calls (made_by before) calls (λ other among does. let below = h.awaited other (made_by before) among does in absurd (omega arith)) in
      let awaited : awaited_by events ≡ awaited_by before + 0 = awaited_by_more before event ∙ ap (λ (a : Option (List ℕ × Bool)). awaited_by before + (cond (is_some a) 1 0)) said.2 in
      let same = same_open none in
      let count = h.count in
      rw (next, last) (omega arith)

  count_awaited : (name : List ℕ) (word : Bool) → it.awaited ≡ request_of name word → open_below (awaits_in new) (made_by events) + awaited_by events ≡ made_by events
  count_awaited name word is = by (pending before name) refl (option_false (λ (wait : List ℕ × Bool). is_none (pending before wait.0)) it.awaited (name, word) known is)
    where
      by : (found : Option Pending) → pending before name ≡ found → is_none (pending before name) ≡ false → open_below (awaits_in new) (made_by events) + awaited_by events ≡ made_by events
      by None found there = let wrong : true ≡ false = ap is_none (sym found) ∙ there in cc wrong
      by (Some request) found there =
          let said = says.awaited name word is in
          let p = h.is_pending name request found in
          let own : call.request ≡ Some p.number =
          number_is before it call says number None (request_of name word) said.2 is ∙ ap (option_and_then number_of) found ∙ ap number_at p.ordinal in
          let awaits : Awaits p.number call = (said.0, own) in
          let less = open_less (awaits_in calls) (awaits_in new) p.number (made_by before) (number_below request p) (not_in_calls p.number calls p.unawaited) (in_now calls call p.number awaits)
          (λ k other. in_same calls call k (λ waits. let same : Some p.number ≡ Some k = sym own ∙ waits.1 in let this : p.number ≡ k = cc in other (sym this))) in
          let none : made_by events ≡ made_by before = made_by_more before event ∙ ap (λ (made : Option (List ℕ × Bool)). made_by before + (cond (is_some made) 1 0)) said.2 ∙ omega arith in
          let awaited : awaited_by events ≡ awaited_by before + 1 = awaited_by_more before event ∙ ap (λ (a : Option (List ℕ × Bool)). awaited_by before + (cond (is_some a) 1 0)) is in
          let count = h.count in
          rw none (omega arith)

  count_neither : it.made ≡ None → it.awaited ≡ None → open_below (awaits_in new) (made_by events) + awaited_by events ≡ made_by events
  count_neither no_made no_awaited =
      let own : call.request ≡ None = number_is before it call says number None None no_made no_awaited in
      let same = same_open (λ n waits. let wrong : None ≡ Some n = sym own ∙ waits.1 in cc wrong) in
      let none : made_by events ≡ made_by before = made_by_more before event ∙ ap (λ (made : Option (List ℕ × Bool)). made_by before + (cond (is_some made) 1 0)) no_made ∙ omega arith in
      let awaited : awaited_by events ≡ awaited_by before + 0 = awaited_by_more before event ∙ ap (λ (a : Option (List ℕ × Bool)). awaited_by before + (cond (is_some a) 1 0)) no_awaited in
      let count = h.count in
      rw none (omega arith)

  count_new : (made awaited : Option (List ℕ × Bool)) → it.made ≡ made → it.awaited ≡ awaited → open_below (awaits_in new) (made_by events) + awaited_by events ≡ made_by events
  count_new (Some (name, word)) awaited is_made is_awaited = count_made name word is_made
  count_new None (Some (name, word)) is_made is_awaited = count_awaited name word is_awaited
  count_new None None is_made is_awaited = count_neither is_made is_awaited

  -- ---- how many are made

  own_count : (made awaited : Option (List ℕ × Bool)) → it.made ≡ made → it.awaited ≡ awaited → one_if (makes_one call) ≡ one_if (is_some made)
  own_count (Some (name, word)) awaited is_made is_awaited =
      let said = says.made name word is_made in
      rw (said.0, number_is before it call says number (request_of name word) awaited is_made is_awaited) refl
  own_count None (Some (name, word)) is_made is_awaited = let said = says.awaited name word is_awaited in rw said.0 refl
  own_count None None is_made is_awaited = rw (number_is before it call says number None None is_made is_awaited) (no_request (waits call.what))
    where
      no_request : (b : Bool) → one_if (not b && false) ≡ 0
      no_request true = refl
      no_request false = refl

  counted_new : made_by events ≡ made_in new
  counted_new =
      made_by_more before event ∙ ap (λ n. n + cond (is_some it.made) 1 0) h.counted ∙ ap (λ n. made_in calls + n) (sym (own_count it.made it.awaited refl refl)) ∙ sym (made_in_push calls call)

  pub RequestsAre_call : RequestsAre events new
  RequestsAre_call = record {
    made = made_more;
    awaited = awaited_more;
    is_pending = pending_new;
    unique = unique_new;
    counted = counted_new;
    count = count_new it.made it.awaited refl refl;
  }

-- an event that is no call
pub RequestsAre_other : (before : List Event) (event : Event) (calls : List Call) → (attributes_of event).made ≡ None → (attributes_of event).awaited ≡ None → RequestsAre before calls
    → RequestsAre (before ++ event ∷ []) calls
RequestsAre_other before event calls no_made no_awaited h =
    let it = attributes_of event in
    let made : made_by (before ++ event ∷ []) ≡ made_by before =
    made_by_more before event ∙ ap (λ (made : Option (List ℕ × Bool)). made_by before + (cond (is_some made) 1 0)) no_made ∙ omega arith in
    let awaited : awaited_by (before ++ event ∷ []) ≡ awaited_by before =
    awaited_by_more before event ∙ ap (λ (a : Option (List ℕ × Bool)). awaited_by before + (cond (is_some a) 1 0)) no_awaited ∙ omega arith in
    let same : (name : List ℕ) → pending (before ++ event ∷ []) name ≡ pending before name = λ name. pending_more before event name ∙ rw (no_made, no_awaited) refl in
    record {
      made = λ call n among does. rw made (h.made call n among does);
      awaited = λ call n among does. rw made (h.awaited call n among does);
      is_pending = λ name request is. h.is_pending name request (sym (same name) ∙ is);
      unique = λ name other request own is are. h.unique name other request own (sym (same name) ∙ is) (sym (same other) ∙ are);
      counted = made ∙ h.counted;
      count = rw (made, awaited) h.count;
    }

pub RequestsAre_none : RequestsAre [] []
RequestsAre_none = record {
  made = λ call n among does. absurd (none_of_none (Makes n) call among does);
  awaited = λ call n among does. absurd (none_of_none (Awaits n) call among does);
  is_pending = λ name request is. cc;
  unique = λ name other request own is are same. cc;
  counted = refl;
  count = refl;
}
