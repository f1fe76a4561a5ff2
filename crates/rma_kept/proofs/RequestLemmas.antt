-- The requests that some calls make and wait for, with one call more.
use Rattle.std.proofs.Common.{◌≡◌, ℕ, zero, suc, ◌+◌, Bool, true, false, List, [], ◌∷◌, ◌++◌, Option, Some, None, is_some, option_map, refl, sym, ap, ◌∙◌, arith}
use Rattle.std.specs.Option.{option_and_then, option_or}
use Rattle.std.specs.Prelude.{unwrap_or}
use Rattle.rma_call.specs.Call.{Call}
use Rattle.rma_form.specs.declared.event.Event.{Event}
use Rattle.rma_judge.proofs.StateLemmas.{option_or_none, unwrap_or_or}
use Rattle.rma_judge.specs.Naming.{Attributes, attributes_of}
use Rattle.rma_judge.specs.Names.{awaited_by, is_same, made_by, makes, number_at, number_of, of_name, pending, request_change, request_number, request_state}
use Rattle.rma_judge.specs.Names as names
use Rattle.rma_judge.specs.declared.names.Pending.{Pending}
use Rattle.rma_kept.specs.Requests.{Awaits, Makes, received_by, receives, may_make}
use Rattle.rma_kept.proofs.RequestNameLemmas.{SaysRequest, request_of}

-- ---- what events make of requests, with one event more

option_or_assoc : {A : Type 0} → (a b c : Option A) → option_or (option_or a b) c ≡ option_or a (option_or b c)
option_or_assoc (Some x) b c = refl
option_or_assoc None b c = refl

pub awaited_by_more : (events : List Event) (event : Event) → awaited_by (events ++ event ∷ []) ≡ awaited_by events + names.waits (attributes_of event)
awaited_by_more [] event = omega arith
awaited_by_more (first ∷ events) event = let rest = awaited_by_more events event in omega arith

request_state_more : (before : ℕ) (events : List Event) (event : Event) (name : List ℕ)
    → request_state before (events ++ event ∷ []) name ≡ option_or (request_change (before + made_by events) (attributes_of event) name) (request_state before events name)
request_state_more before [] event name =
    option_or_none (request_change before (attributes_of event) name) ∙ ap (λ n. option_or (request_change n (attributes_of event) name) None) (omega arith)
request_state_more before (first ∷ events) event name =
    let own = request_change before (attributes_of first) name in
    let rest = request_state (before + makes (attributes_of first)) events name in
    ap (λ o. option_or o own) (request_state_more (before + makes (attributes_of first)) events event name)
    ∙ option_or_assoc (request_change (before + makes (attributes_of first) + made_by events) (attributes_of event) name) rest own
    ∙ ap (λ n. option_or (request_change n (attributes_of event) name) (option_or rest own)) (omega arith)

pub pending_more : (events : List Event) (event : Event) (name : List ℕ) → pending (events ++ event ∷ []) name ≡ unwrap_or (request_change (made_by events) (attributes_of event) name) (pending events name)
pending_more events event name =
    let change = λ (n : ℕ). request_change n (attributes_of event) name in
    ap (λ o. unwrap_or o None) (request_state_more 0 events event name) ∙ unwrap_or_or (change (0 + made_by events)) (request_state 0 events name) None
    ∙ ap (λ n. unwrap_or (change n) (pending events name)) (omega arith)

-- ---- the number of the request of a call

module _ (before : List Event) (it : Attributes) (call : Call) (says : SaysRequest it call.what) (number : call.request ≡ request_number before it) where
  -- the call makes the next request, under this name
  pub record MakesNext (n : ℕ) : Type 0 where
    pub may : may_make call.what ≡ true
    pub name : List ℕ
    pub made : it.made ≡ request_of name (receives call.what)
    pub is : n ≡ made_by before

  -- the call waits for this request, which is pending under this name
  pub record AwaitsPending (n : ℕ) : Type 0 where
    pub name : List ℕ
    pub request : Pending
    pub awaited : it.awaited ≡ request_of name (is_some (received_by call.what))
    pub is : pending before name ≡ Some request
    pub ordinal : request.ordinal ≡ suc n

  pub number_is : (made awaited : Option (List ℕ × Bool)) → it.made ≡ made → it.awaited ≡ awaited
      → call.request ≡ option_or (option_map (λ receives. made_by before) made) (option_and_then (λ (wait : List ℕ × Bool). option_and_then number_of (pending before wait.0)) awaited)
  number_is made awaited is_made is_awaited =
      number
      ∙ ap (λ (m : Option (List ℕ × Bool)). option_or (option_map (λ receives. made_by before) m) (option_and_then (λ (wait : List ℕ × Bool). option_and_then number_of (pending before wait.0)) it.awaited)) is_made
      ∙ ap (λ (a : Option (List ℕ × Bool)). option_or (option_map (λ receives. made_by before) made) (option_and_then (λ (wait : List ℕ × Bool). option_and_then number_of (pending before wait.0)) a)) is_awaited

  pub makes_next : (n : ℕ) → Makes n call → MakesNext n
  makes_next n makes = by it.made it.awaited refl refl
    where
      by : (made awaited : Option (List ℕ × Bool)) → it.made ≡ made → it.awaited ≡ awaited → MakesNext n
      by (Some (name, word)) awaited is_made is_awaited =
          let request : Some (made_by before) ≡ Some n = sym (number_is (Some (name, word)) awaited is_made is_awaited) ∙ makes.1 in
          let same : made_by before ≡ n = cc in
          record { may = (says.made name word is_made).3; name = name; made = is_made ∙ ap (request_of name) (sym (says.made name word is_made).1); is = sym same }
      by None (Some (name, word)) is_made is_awaited =
          let wrong : true ≡ false = sym (says.awaited name word is_awaited).0 ∙ makes.0 in cc wrong
      by None None is_made is_awaited =
          let wrong : None ≡ Some n = sym (number_is None None is_made is_awaited) ∙ makes.1 in cc wrong

  pub awaits_pending : (n : ℕ) → Awaits n call → AwaitsPending n
  awaits_pending n awaits = by it.made it.awaited refl refl
    where
      found : (name : List ℕ) (word : Bool) (request : Option Pending) → it.awaited ≡ request_of name word → pending before name ≡ request → option_and_then number_of request ≡ Some n → AwaitsPending n
      found name word None is_awaited is numbered = cc
      found name word (Some request) is_awaited is numbered = record {
        name = name;
        request = request;
        awaited = is_awaited ∙ ap (request_of name) (sym (says.awaited name word is_awaited).1);
        is = is;
        ordinal = at request.ordinal numbered;
      }
        where
          at : (ordinal : ℕ) → number_at ordinal ≡ Some n → ordinal ≡ suc n
          at zero h = cc
          at (suc m) h = cc

      by : (made awaited : Option (List ℕ × Bool)) → it.made ≡ made → it.awaited ≡ awaited → AwaitsPending n
      by (Some (name, word)) awaited is_made is_awaited =
          let wrong : false ≡ true = sym (says.made name word is_made).0 ∙ awaits.0 in cc wrong
      by None (Some (name, word)) is_made is_awaited =
          found name word (pending before name) is_awaited refl (sym (number_is None (Some (name, word)) is_made is_awaited) ∙ awaits.1)
      by None None is_made is_awaited =
          let wrong : None ≡ Some n = sym (number_is None None is_made is_awaited) ∙ awaits.1 in cc wrong
