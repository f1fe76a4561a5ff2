-- Each receive of a rank is found by the call that completes it.
use Rattle.std.proofs.Common.{◌≡◌, ℕ, zero, suc, ◌+◌, ◌<◌, ◌≤◌, Bool, true, false, List, [], ◌∷◌, ◌++◌, length, length-append, Option, Some, None, slice_get, eqb, ◌⊎◌, inl, inr, ⊎_elim, refl, sym, ap, subst, ◌∙◌, arith}
use Rattle.std.specs.Prelude.{IfSome}
use Rattle.std.specs.Option.{option_map_or}
use Rattle.std.proofs.lemmas.Bool.{cases_lt, eqb-true, false≢true}
use Rattle.std.proofs.lemmas.List.Elements.{All-nil, All-push, All-weaker}
use Rattle.std.proofs.lemmas.Option.{same_Some, slice_get_within}
use Rattle.rma_base.specs.declared.line.LineNo.{LineNo}
use Rattle.rma_call.specs.Call.{Call, RankCalls}
use Rattle.rma_call.specs.declared.what.What.{What}
use Rattle.rma_call.specs.declared.what.What.TheVariants.{Sync, Rma, Local}
use Rattle.rma_call.specs.declared.what.SyncCall.TheVariants.{Frame, Message, Window, Epoch, Moving}
use Rattle.rma_call.specs.declared.message.MessageCall.TheVariants.{Send, Isend, Recv, Irecv, Wait}
use Rattle.rma_call.specs.declared.message.Received.{Received}
use Rattle.rma_message.specs.declared.receive.Receive.{Receive}
use Rattle.rma_message.specs.declared.receive.Completion.{Completion}
use Rattle.rma_message.specs.Receive.{posted, waited, complete_at, open_at}
use Rattle.rma_message.specs.RankMessages.{RankMessages, no_messages, with_what, with_call, with_calls, messages_by}
use Rattle.rma_message.specs.Source.{completed_at, completes}
use Rattle.rma_message.specs.inside.Live.{AreBefore}
use Rattle.rma_message.proofs.NumberLemmas.{waited_done}
use Rattle.rma_message.proofs.PlaceLemmas.{not_completed, completed_other, completed_own, completed_now, completed_elsewhere, IsPending, pending_there}
use Rattle.rma_message.proofs.ListLemmas.{get_before, get_last}

-- what a call completes is the first that it completes
abbrev pub AreFound : List Receive → Type 0
AreFound rs = (q i : ℕ) (r : Receive) → slice_get rs i ≡ Some r → completes q r ≡ true → completed_at q rs ≡ Some i

-- ---- one more receive

found_posted : (rs : List Receive) (r : Receive) → AreFound rs → ((q : ℕ) → completes q r ≡ true → completed_at q rs ≡ None) → AreFound (rs ++ r ∷ [])
found_posted rs r are fresh q i x at done = ⊎_elim before last (cases_lt i (length rs))
  where
    before : i < length rs → completed_at q (rs ++ r ∷ []) ≡ Some i
    before lt = by (completes q r) refl
      where
        found : completed_at q rs ≡ Some i
        found = are q i x (sym (get_before rs (r ∷ []) i lt) ∙ at) done

        by : (b : Bool) → completes q r ≡ b → completed_at q (rs ++ r ∷ []) ≡ Some i
        by true h = absurd (let wrong : None ≡ Some i = sym (fresh q h) ∙ found in cc)
        by false h = completed_other q rs r h ∙ found

    last : length rs ≤ i → completed_at q (rs ++ r ∷ []) ≡ Some i
    last le =
        let lt : i < length (rs ++ r ∷ []) = slice_get_within (rs ++ r ∷ []) i x at in
        let longer : length (rs ++ r ∷ []) ≡ length rs + 1 = simp length-append refl in
        let same : length rs ≡ i = omega (arith, longer) in
        let own : x ≡ r = same_Some x r (sym at ∙ ap (slice_get (rs ++ r ∷ [])) (sym same) ∙ get_last rs r) in
        let its : completes q r ≡ true = ap (λ (y : Receive). completes q y) (sym own) ∙ done in
        completed_own q rs r (fresh q its) its ∙ ap Some same

-- ---- a receive that is complete now

complete_get : (index : ℕ) (done : Completion) (rs : List Receive) (i : ℕ) (x : Receive) → slice_get (complete_at index done rs) i ≡ Some x → ((i ≡ index) × (x.completion ≡ Some done)) ⊎ (slice_get rs i ≡ Some x)
complete_get index done [] i x at = cc
complete_get zero done (r ∷ rs) zero x at = inl (refl, ap (λ (y : Receive). y.completion) (sym (same_Some (record r { completion = Some done }) x at)))
complete_get zero done (r ∷ rs) (suc i) x at = inr at
complete_get (suc index) done (r ∷ rs) zero x at = inr at
complete_get (suc index) done (r ∷ rs) (suc i) x at =
    ⊎_elim (λ (here : (i ≡ index) × (x.completion ≡ Some done)). inl (ap suc here.0, here.1)) (λ (there : slice_get rs i ≡ Some x). inr there) (complete_get index done rs i x at)

found_completed : (index : ℕ) (done : Completion) (rs : List Receive) → AreFound rs → completed_at done.call rs ≡ None → IsPending rs index → AreFound (complete_at index done rs)
found_completed index done rs are fresh pending q i x at is_done = ⊎_elim here there (complete_get index done rs i x at)
  where
    here : (i ≡ index) × (x.completion ≡ Some done) → completed_at q (complete_at index done rs) ≡ Some i
    here (same, own) =
        let its : eqb done.call q ≡ true = ap (λ (d : Option Completion). option_map_or (λ (c : Completion). eqb c.call q) d false) (sym own) ∙ is_done in
        subst (λ n. completed_at n (complete_at index done rs) ≡ Some i) (eqb-true done.call q its) (completed_now index done rs pending.receive pending.there fresh ∙ ap Some (sym same))

    there : slice_get rs i ≡ Some x → completed_at q (complete_at index done rs) ≡ Some i
    there was = by (eqb done.call q) refl
      where
        found : completed_at q rs ≡ Some i
        found = are q i x was is_done

        by : (b : Bool) → eqb done.call q ≡ b → completed_at q (complete_at index done rs) ≡ Some i
        by true h =
            let none : completed_at q rs ≡ None = subst (λ n. completed_at n rs ≡ None) (eqb-true done.call q h) fresh in
            absurd (let wrong : None ≡ Some i = sym none ∙ found in cc)
        by false h = completed_elsewhere q index done rs pending.receive pending.there pending.not_complete h ∙ found

-- ---- calls

waited_found : (request : Option ℕ) (received : Option Received) (number : ℕ) (rs : List Receive) → AreBefore number rs → AreFound rs → AreFound (waited request received number rs)
waited_found None received number rs before are = are
waited_found (Some request) None number rs before are = are
waited_found (Some request) (Some received) number rs before are = by (open_at request rs) refl
  where
    by : (found : Option ℕ) → open_at request rs ≡ found → AreFound (option_map_or (λ index. complete_at index (record { from = received.from; tag = received.tag; call = number }) rs) found rs)
    by None at = are
    by (Some index) at = found_completed index (record { from = received.from; tag = received.tag; call = number }) rs are (not_completed number rs before) (pending_there request index rs at)

what_found : (m : RankMessages) (number : ℕ) (line : LineNo) (request : Option ℕ) (what : What) → AreBefore number m.receives → AreFound m.receives → AreFound (with_what m number line request what).receives
what_found m number line request (Sync (Message (Send to tag comm))) before are = are
what_found m number line request (Sync (Message (Isend to tag comm))) before are = are
what_found m number line request (Sync (Message (Recv from tag comm))) before are =
    found_posted m.receives (posted comm line None (Some (record { from = from; tag = tag; call = number }))) are
    (λ q own. subst (λ n. completed_at n m.receives ≡ None) (eqb-true number q own) (not_completed number m.receives before))
what_found m number line request (Sync (Message (Irecv comm))) before are = found_posted m.receives (posted comm line request None) are (λ q own. absurd (false≢true own))
what_found m number line request (Sync (Message (Wait received))) before are = waited_found request received number m.receives before are
what_found m number line request (Sync (Frame call)) before are = are
what_found m number line request (Sync (Window call)) before are = are
what_found m number line request (Sync (Epoch call)) before are = are
what_found m number line request (Sync (Moving call)) before are = are
what_found m number line request (Rma call) before are = are
what_found m number line request (Local call) before are = are

abbrev IsBefore : ℕ → Receive → Type 0
IsBefore number r = IfSome r.completion (λ c. c.call < number)

next_before : (number : ℕ) (rs : List Receive) → AreBefore number rs → AreBefore (number + 1) rs
next_before number rs before = All-weaker (IsBefore number) (IsBefore (number + 1)) (λ r is. by r.completion is) rs before
  where
    by : (done : Option Completion) → IfSome done (λ c. c.call < number) → IfSome done (λ c. c.call < number + 1)
    by None is = tt
    by (Some c) is = omega arith

pub what_before : (m : RankMessages) (number : ℕ) (line : LineNo) (request : Option ℕ) (what : What) → AreBefore number m.receives → AreBefore (number + 1) (with_what m number line request what).receives
what_before m number line request (Sync (Message (Send to tag comm))) before = next_before number m.receives before
what_before m number line request (Sync (Message (Isend to tag comm))) before = next_before number m.receives before
what_before m number line request (Sync (Message (Recv from tag comm))) before =
    All-push (IsBefore (number + 1)) m.receives (posted comm line None (Some (record { from = from; tag = tag; call = number }))) (next_before number m.receives before) (omega arith)
what_before m number line request (Sync (Message (Irecv comm))) before = All-push (IsBefore (number + 1)) m.receives (posted comm line request None) (next_before number m.receives before) tt
what_before m number line request (Sync (Message (Wait received))) before = waited_done (number + 1) request received number m.receives (omega arith) (next_before number m.receives before)
what_before m number line request (Sync (Frame call)) before = next_before number m.receives before
what_before m number line request (Sync (Window call)) before = next_before number m.receives before
what_before m number line request (Sync (Epoch call)) before = next_before number m.receives before
what_before m number line request (Sync (Moving call)) before = next_before number m.receives before
what_before m number line request (Rma call) before = next_before number m.receives before
what_before m number line request (Local call) before = next_before number m.receives before

calls_found : (m : RankMessages) (number : ℕ) (calls : List Call) → AreBefore number m.receives → AreFound m.receives → AreFound (with_calls m number calls).receives
calls_found m number [] before are = are
calls_found m number (call ∷ calls) before are =
    calls_found (with_call m number call) (number + 1) calls (what_before m number call.line call.request call.what before) (what_found m number call.line call.request call.what before are)

none_found : AreFound []
none_found q i r at done = cc

-- each receive of a rank is found
pub receives_are_found : (own : RankCalls) → AreFound (messages_by own).receives
receives_are_found own = calls_found (no_messages own.rank) 0 own.calls (All-nil (IsBefore 0)) none_found
