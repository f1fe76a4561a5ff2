-- What holds after good lines, with one good line more.
use Rattle.std.proofs.Common.{◌≡◌, ℕ, ◌+◌, ◌≤◌, Bool, true, false, ◌||◌, ◌&&◌, List, [], ◌∷◌, ◌++◌, length, Option, Some, None, is_some, cond, refl, sym, ap, subst, ◌∙◌, ⊎_elim, arith}
use Rattle.std.specs.List.{Contains, list_any}
use Rattle.std.specs.Option.{option_or}
use Rattle.std.specs.Prelude.{nat_lt, option_map, option_to_list}
use Rattle.std.proofs.lemmas.Bool.{false≢true}
use Rattle.std.proofs.lemmas.List.{append-nil, length_push}
use Rattle.std.proofs.lemmas.List.Elements.{Contains-push_cases}
use Rattle.std.proofs.lemmas.List.Folds.{list_any-append}
use Rattle.rma_call.specs.Call.{Call}
use Rattle.rma_call.specs.declared.what.What.{What}
use Rattle.rma_form.specs.declared.event.Event.{Event}
use Rattle.rma_form.specs.declared.event.Event.TheVariants as event
use Rattle.rma_form.specs.declared.event.Stated.{Stated}
use Rattle.rma_judge.proofs.StateLemmas.{latest_more, made_by_more}
use Rattle.rma_judge.specs.Calls.{what_in}
use Rattle.rma_judge.specs.Naming.{Attributes, attributes_of, is_end, no_attributes}
use Rattle.rma_judge.specs.Names.{awaited_by, has_pending, made_by, members, of_name, request_number, window_state}
use Rattle.rma_judge.specs.Types.{types_after}
use Rattle.rma_judge.specs.declared.names.WindowState.{WindowState}
use Rattle.rma_log.proofs.EntryLemmas.{calls_of_more, events_of_more}
use Rattle.rma_log.specs.Calls.{Entry, call_with, calls_of, events_of}
use Rattle.rma_log.specs.Logs.{AreGood, Checked, entries}
use Rattle.rma_kept.specs.Naming.{Creates, Declares, Frees}
use Rattle.rma_kept.proofs.AmongLemmas.{none_of_none}
use Rattle.rma_kept.proofs.CommLemmas.{CommIs, CommIs_more}
use Rattle.rma_kept.proofs.GoodLemmas.{IsGood, at_line, walk}
use Rattle.rma_kept.proofs.KeptLemmas.{IsOfEvent, StateIs, kept_after, not_had}
use Rattle.rma_kept.proofs.ListLemmas.{kept_more}
use Rattle.rma_kept.proofs.MemoryLemmas.{touches_good}
use Rattle.rma_kept.proofs.NamingLemmas.{call_says, others_say}
use Rattle.rma_kept.proofs.PendingLemmas.{RequestsAre_call, RequestsAre_none, RequestsAre_other}
use Rattle.rma_kept.proofs.RequestLemmas.{awaited_by_more}
use Rattle.rma_kept.proofs.RequestNameLemmas.{request_asked, request_says}
use Rattle.rma_kept.proofs.FormLemmas.{Named, line_named}
use Rattle.rma_kept.proofs.WindowLemmas.{WindowIs, WindowIs_more}

no_state : (state : Option WindowState) → is_some state ≡ false → state ≡ None
no_state None h = refl
no_state (Some state) h = cc

ended_more : (events : List Event) (event : Event) → list_any is_end (events ++ event ∷ []) ≡ (list_any is_end events || (is_end event || false))
ended_more events event = list_any-append is_end events (event ∷ [])

at_most_one : (b : Bool) → cond b 1 0 ≤ 1
at_most_one true = omega arith
at_most_one false = omega arith

-- ---- an event that is a call

call_goes_on : (events : List Event) (event : Event) (does : What) → what_in (types_after events) event ≡ Some does → is_end event ≡ false
call_goes_on events (event.Header version rank size) does is = refl
call_goes_on events event.End does is = let none : None ≡ Some does = is in cc none
call_goes_on events (event.Datatype line) does is = refl
call_goes_on events (event.Call call request) does is = refl
call_goes_on events (event.Rma line request) does is = refl
call_goes_on events (event.Local line) does is = refl

module _ (rank logs lines : ℕ) (events : List Event) (event : Event) (calls : List Call) (h : StateIs rank logs lines events calls) (good : IsGood rank logs events event) where
  abbrev it : Attributes
  it = attributes_of event

  state_call : (call : Call) → IsOfEvent events event call → call.line.0 ≡ lines + 1 → is_end event ≡ false → StateIs rank logs (lines + 1) (events ++ event ∷ []) (calls ++ call ∷ [])
  state_call call is at goes_on =
      let ended : list_any is_end (events ++ event ∷ []) ≡ false = ended_more events event ∙ rw (good.goes_on, goes_on) refl in
      record {
        kept = kept_more rank logs calls call h.kept (kept_after rank logs lines events event calls call h good is at);
        line = λ other among. ⊎_elim
            (λ (old : Contains calls other). let le = h.line other old in omega arith)
            (λ (here : call ≡ other). let same = ap (λ (c : Call). c.line.0) here in omega arith)
            (Contains-push_cases calls call other among);
        few = let few = h.few in let len = length_push calls call in rw ended (omega arith);
        window = λ name. subst (λ state. WindowIs state name (calls ++ call ∷ [])) (sym (latest_more (λ e. of_name name (attributes_of e).window) events event))
            (WindowIs_more name calls call it.window (window_state events name) (ap (λ (a : Attributes). a.window) is.names)
            (λ dynamic creates. no_state (window_state events name) (not_had rank logs lines events event calls call h good is name (dynamic, ap (λ (a : Attributes). a.window) is.names ∙ creates)))
            (h.window name));
        comm = λ name. subst (λ state. CommIs state name (calls ++ call ∷ [])) (sym (latest_more (λ e. of_name name (attributes_of e).declared) events event))
            (CommIs_more name calls call it.declared (members events name) (ap (λ (a : Attributes). a.declared) is.names) (h.comm name));
        request = RequestsAre_call events event calls call is.says is.number h.request good.request;
        completed = λ wrong. absurd (false≢true (sym ended ∙ wrong));
      }

  -- ---- an event that is none

  state_other : it ≡ no_attributes → StateIs rank logs (lines + 1) (events ++ event ∷ []) calls
  state_other says = record {
    kept = h.kept;
    line = λ other among. let le = h.line other among in omega arith;
    few = few;
    window = λ name. subst (λ state. WindowIs state name calls)
        (sym (latest_more (λ e. of_name name (attributes_of e).window) events event ∙ ap (λ (a : Attributes). option_or (of_name name a.window) (window_state events name)) says)) (h.window name);
    comm = λ name. subst (λ state. CommIs state name calls)
        (sym (latest_more (λ e. of_name name (attributes_of e).declared) events event ∙ ap (λ (a : Attributes). option_or (of_name name a.declared) (members events name)) says)) (h.comm name);
    request = RequestsAre_other events event calls (ap (λ (a : Attributes). a.made) says) (ap (λ (a : Attributes). a.awaited) says) h.request;
    completed = λ ended. completed (ended_now ended);
  }
    where
      few : length calls + cond (list_any is_end (events ++ event ∷ [])) 1 0 ≤ lines + 1
      few =
          let before : length calls + 0 ≤ lines = subst (λ (b : Bool). length calls + cond b 1 0 ≤ lines) good.goes_on h.few in
          let most = at_most_one (list_any is_end (events ++ event ∷ [])) in omega arith

      ended_now : list_any is_end (events ++ event ∷ []) ≡ true → is_end event ≡ true
      ended_now ended = last (is_end event) (ap (λ b. b || (is_end event || false)) (sym good.goes_on) ∙ sym (ended_more events event) ∙ ended)
        where
          last : (b : Bool) → (false || (b || false)) ≡ true → b ≡ true
          last true h = refl
          last false h = h

      same_pending : has_pending (events ++ event ∷ []) ≡ has_pending events
      same_pending =
          let made : made_by (events ++ event ∷ []) ≡ made_by events = made_by_more events event ∙ ap (λ (a : Attributes). made_by events + cond (is_some a.made) 1 0) says ∙ omega arith in
          let awaited : awaited_by (events ++ event ∷ []) ≡ awaited_by events = awaited_by_more events event ∙ ap (λ (a : Attributes). awaited_by events + cond (is_some a.awaited) 1 0) says ∙ omega arith in
          ap (λ n. nat_lt n (made_by (events ++ event ∷ []))) awaited ∙ ap (nat_lt (awaited_by events)) made

      completed : is_end event ≡ true → has_pending (events ++ event ∷ []) ≡ false
      completed now = same_pending ∙ ap (λ b. b && has_pending events) (sym now) ∙ good.completed

-- ---- good lines

no_lines : (rank logs : ℕ) → StateIs rank logs 0 [] []
no_lines rank logs = record {
  kept = λ place call there. cc;
  line = λ call among. absurd (none_of_none (λ other. Unit {0}) call among tt);
  few = omega arith;
  window = λ name. (none_of_none (Creates name), none_of_none (Frees name));
  comm = λ name. none_of_none (Declares name);
  request = RequestsAre_none;
  completed = λ ended. absurd (false≢true ended);
}

abbrev pub StateAfter : ℕ → ℕ → ℕ → List Entry → Type 0
StateAfter rank logs lines es = StateIs rank logs lines (events_of es) (calls_of es)

next_line : (rank logs n : ℕ) (es : List Entry) → StateAfter rank logs n es → StateAfter rank logs (n + 1) es
next_line rank logs n es h = record {
  kept = h.kept;
  line = λ call among. let le = h.line call among in omega arith;
  few = let few = h.few in omega arith;
  window = h.window;
  comm = h.comm;
  request = h.request;
  completed = h.completed;
}

next_entry : (rank logs n : ℕ) (es : List Entry) (stated : Stated) → StateAfter rank logs n es → Named stated.event → IsGood rank logs (events_of es) stated.event
    → StateAfter rank logs (n + 1) (es ++ at_line (n + 1) stated ∷ [])
next_entry rank logs n es stated h named good =
    let entry = at_line (n + 1) stated in
    subst (λ events. StateIs rank logs (n + 1) events (calls_of (es ++ entry ∷ []))) (sym (events_of_more es entry))
    (subst (StateIs rank logs (n + 1) (events_of es ++ stated.event ∷ [])) (sym (calls_of_more es entry)) (by (what_in (types_after (events_of es)) stated.event) refl))
  where
    by : (does : Option What) → what_in (types_after (events_of es)) stated.event ≡ does
        → StateIs rank logs (n + 1) (events_of es ++ stated.event ∷ [])
        (calls_of es ++ option_to_list (option_map (call_with (record { 0 = n + 1 }) stated.site (request_number (events_of es) (attributes_of stated.event))) does))
    by None is =
        subst (StateIs rank logs (n + 1) (events_of es ++ stated.event ∷ [])) (sym (append-nil (calls_of es)))
        (state_other rank logs n (events_of es) stated.event (calls_of es) h good (others_say (types_after (events_of es)) stated.event is good.live))
    by (Some does) is =
        let types = types_after (events_of es) in
        state_call rank logs n (events_of es) stated.event (calls_of es) h good (call_with (record { 0 = n + 1 }) stated.site (request_number (events_of es) (attributes_of stated.event)) does)
        (record {
          names = call_says types stated.event does is;
          says = request_says types stated.event does is;
          number = refl;
          touches = touches_good types stated.event does is good.typed;
          asks = request_asked types stated.event does is named;
        })
        refl (call_goes_on (events_of es) stated.event does is)

pub state_is : (rank logs : ℕ) (lines : List Checked) → AreGood rank logs lines → StateAfter rank logs (length lines) (entries lines)
state_is rank logs lines good =
    walk rank logs (StateAfter rank logs) (next_line rank logs) (λ n es version text stated h read is_good. next_entry rank logs n es stated h (line_named version text stated read) is_good) lines (no_lines rank logs) good
