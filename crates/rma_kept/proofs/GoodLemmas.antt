-- Good lines, one after another.
use Rattle.std.proofs.Common.{◌≡◌, ℕ, ◌+◌, Bool, true, false, List, [], ◌∷◌, ◌++◌, length, Option, Some, None, Result, Ok, Err, refl, sym, ap, subst, ◌∙◌, append_assoc}
use Rattle.std.specs.Option.{option_or}
use Rattle.std.specs.List.{list_any}
use Rattle.std.proofs.lemmas.List.{append-nil, length_push, take_at}
use Rattle.rma_base.specs.declared.form_reason.FormReason.{FormReason}
use Rattle.rma_base.specs.declared.form_reason.FormReason.TheVariants.{AfterEnd, BadHeader, NameInUse, NotDynamic, NotInGroup, OutOfSpace, RankTooLarge, RequestPending, RootNotMember, UnknownComm, UnknownRequest, UnknownType, UnknownWindow, WrongHeader, WrongWait}
use Rattle.rma_form.specs.Lines.{reading}
use Rattle.rma_form.specs.declared.event.Event.{Event}
use Rattle.rma_form.specs.declared.event.Stated.{Stated}
use Rattle.rma_base.specs.declared.version.Version.{Version}
use Rattle.rma_judge.specs.Judging.{attaches_wrongly, ends_early, first_that_holds, has_far_rank, is_of_another_log, lacks_comm, lacks_request, lacks_type, lacks_window, leaves_out, leaves_space, misplaces_header, misses_root, name_reason, place_reason, reason_of, takes_used_name, type_reason, use_reason, waits_wrongly}
use Rattle.rma_judge.specs.Naming.{attributes_of, is_end}
use Rattle.rma_judge.specs.Types.{types_after}
use Rattle.rma_log.proofs.ReadingLemmas.{entries_more}
use Rattle.rma_log.specs.Calls.{Entry, events_of, version_of}
use Rattle.rma_log.specs.Logs.{AreGood, Checked, entries, entry_of, judged, line_reason, says, says_after}
use Rattle.rma_kept.proofs.ListLemmas.{slice_get_next}

-- ---- an event for which no reason holds

-- none of the reasons holds
pub record IsGood (rank logs : ℕ) (before : List Event) (event : Event) : Type 0 where
  pub goes_on : list_any is_end before ≡ false
  pub comm : lacks_comm before (attributes_of event) ≡ false
  pub window : lacks_window before (attributes_of event) ≡ false
  pub request : lacks_request before (attributes_of event) ≡ false
  pub live : lacks_type (types_after before) event ≡ false
  pub free : takes_used_name before (attributes_of event) ≡ false
  pub ranks : has_far_rank logs (attributes_of event) ≡ false
  pub itself : leaves_out rank (attributes_of event) ≡ false
  pub wait : waits_wrongly before (attributes_of event) ≡ false
  pub space : leaves_space (attributes_of event) ≡ false
  pub completed : ends_early before event ≡ false
  pub root : misses_root logs before (attributes_of event) ≡ false
  pub dynamic : attaches_wrongly before (attributes_of event) ≡ false
  pub typed : type_reason (types_after before) event ≡ None

or_none : (a b : Option FormReason) → option_or a b ≡ None → (a ≡ None) × (b ≡ None)
or_none (Some x) b h = cc
or_none None b h = (refl, h)

none_placed : (a b c : Bool) → first_that_holds ((BadHeader, a) ∷ (WrongHeader, b) ∷ (AfterEnd, c) ∷ []) ≡ None
    → (a ≡ false) × (b ≡ false) × (c ≡ false)
none_placed true b c h = cc
none_placed false true c h = cc
none_placed false false true h = cc
none_placed false false false h = (refl, refl, refl)

none_named : (a b c d e : Bool) → first_that_holds ((UnknownComm, a) ∷ (UnknownWindow, b) ∷ (UnknownRequest, c) ∷ (UnknownType, d) ∷ (NameInUse, e) ∷ []) ≡ None
    → (a ≡ false) × (b ≡ false) × (c ≡ false) × (d ≡ false) × (e ≡ false)
none_named true b c d e h = cc
none_named false true c d e h = cc
none_named false false true d e h = cc
none_named false false false true e h = cc
none_named false false false false true h = cc
none_named false false false false false h = (refl, refl, refl, refl, refl)

none_used : (a b c d e f g : Bool) → first_that_holds ((RankTooLarge, a) ∷ (NotInGroup, b) ∷ (WrongWait, c) ∷ (OutOfSpace, d) ∷ (RequestPending, e) ∷ (RootNotMember, f) ∷ (NotDynamic, g) ∷ []) ≡ None
    → (a ≡ false) × (b ≡ false) × (c ≡ false) × (d ≡ false) × (e ≡ false) × (f ≡ false) × (g ≡ false)
none_used true b c d e f g h = cc
none_used false true c d e f g h = cc
none_used false false true d e f g h = cc
none_used false false false true e f g h = cc
none_used false false false false true f g h = cc
none_used false false false false false true g h = cc
none_used false false false false false false true h = cc
none_used false false false false false false false h = (refl, refl, refl, refl, refl, refl, refl)

pub good_from : (rank logs : ℕ) (before : List Event) (event : Event) → reason_of rank logs before event ≡ None → IsGood rank logs before event
good_from rank logs before event none =
    let it = attributes_of event in
    let types = types_after before in
    let lacks = lacks_type types event in
    let ends = ends_early before event in
    let at = or_none (place_reason rank logs before event)
    (option_or (name_reason before it lacks) (option_or (use_reason rank logs before it ends) (type_reason types event))) none in
    let named = or_none (name_reason before it lacks) (option_or (use_reason rank logs before it ends) (type_reason types event)) at.1 in
    let used = or_none (use_reason rank logs before it ends) (type_reason types event) named.1 in
    let stands = none_placed (misplaces_header before event) (is_of_another_log rank logs event) (list_any is_end before) at.0 in
    let names = none_named (lacks_comm before it) (lacks_window before it) (lacks_request before it) lacks (takes_used_name before it) named.0 in
    let uses = none_used (has_far_rank logs it) (leaves_out rank it) (waits_wrongly before it) (leaves_space it) ends (misses_root logs before it) (attaches_wrongly before it) used.0 in
    record {
      goes_on = stands.2;
      comm = names.0;
      window = names.1;
      request = names.2;
      live = names.3;
      free = names.4;
      ranks = uses.0;
      itself = uses.1;
      wait = uses.2;
      space = uses.3;
      completed = uses.4;
      root = uses.5;
      dynamic = uses.6;
      typed = used.1;
    }

-- ---- lines, one by one

-- the entry of a line with this number
abbrev pub at_line : ℕ → Stated → Entry
at_line number stated = record { line = record { 0 = number }; stated = stated }

module _ (rank logs : ℕ) (P : ℕ → List Entry → Type 0)
    (blank : (n : ℕ) (es : List Entry) → P n es → P (n + 1) es)
    (more : (n : ℕ) (es : List Entry) (version : Version) (text : List ℕ) (stated : Stated) → P n es → reading version text ≡ Ok (Some stated)
    → IsGood rank logs (events_of es) stated.event → P (n + 1) (es ++ at_line (n + 1) stated ∷ [])) where
  step : (n : ℕ) (es : List Entry) (version : Version) (line : Checked) (said : Result (Option Stated) FormReason) → says version line ≡ said → judged rank logs es said ≡ None
      → P n es → P (n + 1) (es ++ entry_of (n + 1) said)
  step n es version line (Ok None) is good h = subst (P (n + 1)) (sym (append-nil es)) (blank n es h)
  step n es version (Ok text) (Ok (Some stated)) is good h = more n es version text stated h is (good_from rank logs (events_of es) stated.event good)
  step n es version (Err reason) (Ok (Some stated)) is good h = cc
  step n es version line (Err reason) is good h = cc

  next : (before after : List Checked) (line : Checked) → AreGood rank logs (before ++ line ∷ after) → P (length before) (entries before)
      → P (length (before ++ line ∷ [])) (entries (before ++ line ∷ []))
  next before after line good h =
      let reason : line_reason rank logs before line ≡ None =
      ap (λ lines. line_reason rank logs lines line) (sym (take_at before (line ∷ after) (length before) refl)) ∙ good (length before) line (slice_get_next before after line) in
      let new = step (length before) (entries before) (version_of (entries before)) line (says_after before line) refl reason h in
      subst (λ n. P n (entries (before ++ line ∷ []))) (sym (length_push before line)) (subst (P (length before + 1)) (sym (entries_more before line)) new)

  from : (before after : List Checked) → AreGood rank logs (before ++ after) → P (length before) (entries before) → P (length (before ++ after)) (entries (before ++ after))
  from before [] good h = subst (λ lines. P (length lines) (entries lines)) (sym (append-nil before)) h
  from before (line ∷ after) good h =
      let same = append_assoc before (line ∷ []) after in
      subst (λ lines. P (length lines) (entries lines)) same
      (from (before ++ line ∷ []) after (subst (AreGood rank logs) (sym same) good) (next before after line good h))

  -- what holds of no line, and stays with each good line more, holds of good lines
  pub walk : (lines : List Checked) → P 0 [] → AreGood rank logs lines → P (length lines) (entries lines)
  walk lines none good = from [] lines good none
