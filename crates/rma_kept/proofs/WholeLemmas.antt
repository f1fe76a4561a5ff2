-- The calls of a whole log, and of lines that are good so far.
use Rattle.std.proofs.Common.{◌≡◌, ℕ, ◌+◌, ◌<◌, ◌≤◌, Bool, true, false, ◌||◌, List, [], ◌∷◌, length, slice_get, Option, Some, None, cond, refl, sym, ap, subst, ◌∙◌, arith}
use Rattle.std.specs.List.{list_any}
use Rattle.std.specs.Option.{option_or}
use Rattle.std.specs.Prelude.{option_map, ◌==◌, if◌then◌else◌}
use Rattle.std.proofs.lemmas.Bool.{ltb-false, or_left, or_right}
use Rattle.rma_base.specs.declared.line.LineNo.{LineNo}
use Rattle.rma_base.specs.declared.rank.Rank.{Rank}
use Rattle.rma_call.specs.Call.{Call, RankCalls}
use Rattle.rma_call.specs.declared.rma.RmaCall.{RmaCall}
use Rattle.rma_call.specs.declared.what.What.TheVariants as what
use Rattle.rma_judge.specs.Naming.{is_end}
use Rattle.rma_judge.specs.Names.{awaited_by, made_by}
use Rattle.rma_lex.proofs.CheckLemmas.{length_checked_lines}
use Rattle.rma_lex.specs.Checked.{checked_lines}
use Rattle.rma_lex.specs.Line.{lines as lines_of, onto_first}
use Rattle.rma_log.specs.Calls.{Entry, calls_of, end_line, event_of, events_of}
use Rattle.rma_log.specs.Ends.{AreCallsOf}
use Rattle.rma_log.specs.Logs.{AreGood, Checked, entries}
use Rattle.rma_kept.specs.Kept.{AreKept, AreWhole}
use Rattle.rma_kept.specs.Naming.{SomeCall, names_of}
use Rattle.rma_kept.specs.Requests.{Awaits, Makes}
use Rattle.rma_kept.proofs.CountLemmas.{awaits_in, in_calls, none_open}
use Rattle.rma_kept.proofs.StateLemmas.{StateAfter, state_is}

pub kept_of_good : (rank logs : ℕ) (lines : List Checked) → AreGood rank logs lines → AreKept rank logs (calls_of (entries lines))
kept_of_good rank logs lines good = (state_is rank logs lines good).kept

pub few_of_good : (rank logs : ℕ) (lines : List Checked) → AreGood rank logs lines → length (calls_of (entries lines)) ≤ length lines
few_of_good rank logs lines good = let few = (state_is rank logs lines good).few in omega arith

-- ---- the end

is_ended : (es : List Entry) (end : LineNo) → end_line es ≡ Some end → list_any is_end (events_of es) ≡ true
is_ended [] end is = cc
is_ended (first ∷ rest) end is = by (end_line rest) refl is (is_ended rest)
  where
    by : (later : Option LineNo) → end_line rest ≡ later → option_or later (cond (is_end (event_of first)) (Some first.line) None) ≡ Some end
        → ((end : LineNo) → end_line rest ≡ Some end → list_any is_end (events_of rest) ≡ true) → (is_end (event_of first) || list_any is_end (events_of rest)) ≡ true
    by (Some line) there is ended = or_right (is_end (event_of first)) (list_any is_end (events_of rest)) (ended line there)
    by None none is ended = or_left (is_end (event_of first)) (list_any is_end (events_of rest)) (here (is_end (event_of first)) is)
      where
        here : (b : Bool) → cond b (Some first.line) None ≡ Some end → b ≡ true
        here true is = refl
        here false is = cc

module _ (rank logs : ℕ) (lines : List Checked) (own : RankCalls) (is : AreCallsOf rank logs lines own) where
  state : StateAfter rank logs (length lines) (entries lines)
  state = state_is rank logs lines is.good.0

  ended : list_any is_end (events_of (entries lines)) ≡ true
  ended = is_ended (entries lines) own.end is.end_is

  abbrev recorded : List Call
  recorded = calls_of (entries lines)

  all_awaited : (number : ℕ) → SomeCall (Makes number) recorded → SomeCall (Awaits number) recorded
  all_awaited number some =
      let below = state.request.made some.0 number some.1 some.2 in
      let all = ltb-false (awaited_by (events_of (entries lines))) (made_by (events_of (entries lines))) (state.completed ended) in
      let count = state.request.count in
      in_calls number recorded (none_open (awaits_in recorded) (made_by (events_of (entries lines))) number (omega arith) below)

  pub whole_is : AreWhole own.rank.0 logs own.calls
  whole_is =
      subst (λ n. AreWhole n logs own.calls) (sym is.of_rank)
      (subst (AreWhole rank logs) (sym is.calls_are) (record { kept = state.kept; all_awaited = all_awaited }))

  pub fewer_calls : length own.calls < length lines
  fewer_calls =
      let few : length recorded + 1 ≤ length lines = subst (λ (b : Bool). length recorded + cond b 1 0 ≤ length lines) ended state.few in
      subst (λ them. length them < length lines) (sym is.calls_are) (omega arith)

-- ---- how many lines a text has

few_onto : (byte : ℕ) (lines : List (List ℕ)) → length (onto_first byte lines) ≤ length lines + 1
few_onto byte [] = omega arith
few_onto byte (line ∷ rest) = omega arith

few_lines : (text : List ℕ) → length (lines_of text) ≤ length text
few_lines [] = omega arith
few_lines (byte ∷ bytes) = by (byte == 10) (few_lines bytes)
  where
    by : (ends : Bool) → length (lines_of bytes) ≤ length bytes → length (if ends then [] ∷ lines_of bytes else onto_first byte (lines_of bytes)) ≤ length (byte ∷ bytes)
    by true few = omega arith
    by false few = let more = few_onto byte (lines_of bytes) in omega arith

pub few_checked : (text : List ℕ) → length (checked_lines text) ≤ length text
few_checked text = let same = length_checked_lines text in let few = few_lines text in omega arith

pub fewer_than_bytes : (rank logs : ℕ) (text : List ℕ) (own : RankCalls) → AreCallsOf rank logs (checked_lines text) own → length own.calls < length text
fewer_than_bytes rank logs text own is = let fewer = fewer_calls rank logs (checked_lines text) own is in let few = few_checked text in omega arith

-- ---- what follows from kept calls

pub target_below : (rank logs place : ℕ) (calls : List Call) (call : Call) (access : RmaCall) (target : Rank) → AreKept rank logs calls → slice_get calls place ≡ Some call
    → call.what ≡ what.Rma access → access.target ≡ Some target → target.0 < logs
target_below rank logs place calls call access target kept there does to =
    (kept place call there).rank_has_log target.0 (ap (λ does. (names_of does).rank) does ∙ ap (λ (to : Option Rank). option_map (λ (rank : Rank). rank.0) to) to)
