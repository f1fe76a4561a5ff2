-- Events that speak of datatypes, or access memory, judged from what a book keeps.
use Rattle.std.proofs.Common.{◌≡◌, ℕ, Bool, true, false, List, [], ◌∷◌, Option, Some, None, is_some, option_map, not, cond, refl, sym, ap, subst, ◌∙◌, arith}
use Rattle.std.specs.Map.{lookup}
use Rattle.std.specs.Option.{option_map_or, option_or}
use Rattle.rma_base.specs.declared.form_reason.FormReason.{FormReason}
use Rattle.rma_base.specs.declared.rank.Rank.{Rank}
use Rattle.rma_base.specs.declared.form_reason.FormReason.TheVariants.{UnknownComm, UnknownWindow, UnknownRequest, UnknownType, NameInUse, RankTooLarge}
use Rattle.rma_form.specs.declared.event.Event.{Event}
use Rattle.rma_form.specs.declared.event.Event.TheVariants.{Datatype, Local}
use Rattle.rma_form.specs.declared.event.local_line.LocalLine.{LocalLine}
use Rattle.rma_form.specs.declared.event.type_line.TypeLine.{TypeLine}
use Rattle.rma_type.specs.Table.{Table}
use Rattle.rma_judge.specs.Judging.{first_that_holds, is_far, is_of_another_log, lacks_comm, lacks_request, lacks_type, lacks_window, name_reason, reason_of, takes_used_name, type_reason, use_reason}
use Rattle.rma_judge.specs.Naming.{Attributes, attributes_of, is_end, is_header, no_attributes, request_that, with_access}
use Rattle.rma_judge.specs.Names.{is_same, is_there, pending, window_state}
use Rattle.rma_judge.specs.Types.{types_after, with_event}
use Rattle.rma_judge.specs.inside.BookState.{BookState, IsChanged, IsJudged, IsTaken, Represents, SameTypes}
use Rattle.rma_judge.proofs.JudgingLemmas.{IsJudged_bad, IsJudged_good, later, of_event, or_false, stands}
use Rattle.rma_judge.proofs.TypeLemmas.{lacks_type_same, type_reason_same}

-- ---- reasons one after another

-- the reason is among the first
first_known : {R : Type 0} → (a b c d : Option R) (reason : R) → option_or a (option_or b c) ≡ Some reason → option_or a (option_or b (option_or c d)) ≡ Some reason
first_known (Some x) b c d reason is = is
first_known None (Some x) c d reason is = is
first_known None None (Some x) d reason is = is
first_known None None None d reason is = cc

-- it is not
last_known : {R : Type 0} → (a b c d : Option R) → option_or a (option_or b c) ≡ None → option_or a (option_or b (option_or c d)) ≡ d
last_known (Some x) b c d is = cc
last_known None (Some x) c d is = cc
last_known None None (Some x) d is = cc
last_known None None None d is = refl

-- where the name of a datatype is not live, a name is bad
lacks_none : (before : List Event) (it : Attributes) → name_reason before it true ≡ None → ⊥
lacks_none before it none =
    by (lacks_comm before it) (lacks_window before it) (lacks_request before it)
    (first_that_holds ((UnknownType, true) ∷ (NameInUse, takes_used_name before it) ∷ [])) refl none
  where
    by : (comm window request : Bool) (rest : Option FormReason) → rest ≡ Some UnknownType
        → cond comm (Some UnknownComm) (cond window (Some UnknownWindow) (cond request (Some UnknownRequest) rest)) ≡ None → ⊥
    by true window request rest is none = cc
    by false true request rest is none = cc
    by false false true rest is none = cc
    by false false false rest is none = cc

module _ (book : BookState) (event : Event) (it : Attributes) (lacks : Bool) (found : Option FormReason) (says : it ≡ attributes_of event) (lacking : lacks ≡ lacks_type book.types event)
    (plain : is_header event ≡ false) (own : (rank logs : ℕ) → is_of_another_log rank logs event ≡ false) (goes_on : is_end event ≡ false)
    (known : (events : List Event) → Represents book events → found ≡ option_or (later book) (option_or (name_reason events it lacks) (use_reason book.rank book.logs events it false))) where
  whole : (events : List Event) → Represents book events
      → option_or (later book) (option_or (name_reason events it lacks) (option_or (use_reason book.rank book.logs events it false) (type_reason book.types event)))
      ≡ reason_of book.rank book.logs events event
  whole events h =
      of_event book.rank book.logs book events event it lacks (type_reason book.types event) h plain (own book.rank book.logs) goes_on says
      (lacking ∙ lacks_type_same book.types (types_after events) h.types event) (type_reason_same book.types (types_after events) h.types event)

  -- a reason of its names, or of the ranks that it names
  pub bad_name : (reason : FormReason) → found ≡ Some reason → IsJudged book book event (Some reason)
  bad_name reason is =
      IsJudged_bad book event reason
      (λ events h. sym (first_known (later book) (name_reason events it lacks) (use_reason book.rank book.logs events it false) (type_reason book.types event) reason (sym (known events h) ∙ is)) ∙ whole events h)

  pub bad_type : (reason : FormReason) → found ≡ None → type_reason book.types event ≡ Some reason → IsJudged book book event (Some reason)
  bad_type reason none is =
      IsJudged_bad book event reason
      (λ events h. sym is ∙ sym (last_known (later book) (name_reason events it lacks) (use_reason book.rank book.logs events it false) (type_reason book.types event) (sym (known events h) ∙ none)) ∙ whole events h)

  pub good_type : (new : BookState) → found ≡ None → type_reason book.types event ≡ None → IsTaken book new event → IsJudged book new event None
  good_type new none is taken =
      IsJudged_good book new event
      (λ events h. sym is ∙ sym (last_known (later book) (name_reason events it lacks) (use_reason book.rank book.logs events it false) (type_reason book.types event) (sym (known events h) ∙ none)) ∙ whole events h)
      taken

  -- a name that is not live was told
  pub was_told : lacks ≡ true → found ≡ None → (events : List Event) → Represents book events → ⊥
  was_told lack none events h = step (later book) (use_reason book.rank book.logs events it false) (sym (known events h) ∙ none)
    where
      step : (a c : Option FormReason) → option_or a (option_or (name_reason events it lacks) c) ≡ None → ⊥
      step (Some x) c is = cc
      step None c is = inner (name_reason events it lacks) refl is
        where
          inner : (b : Option FormReason) → name_reason events it lacks ≡ b → option_or b c ≡ None → ⊥
          inner (Some x) at is = cc
          inner None at is = lacks_none events it (ap (name_reason events it) (sym lack) ∙ at)

-- ---- an event that says nothing of names and ranks

-- it leaves the book as it was
taken_nothing : (book : BookState) (event : Event) → attributes_of event ≡ no_attributes → is_end event ≡ false → book.begun ≡ true
    → ((table : Table) → SameTypes book.types table → SameTypes book.types (with_event table event)) → IsTaken book book event
taken_nothing book event says goes_on begun types = record {
  rank = refl;
  logs = refl;
  begun = begun;
  ended = sym (rw goes_on (or_false book.ended));
  comms = λ name. rw says refl;
  windows = λ name. rw says refl;
  requests = record {
    pending = λ name. rw says refl;
    made = rw says (omega arith);
    completed = rw says (omega arith);
  };
  types = types;
}

later_none : (book : BookState) → later book ≡ None → book.begun ≡ true
later_none book none = (stands book None (ap (λ o. option_or o None) none)).0

-- a local access that is good
pub local_good : (book : BookState) (line : LocalLine) → later book ≡ None → lacks_type book.types (Local line) ≡ false → type_reason book.types (Local line) ≡ None
    → IsJudged book book (Local line) None
local_good book line stand live good =
    IsJudged_good book book (Local line)
    (λ events h.
    let is = of_event book.rank book.logs book events (Local line) no_attributes false None h refl refl refl refl
    (sym live ∙ lacks_type_same book.types (types_after events) h.types (Local line)) (sym good ∙ type_reason_same book.types (types_after events) h.types (Local line)) in
    sym (ap (λ o. option_or o (option_or (name_reason events no_attributes false) (option_or (use_reason book.rank book.logs events no_attributes false) None))) stand) ∙ is)
    (taken_nothing book (Local line) refl refl (later_none book stand) (λ table same. same))

-- a line that speaks of a datatype
pub datatype_judged : (book : BookState) (types : Table) (line : TypeLine) (reason : Option FormReason) → later book ≡ None → IsChanged book.types types line reason
    → IsJudged book (record book { types = types }) (Datatype line) reason
datatype_judged book types line reason stand h = by reason h
  where
    told : (reason : Option FormReason) → IsChanged book.types types line reason → (events : List Event) → Represents book events
        → reason ≡ reason_of book.rank book.logs events (Datatype line)
    told reason h events represents =
        h.judged
        ∙ sym (ap (λ o. option_or o (option_or (name_reason events no_attributes false) (option_or (use_reason book.rank book.logs events no_attributes false) (type_reason book.types (Datatype line))))) stand)
        ∙ of_event book.rank book.logs book events (Datatype line) no_attributes false (type_reason book.types (Datatype line)) represents refl refl refl refl refl
        (type_reason_same book.types (types_after events) represents.types (Datatype line))

    by : (reason : Option FormReason) → IsChanged book.types types line reason → IsJudged book (record book { types = types }) (Datatype line) reason
    by None h =
        IsJudged_good book (record book { types = types }) (Datatype line) (told None h)
        (record {
          rank = refl;
          logs = refl;
          begun = later_none book stand;
          ended = sym (or_false book.ended);
          comms = λ name. refl;
          windows = λ name. refl;
          requests = record { pending = λ name. refl; made = omega arith; completed = omega arith };
          types = h.taken refl;
        })
    by (Some reason) h =
        subst (λ (table : Table). IsJudged book (record book { types = table }) (Datatype line) (Some reason)) (sym (h.kept refl))
        (IsJudged_bad book (Datatype line) reason (told (Some reason) h))

-- ---- an access

-- the reasons of its names and of its target, one after another
first_access : (place : Option FormReason) (a b c d : Bool) → place ≡ None
    → first_that_holds ((UnknownWindow, a) ∷ (UnknownType, b) ∷ (NameInUse, c) ∷ (RankTooLarge, d) ∷ [])
    ≡ option_or place (option_or (first_that_holds ((UnknownWindow, a) ∷ (UnknownType, b) ∷ (NameInUse, c) ∷ [])) (first_that_holds ((RankTooLarge, d) ∷ [])))
first_access place a b c d none = rw none (by a b c)
  where
    by : (a b c : Bool) → first_that_holds ((UnknownWindow, a) ∷ (UnknownType, b) ∷ (NameInUse, c) ∷ (RankTooLarge, d) ∷ [])
        ≡ option_or (first_that_holds ((UnknownWindow, a) ∷ (UnknownType, b) ∷ (NameInUse, c) ∷ [])) (first_that_holds ((RankTooLarge, d) ∷ []))
    by true b c = refl
    by false true c = refl
    by false false true = refl
    by false false false = refl

pub access_named : (book : BookState) (events : List Event) (window : List ℕ) (target : Option Rank) (request : Option (List ℕ)) (lacks there used far : Bool) (found : Option FormReason)
    → Represents book events → later book ≡ None
    → found ≡ first_that_holds ((UnknownWindow, not there) ∷ (UnknownType, lacks) ∷ (NameInUse, used) ∷ (RankTooLarge, far) ∷ [])
    → there ≡ is_there (lookup (is_same window) book.windows)
    → used ≡ option_map_or (λ made. is_some (pending events made.0)) (request_that false request) false
    → far ≡ option_map_or (is_far book.logs) (option_map (λ (rank : Rank). rank.0) target) false
    → found ≡ option_or (later book) (option_or (name_reason events (with_access window target request) lacks) (use_reason book.rank book.logs events (with_access window target request) false))
access_named book events window target request lacks there used far found h none is there_is used_is far_is =
    is ∙ rw (there_is, h.windows window, used_is, far_is) (first_access (later book) (not (is_there (window_state events window))) lacks _ _ none)
