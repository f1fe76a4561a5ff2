-- The reasons of an event, from what a book keeps.
use Rattle.std.proofs.Common.{◌≡◌, ℕ, Bool, true, false, not, ◌||◌, ◌&&◌, List, [], ◌∷◌, Option, Some, None, is_some, is_none, option_map, cond, eqb, nat_lt, refl, sym, ap, ◌∙◌, ⊎_elim, arith}
use Rattle.std.specs.Map.{lookup}
use Rattle.std.proofs.lemmas.Bool.{cases_Bool}
use Rattle.std.specs.Option.{option_map_or, option_or}
use Rattle.rma_base.specs.RankSet.{has_number}
use Rattle.rma_base.specs.declared.rank.Rank.{Rank}
use Rattle.rma_base.specs.declared.version.Version.{Version}
use Rattle.rma_base.specs.declared.form_reason.FormReason.{FormReason}
use Rattle.rma_base.specs.declared.form_reason.FormReason.TheVariants.{BadHeader, WrongHeader, AfterEnd, UnknownComm, UnknownWindow, RankTooLarge, RequestPending, RootNotMember}
use Rattle.rma_form.specs.declared.event.Event.{Event}
use Rattle.rma_call.specs.declared.what.What.{What}
use Rattle.rma_form.specs.declared.event.Event.TheVariants.{Header, End, Call, Datatype, Rma, Local}
use Rattle.rma_buffer.specs.Operands.{operand_of, operands_of}
use Rattle.rma_type.specs.Table.{Table}
use Rattle.rma_judge.specs.Naming.{Attributes, attributes_of, no_attributes, on_comm, on_window, with_peer, with_root, with_target, is_header, is_end}
use Rattle.rma_judge.specs.Judging.{is_far, is_of_another_log, place_reason, name_reason, use_reason, lacks_type, type_reason, reason_of}
use Rattle.rma_judge.specs.Types.{is_datatype, types_after}
use Rattle.rma_judge.specs.Names.{is_same, world, has_comm, is_there, members, window_state}
use Rattle.rma_judge.specs.inside.BookState.{BookState, Represents, IsTaken, IsJudged}
use Rattle.rma_judge.proofs.StateLemmas.{Represents_taken}
use Rattle.rma_judge.specs.inside.CallEvent.{IsCall, IsCallOf}
use Rattle.rma_judge.proofs.TypeLemmas.{lacks_type_same, same_after, type_reason_same}

none_more : (reason : Option FormReason) → option_or reason None ≡ reason
none_more None = refl
none_more (Some reason) = refl

-- why an event that is no header is bad where it stands, if it is
abbrev pub later : BookState → Option FormReason
later book = cond (not book.begun) (Some BadHeader) (cond book.ended (Some AfterEnd) None)

-- an event that is no header stands behind the header, and before the end
pub of_place : (rank logs : ℕ) (book : BookState) (events : List Event) (event : Event) → Represents book events → is_header event ≡ false
    → is_of_another_log rank logs event ≡ false → place_reason rank logs events event ≡ later book
of_place rank logs book [] event h plain own = rw (h.begun, plain) refl
of_place rank logs book (first ∷ events) event h plain own = rw (h.begun, plain, own, h.ended) refl

pub of_header : (rank logs : ℕ) (book : BookState) (events : List Event) (version : Version) (r : Rank) (n : ℕ) → Represents book events
    → reason_of rank logs events (Header version r n) ≡ cond book.begun (Some BadHeader) (cond (eqb r.0 rank && eqb n logs) None (Some WrongHeader))
of_header rank logs book [] version r n h = rw h.begun (first (eqb r.0 rank) (eqb n logs))
  where
    first : (same_rank same_logs : Bool)
        → option_or (cond (not same_rank || not same_logs) (Some WrongHeader) None) None ≡ cond (same_rank && same_logs) None (Some WrongHeader)
    first true true = refl
    first true false = refl
    first false b = refl
of_header rank logs book (first ∷ events) version r n h = rw h.begun refl

pub of_end : (rank logs : ℕ) (book : BookState) (events : List Event) → Represents book events
    → reason_of rank logs events End ≡ option_or (later book) (cond (nat_lt book.requests.completed book.requests.made) (Some RequestPending) None)
of_end rank logs book events h = rw (of_place rank logs book events End h refl refl, h.completed, h.made) (ap (option_or (later book)) (none_more _))

-- an event that is neither a header nor the end
pub of_event : (rank logs : ℕ) (book : BookState) (events : List Event) (event : Event) (it : Attributes) (lacks : Bool) (typed : Option FormReason) → Represents book events
    → is_header event ≡ false → is_of_another_log rank logs event ≡ false → is_end event ≡ false → it ≡ attributes_of event
    → lacks ≡ lacks_type (types_after events) event → typed ≡ type_reason (types_after events) event
    → option_or (later book) (option_or (name_reason events it lacks) (option_or (use_reason rank logs events it false) typed)) ≡ reason_of rank logs events event
of_event rank logs book events event it lacks typed h plain own goes_on same lacking typing =
    rw (of_place rank logs book events event h plain own, goes_on, same, lacking, typing) refl

-- what is there is not missing
there : {A B : Type 0} (f : A → B) (o : Option A) (b : B) → option_map f o ≡ Some b → is_none o ≡ false
there f None b is = cc
there f (Some a) b is = refl

-- a call that does something is one
pub call_is : (types : Table) (does : What) (request : Option (List ℕ)) (event : Event) → IsCallOf types does request event → IsCall types event
call_is types does request (Header version rank size) is = let none : None ≡ Some does = is.does in cc none
call_is types does request End is = let none : None ≡ Some does = is.does in cc none
call_is types does request (Datatype line) is = let none : None ≡ Some does = is.does in cc none
call_is types does request (Call call own) is = record { plain = refl; own = λ rank logs. refl; goes_on = refl; other = refl; live = refl; good = is.good }
call_is types does request (Rma line own) is = record { plain = refl; own = λ rank logs. refl; goes_on = refl; other = refl; live = there _ (operands_of types.live line.access) does is.does; good = is.good }
call_is types does request (Local line) is = record { plain = refl; own = λ rank logs. refl; goes_on = refl; other = refl; live = there _ (operand_of types.live line.buffer) does is.does; good = is.good }

-- a call, judged by its names
pub of_call : (rank logs : ℕ) (book : BookState) (events : List Event) (event : Event) (it : Attributes) → Represents book events → IsCall book.types event → it ≡ attributes_of event
    → option_or (later book) (option_or (name_reason events it false) (use_reason rank logs events it false)) ≡ reason_of rank logs events event
of_call rank logs book events event it h is same =
    ap (λ used. option_or (later book) (option_or (name_reason events it false) used)) (sym (none_more (use_reason rank logs events it false)))
    ∙ of_event rank logs book events event it false None h is.plain (is.own rank logs) is.goes_on same
    (sym is.live ∙ lacks_type_same book.types (types_after events) h.types event) (sym is.good ∙ type_reason_same book.types (types_after events) h.types event)

-- an event that says nothing of names and ranks was taken
pub IsTaken_plain : (old new : BookState) (event : Event) → attributes_of event ≡ no_attributes → is_datatype event ≡ false → new ≡ record old { begun = true; ended = new.ended }
    → new.ended ≡ (old.ended || is_end event) → IsTaken old new event
IsTaken_plain old new event none plain same ended = record {
  rank = ap (λ (b : BookState). b.rank) same;
  logs = ap (λ (b : BookState). b.logs) same;
  begun = ap (λ (b : BookState). b.begun) same;
  ended = ended;
  comms = λ name. rw none (ap (λ (b : BookState). lookup (is_same name) b.comms) same);
  windows = λ name. rw none (ap (λ (b : BookState). lookup (is_same name) b.windows) same);
  requests = record {
    pending = λ name. rw none (ap (λ (b : BookState). lookup (is_same name) b.requests.pending) same);
    made = rw none (ap (λ (b : BookState). b.requests.made) same ∙ omega arith);
    completed = rw none (ap (λ (b : BookState). b.requests.completed) same ∙ omega arith);
  };
  types = same_after old.types new.types event (ap (λ (b : BookState). b.types) same) plain;
}

pub IsJudged_good : (old new : BookState) (event : Event) → ((events : List Event) → Represents old events → None ≡ reason_of old.rank old.logs events event)
    → IsTaken old new event → IsJudged old new event None
IsJudged_good old new event good taken = record {
  judged = good;
  taken = λ none events h. Represents_taken old new events event taken h;
  rank = taken.rank;
  logs = taken.logs;
}

pub IsJudged_bad : (old : BookState) (event : Event) (reason : FormReason) → ((events : List Event) → Represents old events → Some reason ≡ reason_of old.rank old.logs events event)
    → IsJudged old old event (Some reason)
IsJudged_bad old event reason bad = record {
  judged = bad;
  taken = λ none. cc;
  rank = refl;
  logs = refl;
}

-- ---- a call that says no more than one name

pub or_false : (b : Bool) → (b || false) ≡ b
or_false true = refl
or_false false = refl

-- what is not bad where it stands stands behind the header, and before the end
pub stands : (book : BookState) (rest : Option FormReason) → option_or (later book) rest ≡ None → (book.begun ≡ true) × (book.ended ≡ false)
stands book rest none =
    ⊎_elim
    (λ (begun : book.begun ≡ true).
    ⊎_elim (λ (ended : book.ended ≡ true). absurd (let wrong = rw (begun, ended) at none in cc wrong)) (λ (goes_on : book.ended ≡ false). (begun, goes_on)) (cases_Bool book.ended))
    (λ (new : book.begun ≡ false). absurd (let wrong = rw new at none in cc wrong))
    (cases_Bool book.begun)

-- the first reason, and the rest
pub cond_or : (b : Bool) (first : FormReason) (rest : Option FormReason) → cond b (Some first) rest ≡ option_or (cond b (Some first) None) rest
cond_or true first rest = refl
cond_or false first rest = refl

module _ (book : BookState) (event : Event) (is_call : IsCall book.types event) (reason : Option FormReason) where
  IsTaken_kept : (it : Attributes) → attributes_of event ≡ it → it.declared ≡ None → it.window ≡ None → it.made ≡ None → it.awaited ≡ None
      → book.begun ≡ true → IsTaken book book event
  IsTaken_kept it says declared window made awaited begun = record {
    rank = refl;
    logs = refl;
    begun = begun;
    ended = sym (rw is_call.goes_on (or_false book.ended));
    comms = λ name. rw (says, declared) refl;
    windows = λ name. rw (says, window) refl;
    requests = record {
      pending = λ name. rw (says, made, awaited) refl;
      made = rw (says, made) (omega arith);
      completed = rw (says, awaited) (omega arith);
    };
    types = same_after book.types book.types event refl is_call.other;
  }

  pub IsJudged_nothing : no_attributes ≡ attributes_of event → reason ≡ option_or (later book) None → IsJudged book book event reason
  IsJudged_nothing says is = record {
    judged = λ events h. is ∙ of_call book.rank book.logs book events event no_attributes h is_call says;
    taken = λ none events h. Represents_taken book book events event (IsTaken_kept no_attributes (sym says) refl refl refl refl (stands book _ (sym is ∙ none)).0) h;
    rank = refl;
    logs = refl;
  }

  pub IsJudged_on_comm : (comm : List ℕ) → on_comm comm ≡ attributes_of event
      → reason ≡ option_or (later book) (cond (not (is_same world comm || is_some (lookup (is_same comm) book.comms))) (Some UnknownComm) None)
      → IsJudged book book event reason
  IsJudged_on_comm comm says is = record {
    judged = λ events h.
        is
        ∙ ap (λ known. option_or (later book) (cond (not (is_same world comm || is_some known)) (Some UnknownComm) None)) (h.comms comm)
        ∙ ap (option_or (later book)) (sym (none_more (cond (not (has_comm events comm)) (Some UnknownComm) None)))
        ∙ of_call book.rank book.logs book events event (on_comm comm) h is_call says;
    taken = λ none events h.
        Represents_taken book book events event (IsTaken_kept (on_comm comm) (sym says) refl refl refl refl (stands book _ (sym is ∙ none)).0) h;
    rank = refl;
    logs = refl;
  }

  pub IsJudged_on_window : (window : List ℕ) → on_window window ≡ attributes_of event
      → reason ≡ option_or (later book) (cond (not (is_there (lookup (is_same window) book.windows))) (Some UnknownWindow) None)
      → IsJudged book book event reason
  IsJudged_on_window window says is = record {
    judged = λ events h.
        is
        ∙ ap (λ known. option_or (later book) (cond (not (is_there known)) (Some UnknownWindow) None)) (h.windows window)
        ∙ ap (option_or (later book)) (sym (none_more (cond (not (is_there (window_state events window))) (Some UnknownWindow) None)))
        ∙ of_call book.rank book.logs book events event (on_window window) h is_call says;
    taken = λ none events h.
        Represents_taken book book events event (IsTaken_kept (on_window window) (sym says) refl refl refl refl (stands book _ (sym is ∙ none)).0) h;
    rank = refl;
    logs = refl;
  }

  pub IsJudged_with_peer : (comm : List ℕ) (rank : ℕ) → with_peer comm rank ≡ attributes_of event
      → reason ≡ option_or (later book)
      (cond (not (is_same world comm || is_some (lookup (is_same comm) book.comms))) (Some UnknownComm) (cond (is_far book.logs rank) (Some RankTooLarge) None))
      → IsJudged book book event reason
  IsJudged_with_peer comm rank says is = record {
    judged = λ events h.
        is
        ∙ ap (λ known. option_or (later book) (cond (not (is_same world comm || is_some known)) (Some UnknownComm) (cond (is_far book.logs rank) (Some RankTooLarge) None))) (h.comms comm)
        ∙ ap (option_or (later book)) (cond_or (not (has_comm events comm)) UnknownComm (cond (is_far book.logs rank) (Some RankTooLarge) None))
        ∙ of_call book.rank book.logs book events event (with_peer comm rank) h is_call says;
    taken = λ none events h.
        Represents_taken book book events event (IsTaken_kept (with_peer comm rank) (sym says) refl refl refl refl (stands book _ (sym is ∙ none)).0) h;
    rank = refl;
    logs = refl;
  }

  pub IsJudged_with_target : (window : List ℕ) (rank : ℕ) → with_target window rank ≡ attributes_of event
      → reason ≡ option_or (later book)
      (cond (not (is_there (lookup (is_same window) book.windows))) (Some UnknownWindow) (cond (is_far book.logs rank) (Some RankTooLarge) None))
      → IsJudged book book event reason
  IsJudged_with_target window rank says is = record {
    judged = λ events h.
        is
        ∙ ap (λ known. option_or (later book) (cond (not (is_there known)) (Some UnknownWindow) (cond (is_far book.logs rank) (Some RankTooLarge) None))) (h.windows window)
        ∙ ap (option_or (later book)) (cond_or (not (is_there (window_state events window))) UnknownWindow (cond (is_far book.logs rank) (Some RankTooLarge) None))
        ∙ of_call book.rank book.logs book events event (with_target window rank) h is_call says;
    taken = λ none events h.
        Represents_taken book book events event (IsTaken_kept (with_target window rank) (sym says) refl refl refl refl (stands book _ (sym is ∙ none)).0) h;
    rank = refl;
    logs = refl;
  }

  pub IsJudged_with_root : (comm : List ℕ) (root : ℕ) → with_root comm root ≡ attributes_of event
      → reason ≡ option_or (later book)
      (cond (not (is_same world comm || is_some (lookup (is_same comm) book.comms))) (Some UnknownComm)
      (cond (is_far book.logs root) (Some RankTooLarge)
      (cond (not (option_map_or (has_number root) (lookup (is_same comm) book.comms) (nat_lt root book.logs))) (Some RootNotMember) None)))
      → IsJudged book book event reason
  IsJudged_with_root comm root says is = record {
    judged = λ events h.
        let rest = λ (known : Option (List ℕ)). cond (is_far book.logs root) (Some RankTooLarge) (cond (not (option_map_or (has_number root) known (nat_lt root book.logs))) (Some RootNotMember) None) in
        is
        ∙ ap (λ known. option_or (later book) (cond (not (is_same world comm || is_some known)) (Some UnknownComm) (rest known))) (h.comms comm)
        ∙ ap (option_or (later book)) (cond_or (not (has_comm events comm)) UnknownComm (rest (members events comm)))
        ∙ of_call book.rank book.logs book events event (with_root comm root) h is_call says;
    taken = λ none events h.
        Represents_taken book book events event (IsTaken_kept (with_root comm root) (sym says) refl refl refl refl (stands book _ (sym is ∙ none)).0) h;
    rank = refl;
    logs = refl;
  }
