-- Messages that make a request, and waits for requests, judged from what a book keeps.
use Rattle.std.proofs.Common.{◌≡◌, ℕ, ◌+◌, Bool, true, false, not, ◌||◌, List, Option, Some, None, is_some, is_none, option_map, cond, refl, sym, ap, ◌∙◌, arith}
use Rattle.std.specs.Map.{lookup}
use Rattle.std.specs.Option.{option_map_or, option_or}
use Rattle.std.specs.Prelude.{unwrap_or}
use Rattle.rma_base.specs.declared.rank.Rank.{Rank}
use Rattle.rma_base.specs.declared.form_reason.FormReason.{FormReason}
use Rattle.rma_base.specs.declared.form_reason.FormReason.TheVariants.{UnknownComm, UnknownRequest, NameInUse, RankTooLarge, WrongWait}
use Rattle.rma_form.specs.declared.event.Event.{Event}
use Rattle.rma_judge.specs.Naming.{Attributes, attributes_of}
use Rattle.rma_judge.specs.Judging.{differ, is_far, reason_of}
use Rattle.rma_judge.specs.Names.{is_same, makes, members, of_name, pending, world}
use Rattle.rma_judge.specs.declared.names.Pending.{Pending}
use Rattle.rma_judge.specs.declared.naming.NewRequest.{NewRequest}
use Rattle.rma_judge.specs.inside.BookState.{BookState, Represents, IsTaken}
use Rattle.rma_judge.specs.inside.CallEvent.{IsCall}
use Rattle.rma_judge.specs.inside.Naming.{making, waiting}
use Rattle.rma_judge.specs.inside.Requests.{AreChanged, RequestTable}
use Rattle.rma_judge.proofs.JudgingLemmas.{cond_or, later, of_call, or_false, stands}
use Rattle.rma_judge.proofs.StateLemmas.{option_or_none}
use Rattle.rma_judge.proofs.TypeLemmas.{same_after}

-- ---- a message that makes a request

pub of_making : (book : BookState) (event : Event) (it : NewRequest) → IsCall book.types event → making it ≡ attributes_of event → (events : List Event) → Represents book events
    → option_or (later book)
    (cond (not (is_same world it.comm.now || is_some (lookup (is_same it.comm.now) book.comms))) (Some UnknownComm)
    (cond (is_some (lookup (is_same it.name.now) book.requests.pending)) (Some NameInUse)
    (cond (option_map_or (is_far book.logs) (option_map (λ (rank : Rank). rank.0) it.peer) false) (Some RankTooLarge) None)))
    ≡ reason_of book.rank book.logs events event
of_making book event it is says events h =
    let far = cond (option_map_or (is_far book.logs) (option_map (λ (rank : Rank). rank.0) it.peer) false) (Some RankTooLarge) None in
    let name = λ (known : Option (List ℕ)) (request : Option Pending) (rest : Option FormReason).
    cond (not (is_same world it.comm.now || is_some known)) (Some UnknownComm) (cond (is_some request) (Some NameInUse) rest) in
    ap (λ known. option_or (later book) (name known (lookup (is_same it.name.now) book.requests.pending) far)) (h.comms it.comm.now)
    ∙ ap (λ request. option_or (later book) (name (members events it.comm.now) request far)) (h.pending it.name.now)
    ∙ ap (option_or (later book)) (two (not (is_same world it.comm.now || is_some (members events it.comm.now))) (is_some (pending events it.name.now)) UnknownComm NameInUse far)
    ∙ of_call book.rank book.logs book events event (making it) h is says
  where
    two : (a b : Bool) (first next : FormReason) (rest : Option FormReason)
        → cond a (Some first) (cond b (Some next) rest) ≡ option_or (cond a (Some first) (cond b (Some next) None)) rest
    two true b first next rest = refl
    two false b first next rest = cond_or b next rest

-- ---- the wait for a request

pub of_waiting : (book : BookState) (event : Event) (request : List ℕ) (from : Option Rank) → IsCall book.types event → waiting request from ≡ attributes_of event
    → (events : List Event) → Represents book events
    → option_or (later book)
    (cond (is_none (lookup (is_same request) book.requests.pending)) (Some UnknownRequest)
    (cond (option_map_or (is_far book.logs) (option_map (λ (rank : Rank). rank.0) from) false) (Some RankTooLarge)
    (cond (option_map_or (λ (it : Pending). differ it.receives (is_some from)) (lookup (is_same request) book.requests.pending) false) (Some WrongWait) None)))
    ≡ reason_of book.rank book.logs events event
of_waiting book event request from is says events h =
    let rest = λ (found : Option Pending). cond (option_map_or (is_far book.logs) (option_map (λ (rank : Rank). rank.0) from) false) (Some RankTooLarge)
    (cond (option_map_or (λ (it : Pending). differ it.receives (is_some from)) found false) (Some WrongWait) None) in
    ap (λ found. option_or (later book) (cond (is_none found) (Some UnknownRequest) (rest found))) (h.pending request)
    ∙ ap (option_or (later book)) (cond_or (is_none (pending events request)) UnknownRequest (rest (pending events request)))
    ∙ of_call book.rank book.logs book events event (waiting request from) h is says

-- ---- what is noted of both

-- a call that is good changes the requests alone, where it declares nothing and makes nothing of a window
pub taken_requests : (old new : BookState) (event : Event) (it : Attributes) → IsCall old.types event → it ≡ attributes_of event → it.declared ≡ None → it.window ≡ None
    → new ≡ record old { requests = new.requests } → (rest : Option FormReason) → option_or (later old) rest ≡ None → AreChanged old.requests new.requests it → IsTaken old new event
taken_requests old new event it is says declared window same rest good changed = record {
  rank = ap (λ (b : BookState). b.rank) same;
  logs = ap (λ (b : BookState). b.logs) same;
  begun = ap (λ (b : BookState). b.begun) same ∙ (stands old rest good).0;
  ended = ap (λ (b : BookState). b.ended) same ∙ sym (rw is.goes_on (or_false old.ended));
  comms = λ name. rw (← says, declared) (ap (λ (b : BookState). lookup (is_same name) b.comms) same);
  windows = λ name. rw (← says, window) (ap (λ (b : BookState). lookup (is_same name) b.windows) same);
  requests = rw (← says) changed;
  types = same_after old.types new.types event (ap (λ (b : BookState). b.types) same) is.other;
}

-- what an event makes of the request that it makes, where so many were made before it
abbrev pub made_of : ℕ → Attributes → List ℕ → Option (Option Pending)
made_of before it name = option_map (λ receives. Some (record { ordinal = before + 1; receives = receives })) (of_name name it.made)

pub changed_made : (old new : RequestTable) (it : Attributes) → it.awaited ≡ None
    → ((name : List ℕ) → lookup (is_same name) new.pending ≡ unwrap_or (made_of old.made it name) (lookup (is_same name) old.pending))
    → new.made ≡ old.made + makes it → new.completed ≡ old.completed → AreChanged old new it
changed_made old new it none pending made completed = record {
  pending = λ name. rw none (pending name ∙ ap (λ change. unwrap_or change (lookup (is_same name) old.pending)) (option_or_none (made_of old.made it name)));
  made = made;
  completed = rw none (completed ∙ omega arith);
}

pub changed_waiting : (old new : RequestTable) (request : List ℕ) (from : Option Rank)
    → ((name : List ℕ) → lookup (is_same name) new.pending ≡ cond (is_same request name) None (lookup (is_same name) old.pending))
    → new.made ≡ old.made → new.completed ≡ old.completed + 1 → AreChanged old new (waiting request from)
changed_waiting old new request from pending made completed = record {
  pending = λ name. pending name ∙ gone (is_same request name) (lookup (is_same name) old.pending);
  made = made ∙ omega arith;
  completed = completed;
}
  where
    gone : (same : Bool) (before : Option Pending) → cond same None before ≡ unwrap_or (option_map (λ received. None) (cond same (Some (is_some from)) None)) before
    gone true before = refl
    gone false before = refl
