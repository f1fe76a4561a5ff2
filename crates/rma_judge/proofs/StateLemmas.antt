-- What a book represents once it took one event more.
use Rattle.std.proofs.Common.{◌≡◌, ℕ, Bool, true, false, ◌+◌, ◌||◌, List, [], ◌∷◌, ◌++◌, Option, Some, None, cond, refl, sym, ap, subst, ◌∙◌, arith}
use Rattle.std.specs.Prelude.{option_map, unwrap_or}
use Rattle.std.specs.List.{list_any}
use Rattle.std.specs.Map.{lookup}
use Rattle.std.specs.Option.{option_or}
use Rattle.std.proofs.lemmas.List.Folds.{list_any-append}
use Rattle.rma_form.specs.declared.event.Event.{Event}
use Rattle.rma_judge.specs.Latest.{latest}
use Rattle.rma_judge.specs.Naming.{attributes_of, is_end}
use Rattle.rma_judge.specs.Names.{is_same, of_name, pending, request_state, request_change, made_by, awaited_by, makes, waits}
use Rattle.rma_judge.specs.inside.BookState.{BookState, Represents, IsTaken, SameTypes, has_begun}
use Rattle.rma_judge.specs.Types.{types_after}
use Rattle.rma_judge.proofs.TypeLemmas.{types_after_more}

option_or_assoc : {A : Type 0} → (a b c : Option A) → option_or (option_or a b) c ≡ option_or a (option_or b c)
option_or_assoc (Some x) b c = refl
option_or_assoc None b c = refl

pub option_or_none : {A : Type 0} → (a : Option A) → option_or None a ≡ option_or a None
option_or_none (Some x) = refl
option_or_none None = refl

-- the last word, with one thing more
pub latest_more : {E A : Type 0} → (says : E → Option A) (xs : List E) (x : E) → latest says (xs ++ x ∷ []) ≡ option_or (says x) (latest says xs)
latest_more says [] x = option_or_none (says x)
latest_more says (first ∷ xs) x = ap (λ o. option_or o (says first)) (latest_more says xs x) ∙ option_or_assoc (says x) (latest says xs) (says first)

pub unwrap_or_or : {A : Type 0} → (a b : Option A) (d : A) → unwrap_or (option_or a b) d ≡ unwrap_or a (unwrap_or b d)
unwrap_or_or (Some x) b d = refl
unwrap_or_or None b d = refl

-- what a table has at a name once something was put there
pub put_or : {A : Type 0} → (same : Bool) (value : A) (before : Option A) → cond same (Some value) before ≡ option_or (cond same (Some value) None) before
put_or true value before = refl
put_or false value before = refl

pub put_over : {A B : Type 0} → (make : B → A) (same : Bool) (value : B) (before : Option A)
    → cond same (Some (make value)) before ≡ unwrap_or (option_map (λ v. Some (make v)) (cond same (Some value) None)) before
put_over make true value before = refl
put_over make false value before = refl

pub made_by_more : (events : List Event) (event : Event) → made_by (events ++ event ∷ []) ≡ made_by events + makes (attributes_of event)
made_by_more [] event = omega arith
made_by_more (first ∷ events) event = let rest = made_by_more events event in omega arith

awaited_by_more : (events : List Event) (event : Event) → awaited_by (events ++ event ∷ []) ≡ awaited_by events + waits (attributes_of event)
awaited_by_more [] event = omega arith
awaited_by_more (first ∷ events) event = let rest = awaited_by_more events event in omega arith

request_state_more : (before : ℕ) (events : List Event) (event : Event) (name : List ℕ)
    → request_state before (events ++ event ∷ []) name ≡ option_or (request_change (before + made_by events) (attributes_of event) name) (request_state before events name)
request_state_more before [] event name =
    option_or_none (request_change before (attributes_of event) name) ∙ ap (λ n. option_or (request_change n (attributes_of event) name) None) (omega arith)
request_state_more before (first ∷ events) event name =
    let own = request_change before (attributes_of first) name in
    let rest = request_state (before + makes (attributes_of first)) events name in
    ap (λ o. option_or o own) (request_state_more (before + makes (attributes_of first)) events event name)
    ∙ option_or_assoc (request_change (before + makes (attributes_of first) + made_by events) (attributes_of event) name) rest own
    ∙ ap (λ n. option_or (request_change n (attributes_of event) name) (option_or rest own)) (omega arith)

pending_more : (events : List Event) (event : Event) (name : List ℕ) → pending (events ++ event ∷ []) name ≡ unwrap_or (request_change (made_by events) (attributes_of event) name) (pending events name)
pending_more events event name =
    let change = λ (n : ℕ). request_change n (attributes_of event) name in
    ap (λ o. unwrap_or o None) (request_state_more 0 events event name) ∙ unwrap_or_or (change (0 + made_by events)) (request_state 0 events name) None
    ∙ ap (λ n. unwrap_or (change n) (pending events name)) (omega arith)

has_begun_more : (events : List Event) (event : Event) → has_begun (events ++ event ∷ []) ≡ true
has_begun_more [] event = refl
has_begun_more (first ∷ events) event = refl

pub or_true : (b : Bool) → (b || true) ≡ true
or_true true = refl
or_true false = refl

pub or_false : (b : Bool) → (b || false) ≡ b
or_false true = refl
or_false false = refl

pub Represents_taken : (old new : BookState) (events : List Event) (event : Event) → IsTaken old new event → Represents old events → Represents new (events ++ event ∷ [])
Represents_taken old new events event taken h =
    let it = attributes_of event in
    record {
      begun = taken.begun ∙ sym (has_begun_more events event);
      ended = taken.ended ∙ ap (λ b. b || is_end event) h.ended
          ∙ sym (list_any-append is_end events (event ∷ []) ∙ ap (λ b. list_any is_end events || b) (or_false (is_end event)));
      comms = λ name. taken.comms name ∙ ap (λ o. option_or (of_name name it.declared) o) (h.comms name)
          ∙ sym (latest_more (λ e. of_name name (attributes_of e).declared) events event);
      windows = λ name. taken.windows name ∙ ap (λ o. option_or (of_name name it.window) o) (h.windows name)
          ∙ sym (latest_more (λ e. of_name name (attributes_of e).window) events event);
      pending = λ name. taken.requests.pending name ∙ ap (λ n. unwrap_or (request_change n it name) (lookup (is_same name) old.requests.pending)) h.made
          ∙ ap (λ o. unwrap_or (request_change (made_by events) it name) o) (h.pending name) ∙ sym (pending_more events event name);
      made = taken.requests.made ∙ ap (λ n. n + makes it) h.made ∙ sym (made_by_more events event);
      completed = taken.requests.completed ∙ ap (λ n. n + waits it) h.completed ∙ sym (awaited_by_more events event);
      types = subst (λ after. SameTypes new.types after) (sym (types_after_more events event)) (taken.types (types_after events) h.types);
    }
