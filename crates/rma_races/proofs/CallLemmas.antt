-- The accesses of a run are as calls make them, and calls that access memory come in the order of their numbers.
use Rattle.std.proofs.Common.{◌≡◌, ◌+◌, ℕ, List, [], ◌∷◌, ◌++◌, Bool, true, false, cond, map, Option, Some, None, option_map, slice_get, is_some, refl, sym, ap, subst, ◌∙◌, ◌⊎◌, inl, inr, arith}
use Rattle.std.specs.Prelude.{Contains}
use Rattle.std.specs.Option.{option_and_then}
use Rattle.std.proofs.lemmas.Option.{none-some, option_and_then_some, same_Some}
use Rattle.rma_base.specs.declared.point.Point.{Point}
use Rattle.rma_base.specs.declared.rank.Rank.{Rank}
use Rattle.rma_bytes.specs.Layout.{Layout}
use Rattle.rma_bytes.specs.Runs.{moved}
use Rattle.rma_call.specs.Call.{Call, RankCalls}
use Rattle.rma_call.specs.declared.rma.RmaCall.{RmaCall}
use Rattle.rma_call.specs.declared.rma.RmaKind.{RmaKind}
use Rattle.rma_call.specs.declared.rma.RmaKind.TheVariants as rma
use Rattle.rma_call.specs.declared.what.What.{What}
use Rattle.rma_call.specs.declared.what.What.TheVariants.{Local, Rma, Sync}
use Rattle.rma_link.specs.Point.{entry}
use Rattle.rma_open.specs.Calls.{part_on}
use Rattle.rma_open.specs.Range.{touches_outside}
use Rattle.rma_rules.specs.Access.{Access, starts_of}
use Rattle.rma_rules.specs.Kind.{is_own, is_target}
use Rattle.rma_rules.specs.declared.access_name.Role.{Role}
use Rattle.rma_rules.specs.declared.access_name.Role.TheVariants as role
use Rattle.rma_rules.specs.declared.kind.Kind.{Kind}
use Rattle.rma_rules.specs.declared.kind.Kind.TheVariants.{BufferRead, BufferWrite}
use Rattle.rma_run.proofs.ContainLemmas.{filter_map_has, first_or_later, has_first, has_none, in_by_number, in_filter_map}
use Rattle.rma_run.proofs.PositionLemmas.{AreFrom, Rises, from_cons, from_rest, rises_cons}
use Rattle.rma_run.specs.Run.{by_number}
use Rattle.rma_touch.specs.Touch.{Touch, kind_at_origin, kind_at_target, kind_of_local}
use Rattle.rma_touch.specs.Touches.{Span, access_with, buffer_touch, has_none as has_no_run, if_any, own_touch, roles, start_in, target_touch, touch_at, touch_in}
use Rattle.rma_window.specs.Windows.{Window, number_of}
use Rattle.rma_window.specs.declared.part.Part.{Part}
use Rattle.rma_window.specs.declared.window_id.WindowId.{WindowId}
use Rattle.rma_span.specs.Span.{Origin, access_of, accesses, call_accesses, origin_of, own_span_of, span_of, spanned, spanned_calls}
use Rattle.rma_accesses.proofs.RankLemmas.{contained}
use Rattle.rma_points.proofs.AccessLemmas.{is_of_run}
use Rattle.rma_points.proofs.OptionLemmas.{mapped}
use Rattle.rma_history.specs.History.{IsOfCall}

-- ---- what a call touches is memory of its own rank, or of a target

-- memory of its own rank, or something at a target
abbrev IsOwnOrTarget : Rank → Touch → Type 0
IsOwnOrTarget rank touch = (touch.memory ≡ rank) ⊎ (is_target touch.kind ≡ true)

target_kind : (kind : RmaKind) → is_target (kind_at_target kind) ≡ true
target_kind rma.Put = refl
target_kind rma.Get = refl
target_kind (rma.Accumulate op) = refl
target_kind (rma.GetAccumulate op) = refl
target_kind (rma.FetchAndOp op) = refl
target_kind rma.CompareAndSwap = refl

any_is : (b : Bool) (given found : Touch) → cond b None (Some given) ≡ Some found → given ≡ found
any_is true given found is = absurd (none-some found is)
any_is false given found is = same_Some given found is

module _ (windows : List Window) (rank : Rank) (touch : Touch) where
  own_is : (own : Role) (kind : Kind) (layout : Layout) → own_touch rank own kind layout ≡ Some touch → IsOwnOrTarget rank touch
  own_is own kind layout is =
      let given : Touch = record { role = own; memory = rank; runs = layout.runs; kind = kind; window = None; element = None } in
      inl (ap (λ (t : Touch). t.memory) (sym (any_is (has_no_run layout.runs) given touch is)))

  buffer_is : (own : Role) (kind : Kind) (access : RmaCall) (buffer : Option Layout) → buffer_touch rank own kind access buffer ≡ Some touch → IsOwnOrTarget rank touch
  buffer_is own kind access buffer is =
      option_and_then_some (λ (target : Rank). option_and_then (own_touch rank own kind) buffer) access.target touch is
      (λ target aims at. option_and_then_some (own_touch rank own kind) buffer touch at (λ layout has touches. own_is own kind layout touches))

  part_is : (part : Part) (id : WindowId) (target : Rank) (access : RmaCall) → touch_in part id target access ≡ Some touch → is_target touch.kind ≡ true
  part_is part id target access is = ap (λ (t : Touch). is_target t.kind) (sym (by (touches_outside part access.displacement access.at_target.runs) is)) ∙ target_kind access.kind
    where
      given : Touch
      given = record {
        role = role.Target;
        memory = target;
        runs = map (moved (start_in part access.displacement)) access.at_target.runs;
        kind = kind_at_target access.kind;
        window = Some id;
        element = access.at_target.element;
      }

      by : (b : Bool) → cond b None (if_any given) ≡ Some touch → given ≡ touch
      by true at = absurd (none-some touch at)
      by false at = any_is (has_no_run given.runs) given touch at

  target_is : (access : RmaCall) → target_touch windows access ≡ Some touch → is_target touch.kind ≡ true
  target_is access is =
      option_and_then_some (λ (target : Rank). option_and_then (λ id. option_and_then (λ part. touch_in part id target access) (part_on windows (Rma access))) (number_of windows access.window)) access.target touch is
      (λ target aims at.
      option_and_then_some (λ (id : WindowId). option_and_then (λ part. touch_in part id target access) (part_on windows (Rma access))) (number_of windows access.window) touch at
      (λ id numbered also.
      option_and_then_some (λ (part : Part). touch_in part id target access) (part_on windows (Rma access)) touch also (λ part has touches. part_is part id target access touches)))

  touch_is : (does : What) (own : Role) → touch_at windows rank does own ≡ Some touch → IsOwnOrTarget rank touch
  touch_is (Local local) role.Local is = own_is role.Local (kind_of_local local.access) local.layout is
  touch_is (Local local) role.Target is = absurd (none-some touch is)
  touch_is (Local local) role.Origin is = absurd (none-some touch is)
  touch_is (Local local) role.Result is = absurd (none-some touch is)
  touch_is (Local local) role.Compare is = absurd (none-some touch is)
  touch_is (Rma access) role.Local is = absurd (none-some touch is)
  touch_is (Rma access) role.Target is = inr (target_is access is)
  touch_is (Rma access) role.Origin is = buffer_is role.Origin (kind_at_origin access.kind) access access.origin is
  touch_is (Rma access) role.Result is = buffer_is role.Result BufferWrite access access.result is
  touch_is (Rma access) role.Compare is = buffer_is role.Compare BufferRead access access.compare is
  touch_is (Sync sync) own is = absurd (none-some touch is)

-- ---- an access is as a call makes it

starts_at : (rank : Rank) (number : ℕ) (opening : Option Point) → Contains (starts_of rank number opening) (entry rank number)
starts_at rank number None = has_first (entry rank number) []
starts_at rank number (Some point) = has_first (entry rank number) (point ∷ [])

module _ (own : Origin) (number : ℕ) (call : Call) (does : Role) (a : Access) (touch : Touch) (span : Span) (touches : touch_at own.windows own.rank call.what does ≡ Some touch) (is : access_with own.rank number call touch span ≡ a) where
  of_touch : IsOfCall a
  of_touch = record {
    starts = subst (λ (it : Access). Contains it.starts (entry it.name.rank it.call)) is (starts_at own.rank number span.opening);
    own = λ kind. by kind (touch_is own.windows own.rank touch call.what does touches);
  }
    where
      by : is_own a.kind ≡ true → IsOwnOrTarget own.rank touch → a.name.rank ≡ a.memory
      by kind (inl mine) = ap (λ (it : Access). it.name.rank) (sym is) ∙ sym mine ∙ ap (λ (it : Access). it.memory) is
      by kind (inr target) =
          let same : is_target a.kind ≡ true = ap (λ (it : Access). is_target it.kind) (sym is) ∙ target in
          absurd (let no : ⊥ = cc in no)

-- a call of a rank makes it
pub made_by_call : (own : Origin) (number : ℕ) (call : Call) (a : Access) → Contains (call_accesses own number call) a → (a.call ≡ number) × (a.name.rank ≡ own.rank) × IsOfCall a
made_by_call own number call a has =
    let among = in_filter_map (access_of own number call) roles a has in
    option_and_then_some (λ (touch : Touch). option_map (access_with own.rank number call touch) (span_of own number call among.0)) (touch_at own.windows own.rank call.what among.0) a among.2
    (λ touch touches at.
    let span = mapped (access_with own.rank number call touch) (span_of own number call among.0) a at in
    (ap (λ (it : Access). it.call) (sym span.2), ap (λ (it : Access). it.name.rank) (sym span.2), of_touch own number call among.0 a touch span.0 touches span.2))

pub of_call : (ranks : List RankCalls) (a : Access) → Contains (accesses ranks) a → IsOfCall a
of_call ranks a has =
    let one = is_of_run ranks a has in
    let origin = origin_of ranks one.own in
    let made = in_by_number (call_accesses origin) 0 origin.sound a one.made in
    (made_by_call origin (0 + made.0) made.1 a made.3).2

-- each role has its place
role_place : (does : Role) → Contains roles does
role_place role.Local = contained roles 0 role.Local refl
role_place role.Target = contained roles 1 role.Target refl
role_place role.Origin = contained roles 2 role.Origin refl
role_place role.Result = contained roles 3 role.Result refl
role_place role.Compare = contained roles 4 role.Compare refl

-- what a call makes in a role is one of its accesses
pub of_role : (own : Origin) (number : ℕ) (call : Call) (does : Role) (a : Access) → access_of own number call does ≡ Some a → Contains (call_accesses own number call) a
of_role own number call does a is = filter_map_has (access_of own number call) roles does a (role_place does) is

-- ---- calls that access memory come in the order of their numbers

one_more : (n : ℕ) (rest : List ℕ) (b : Bool) → Rises rest × AreFrom (n + 1) rest → Rises (cond b (n ∷ []) [] ++ rest) × AreFrom n (cond b (n ∷ []) [] ++ rest)
one_more n rest true later = (rises_cons n rest later.1 later.0, from_cons n rest later.1)
one_more n rest false later = (later.0, from_rest n rest later.1)

module _ (own : Origin) where
  rise : (n : ℕ) (calls : List Call) → Rises (by_number (spanned own) n calls) × AreFrom n (by_number (spanned own) n calls)
  rise n [] = (λ i j less within. absurd (omega arith), λ k within. absurd (omega arith))
  rise n (call ∷ calls) = one_more n (by_number (spanned own) (n + 1) calls) (is_some (own_span_of own n call call.what)) (rise (n + 1) calls)

  pub numbers_rise : Rises (spanned_calls own)
  numbers_rise = (rise 0 own.sound).0

  -- a number is that of a sound call of the rank
  pub is_number : (k number : ℕ) → slice_get (spanned_calls own) k ≡ Some number → (call : Call) × (slice_get own.sound number ≡ Some call)
  is_number k number at =
      let has = contained (spanned_calls own) k number at in
      let one = in_by_number (spanned own) 0 own.sound number has in
      let same = only (0 + one.0) number (is_some (own_span_of own (0 + one.0) one.1 one.1.what)) one.3 in
      let here : one.0 ≡ number = omega (arith, same) in
      (one.1, subst (λ n. slice_get own.sound n ≡ Some one.1) here one.2)
    where
      only : (n number : ℕ) (b : Bool) → Contains (cond b (n ∷ []) []) number → n ≡ number
      only n number true has = first_or_later n number [] (λ is. is) (λ later. has_none number later) has
      only n number false has = has_none number has
