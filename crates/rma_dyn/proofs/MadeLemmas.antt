-- The accesses of a rank that are made at targets, and the calls that make them.
use Rattle.std.proofs.Common.{◌≡◌, ◌+◌, ◌<◌, ℕ, [], ◌∷◌, Bool, true, false, cond, length, Option, Some, None, option_map, is_some, slice_get, refl, sym, ap, subst, ◌∙◌, arith}
use Rattle.std.specs.Prelude.{Contains}
use Rattle.std.specs.Option.{option_and_then}
use Rattle.std.proofs.lemmas.Option.{none-some, option_and_then_some, same_Some, slice_get_within}
use Rattle.rma_base.specs.declared.rank.Rank.{Rank}
use Rattle.rma_bytes.specs.Layout.{Layout}
use Rattle.rma_call.specs.Call.{Call}
use Rattle.rma_call.specs.declared.rma.RmaCall.{RmaCall}
use Rattle.rma_call.specs.declared.what.What.{What}
use Rattle.rma_call.specs.declared.what.What.TheVariants.{Local, Rma, Sync}
use Rattle.rma_run.proofs.ContainLemmas.{by_number_has, first_or_later, has_first, has_none, in_by_number, in_filter_map}
use Rattle.rma_window.specs.declared.window_id.WindowId.{WindowId}
use Rattle.rma_rules.specs.Access.{Access}
use Rattle.rma_rules.specs.declared.access_name.Role.{Role}
use Rattle.rma_rules.specs.declared.access_name.Role.TheVariants as role
use Rattle.rma_rules.specs.declared.kind.Kind.{Kind}
use Rattle.rma_touch.specs.Touch.{Touch}
use Rattle.rma_touch.specs.Touches.{Span, access_with, buffer_touch, has_none as has_no_run, own_touch, roles, touch_at}
use Rattle.rma_points.proofs.OptionLemmas.{mapped}
use Rattle.rma_span.specs.Span.{Origin, access_of, accesses_of, buffer_span, call_accesses, epoch_of, own_span_of, span_of, spanned, spanned_calls, target_span, target_span_of}

-- an access is what a call of the rank touches in a role, with its span
pub record IsMade (own : Origin) (a : Access) : Type 0 where
  pub number : ℕ
  pub call : Call
  pub role : Role
  pub touch : Touch
  pub span : Span
  pub there : slice_get own.sound number ≡ Some call
  pub touches : touch_at own.windows own.rank call.what role ≡ Some touch
  pub lies : span_of own number call role ≡ Some span
  pub is : access_with own.rank number call touch span ≡ a
  pub of : access_of own number call role ≡ Some a

pub is_made : (own : Origin) (a : Access) → Contains (accesses_of own) a → IsMade own a
is_made own a has =
    let one = in_by_number (call_accesses own) 0 own.sound a has in
    let number = 0 + one.0 in
    let call = one.1 in
    let among = in_filter_map (access_of own number call) roles a one.3 in
    let role = among.0 in
    option_and_then_some (λ (touch : Touch). option_map (access_with own.rank number call touch) (span_of own number call role)) (touch_at own.windows own.rank call.what role) a among.2
    (λ touch touches at.
    let span = mapped (access_with own.rank number call touch) (span_of own number call role) a at in
    record {
      number = number;
      call = call;
      role = role;
      touch = touch;
      span = span.0;
      there = subst (λ n. slice_get own.sound n ≡ Some call) (let e : one.0 ≡ 0 + one.0 = omega arith in e) one.2;
      touches = touches;
      lies = span.1;
      is = span.2;
      of = among.2;
    })

pub number_of_made : (own : Origin) (a : Access) → Contains (accesses_of own) a → (a.name.rank ≡ own.rank) × (a.call < length own.sound)
number_of_made own a has =
    let made = is_made own a has in (
      ap (λ (x : Access). x.name.rank) (sym made.is),
      subst (λ n. n < length own.sound) (ap (λ (x : Access). x.call) made.is) (slice_get_within own.sound made.number made.call made.there),
    )

-- ---- only what is made at a target has a window

any_is : (b : Bool) (given found : Touch) → cond b None (Some given) ≡ Some found → given ≡ found
any_is true given found is = absurd (none-some found is)
any_is false given found is = same_Some given found is

module _ (rank : Rank) (touch : Touch) (id : WindowId) (windowed : touch.window ≡ Some id) where
  own_none : (own : Role) (kind : Kind) (layout : Layout) → own_touch rank own kind layout ≡ Some touch → ⊥
  own_none own kind layout is =
      let given : Touch = record { role = own; memory = rank; runs = layout.runs; kind = kind; window = None; element = None } in
      none-some id (ap (λ (t : Touch). t.window) (any_is (has_no_run layout.runs) given touch is) ∙ windowed)

  buffer_none : (own : Role) (kind : Kind) (access : RmaCall) (buffer : Option Layout) → buffer_touch rank own kind access buffer ≡ Some touch → ⊥
  buffer_none own kind access buffer is =
      option_and_then_some (λ (target : Rank). option_and_then (own_touch rank own kind) buffer) access.target touch is
      (λ target aims at. option_and_then_some (own_touch rank own kind) buffer touch at (λ layout has touches. own_none own kind layout touches))

at_target_only : (own : Origin) (does : What) (in_role : Role) (touch : Touch) (id : WindowId) → touch_at own.windows own.rank does in_role ≡ Some touch → touch.window ≡ Some id → in_role ≡ role.Target
at_target_only own (Local local) role.Local touch id is windowed = absurd (own_none own.rank touch id windowed role.Local _ local.layout is)
at_target_only own (Local local) role.Target touch id is windowed = refl
at_target_only own (Local local) role.Origin touch id is windowed = absurd (none-some touch is)
at_target_only own (Local local) role.Result touch id is windowed = absurd (none-some touch is)
at_target_only own (Local local) role.Compare touch id is windowed = absurd (none-some touch is)
at_target_only own (Rma access) role.Local touch id is windowed = absurd (none-some touch is)
at_target_only own (Rma access) role.Target touch id is windowed = refl
at_target_only own (Rma access) role.Origin touch id is windowed = absurd (buffer_none own.rank touch id windowed role.Origin _ access access.origin is)
at_target_only own (Rma access) role.Result touch id is windowed = absurd (buffer_none own.rank touch id windowed role.Result _ access access.result is)
at_target_only own (Rma access) role.Compare touch id is windowed = absurd (buffer_none own.rank touch id windowed role.Compare _ access access.compare is)
at_target_only own (Sync call) in_role touch id is windowed = absurd (none-some touch is)

-- ---- a call that makes an access at a target is listed

both_some : {E T A B : Type 0} (f : E → T → A) (h : E → T → B) (epoch : Option E) (target : Option T) (a : A) → option_and_then (λ e. option_map (f e) target) epoch ≡ Some a → is_some (option_and_then (λ e. option_map (h e) target) epoch) ≡ true
both_some f h None target a is = absurd (none-some a is)
both_some f h (Some epoch) None a is = absurd (none-some a is)
both_some f h (Some epoch) (Some target) a is = refl

spans : (own : Origin) (number : ℕ) (call : Call) (does : What) (span : Span) → target_span_of own number does ≡ Some span → is_some (own_span_of own number call does) ≡ true
spans own number call (Rma access) span is = both_some (λ e t. target_span own e t number) (λ e t. buffer_span own e t call.request number) (epoch_of own number) access.target span is
spans own number call (Local local) span is = absurd (none-some span is)
spans own number call (Sync sync) span is = absurd (none-some span is)

-- an access through a window is made at a target, by a listed call
pub record IsListed (own : Origin) (a : Access) : Type 0 where
  pub number : ℕ
  pub call : Call
  pub there : slice_get own.sound number ≡ Some call
  pub listed : Contains (spanned_calls own) number
  pub of : access_of own number call role.Target ≡ Some a

pub is_listed : (own : Origin) (a : Access) (id : WindowId) → Contains (accesses_of own) a → a.window ≡ Some id → IsListed own a
is_listed own a id has windowed =
    let made = is_made own a has in
    let windows : made.touch.window ≡ Some id = ap (λ (x : Access). x.window) made.is ∙ windowed in
    let at = at_target_only own made.call.what made.role made.touch id made.touches windows in
    let lies : span_of own made.number made.call role.Target ≡ Some made.span = subst (λ r. span_of own made.number made.call r ≡ Some made.span) at made.lies in
    let some = spans own made.number made.call made.call.what made.span lies in
    let has_number : Contains (spanned own made.number made.call) made.number = subst (λ b. Contains (cond b (made.number ∷ []) []) made.number) (sym some) (has_first made.number []) in
    record {
      number = made.number;
      call = made.call;
      there = made.there;
      listed = by_number_has (spanned own) 0 own.sound made.number made.call made.number made.there (subst (λ n. Contains (spanned own n made.call) made.number) (let e : made.number ≡ 0 + made.number = omega arith in e) has_number);
      of = subst (λ r. access_of own made.number made.call r ≡ Some a) at made.of;
    }

-- a listed number is that of a call
pub call_of_listed : (own : Origin) (number : ℕ) → Contains (spanned_calls own) number → (call : Call) × (slice_get own.sound number ≡ Some call)
call_of_listed own number has =
    let one = in_by_number (spanned own) 0 own.sound number has in
    let same = by (is_some (own_span_of own (0 + one.0) one.1 one.1.what)) one.3 in
    (one.1, subst (λ n. slice_get own.sound n ≡ Some one.1) (let e : one.0 ≡ number = omega (arith, same) in e) one.2)
  where
    by : (b : Bool) → {n : ℕ} → Contains (cond b (n ∷ []) []) number → n ≡ number
    by true has = first_or_later _ number [] (λ same. same) (λ later. has_none number later) has
    by false has = has_none number has
