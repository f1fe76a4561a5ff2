-- By which call an access of a rank is made, its name, and where a store is done.
use Rattle.std.proofs.Common.{◌≡◌, ℕ, List, [], Bool, true, false, cond, Option, Some, None, option_map, map, if◌then◌else◌, slice_get, refl, sym, ap, subst, ◌∙◌}
use Rattle.std.specs.Prelude.{Contains}
use Rattle.std.specs.Option.{option_and_then, option_map_or}
use Rattle.std.proofs.lemmas.Option.{none-some, option_and_then_some, same_Some}
use Rattle.rma_base.specs.declared.point.Point.{Point}
use Rattle.rma_base.specs.declared.rank.Rank.{Rank}
use Rattle.rma_bytes.specs.Layout.{Layout}
use Rattle.rma_bytes.specs.Runs.{moved}
use Rattle.rma_call.specs.Call.{Call}
use Rattle.rma_call.specs.declared.rma.RmaCall.{RmaCall}
use Rattle.rma_call.specs.declared.rma.RmaKind.{RmaKind}
use Rattle.rma_call.specs.declared.rma.RmaKind.TheVariants as rma
use Rattle.rma_call.specs.declared.what.What.{What}
use Rattle.rma_call.specs.declared.what.What.TheVariants.{Local, Rma, Sync}
use Rattle.rma_link.specs.Point.{entry, return_of}
use Rattle.rma_open.specs.Calls.{part_on}
use Rattle.rma_open.specs.Range.{touches_outside}
use Rattle.rma_open.specs.declared.opening.EpochKind.{EpochKind}
use Rattle.rma_open.specs.declared.opening.EpochKind.TheVariants.{Fence, Lock, LockAll, Post, Start}
use Rattle.rma_epoch.specs.declared.epoch.Epoch.{Epoch}
use Rattle.rma_rules.specs.Access.{Access}
use Rattle.rma_rules.specs.Kind.{is_store}
use Rattle.rma_rules.specs.declared.access_name.AccessName.{AccessName}
use Rattle.rma_rules.specs.declared.access_name.Role.{Role}
use Rattle.rma_rules.specs.declared.access_name.Role.TheVariants as role
use Rattle.rma_rules.specs.declared.kind.Kind.{Kind}
use Rattle.rma_rules.specs.declared.kind.Kind.TheVariants.{BufferRead, BufferWrite}
use Rattle.rma_run.proofs.ContainLemmas.{has_none, in_filter_map, in_flat_map}
use Rattle.rma_touch.specs.Touch.{Touch, kind_at_origin, kind_at_target, kind_of_local}
use Rattle.rma_touch.specs.Touches.{Span, access_with, buffer_touch, has_none as has_no_run, if_any, own_touch, roles, start_in, target_touch, touch_at, touch_in}
use Rattle.rma_window.specs.Windows.{Window, number_of}
use Rattle.rma_window.specs.declared.part.Part.{Part}
use Rattle.rma_window.specs.declared.window_id.WindowId.{WindowId}
use Rattle.rma_span.specs.Span.{Origin, access_of, accesses_at, accesses_of, buffer_span, call_accesses, done_at_caller, epoch_of, is_at_target, local_span, own_span_of, span_of, spanned_calls, target_span_of}
use Rattle.rma_span.proofs.ListedLemmas.{all_accesses}
use Rattle.rma_points.proofs.OptionLemmas.{mapped}
use Rattle.rma_pairs.proofs.RoleLemmas.{touch_has}

-- ---- the call

-- an access is that of a call of the rank in a role, one of those that access memory
pub record IsMade (own : Origin) (a : Access) : Type 0 where
  pub number : ℕ
  pub call : Call
  pub role : Role
  pub spanned : Contains (spanned_calls own) number
  pub there : slice_get own.sound number ≡ Some call
  pub is : access_of own number call role ≡ Some a

pub is_made : (own : Origin) (a : Access) → Contains (accesses_of own) a → IsMade own a
is_made own a has = by (slice_get own.sound number) refl of_call.2
  where
    of_call : (n : ℕ) × Contains (spanned_calls own) n × Contains (accesses_at own n) a
    of_call = in_flat_map (accesses_at own) (spanned_calls own) a (subst (λ (l : List Access). Contains l a) (all_accesses own) has)

    number : ℕ
    number = of_call.0

    by : (o : Option Call) → slice_get own.sound number ≡ o → Contains (option_map_or (call_accesses own number) o []) a → IsMade own a
    by None at among = has_none a among
    by (Some call) at among =
        let one = in_filter_map (access_of own number call) roles a among in
        record {
          number = number;
          call = call;
          role = one.0;
          spanned = of_call.1;
          there = at;
          is = one.2;
        }

-- ---- what it touches, and its span

record IsOf (own : Origin) (number : ℕ) (call : Call) (does : Role) (a : Access) : Type 0 where
  touch : Touch
  span : Span
  touches : touch_at own.windows own.rank call.what does ≡ Some touch
  lies : span_of own number call does ≡ Some span
  is : access_with own.rank number call touch span ≡ a

is_of : (own : Origin) (number : ℕ) (call : Call) (does : Role) (a : Access) → access_of own number call does ≡ Some a → IsOf own number call does a
is_of own number call does a is =
    option_and_then_some (λ (touch : Touch). option_map (access_with own.rank number call touch) (span_of own number call does)) (touch_at own.windows own.rank call.what does) a is
    (λ touch touches at.
    let span = mapped (access_with own.rank number call touch) (span_of own number call does) a at in
    record { touch = touch; span = span.0; touches = touches; lies = span.1; is = span.2 })

-- the name of the access of a call in a role
abbrev pub name_with : Origin → Call → Role → AccessName
name_with own call does = record { rank = own.rank; line = call.line; role = does }

pub named : (own : Origin) (number : ℕ) (call : Call) (does : Role) (a : Access) → access_of own number call does ≡ Some a → a.name ≡ name_with own call does
named own number call does a is =
    let of = is_of own number call does a is in
    ap (λ (it : Access). it.name) (sym of.is) ∙ ap (name_with own call) (touch_has own.windows own.rank of.touch call.what does of.touches)

-- ---- where a store is done

any_is : (b : Bool) (given found : Touch) → cond b None (Some given) ≡ Some found → given ≡ found
any_is true given found is = absurd (none-some found is)
any_is false given found is = same_Some given found is

-- what is done at a target is no store
no_store : (kind : RmaKind) → is_store (kind_at_target kind) ≡ true → ⊥
no_store rma.Put is = let no : ⊥ = cc in no
no_store rma.Get is = let no : ⊥ = cc in no
no_store (rma.Accumulate op) is = let no : ⊥ = cc in no
no_store (rma.GetAccumulate op) is = let no : ⊥ = cc in no
no_store (rma.FetchAndOp op) is = let no : ⊥ = cc in no
no_store rma.CompareAndSwap is = let no : ⊥ = cc in no

module _ (windows : List Window) (rank : Rank) (touch : Touch) where
  own_is : (own : Role) (kind : Kind) (layout : Layout) → own_touch rank own kind layout ≡ Some touch → touch.memory ≡ rank
  own_is own kind layout is =
      let given : Touch = record { role = own; memory = rank; runs = layout.runs; kind = kind; window = None; element = None } in
      ap (λ (t : Touch). t.memory) (sym (any_is (has_no_run layout.runs) given touch is))

  buffer_is : (own : Role) (kind : Kind) (access : RmaCall) (buffer : Option Layout) → buffer_touch rank own kind access buffer ≡ Some touch → touch.memory ≡ rank
  buffer_is own kind access buffer is =
      option_and_then_some (λ (target : Rank). option_and_then (own_touch rank own kind) buffer) access.target touch is
      (λ target aims at. option_and_then_some (own_touch rank own kind) buffer touch at (λ layout has touches. own_is own kind layout touches))

  in_part : (part : Part) (id : WindowId) (target : Rank) (access : RmaCall) → touch_in part id target access ≡ Some touch → touch.kind ≡ kind_at_target access.kind
  in_part part id target access is = ap (λ (t : Touch). t.kind) (sym (by (touches_outside part access.displacement access.at_target.runs) is))
    where
      given : Touch
      given = record {
        role = role.Target;
        memory = target;
        runs = map (moved (start_in part access.displacement)) access.at_target.runs;
        kind = kind_at_target access.kind;
        window = Some id;
        element = access.at_target.element;
      }

      by : (b : Bool) → cond b None (if_any given) ≡ Some touch → given ≡ touch
      by true at = absurd (none-some touch at)
      by false at = any_is (has_no_run given.runs) given touch at

  target_is : (access : RmaCall) → target_touch windows access ≡ Some touch → touch.kind ≡ kind_at_target access.kind
  target_is access is =
      option_and_then_some (λ (target : Rank). option_and_then (λ id. option_and_then (λ part. touch_in part id target access) (part_on windows (Rma access))) (number_of windows access.window)) access.target touch is
      (λ target aims at.
      option_and_then_some (λ (id : WindowId). option_and_then (λ part. touch_in part id target access) (part_on windows (Rma access))) (number_of windows access.window) touch at
      (λ id numbered also.
      option_and_then_some (λ (part : Part). touch_in part id target access) (part_on windows (Rma access)) touch also (λ part has touches. in_part part id target access touches)))

  -- a store touches memory of its own rank
  stored_at : (does : What) (own : Role) → touch_at windows rank does own ≡ Some touch → is_store touch.kind ≡ true → (touch.memory ≡ rank) × (is_at_target own ≡ false)
  stored_at (Local local) role.Local is store = (own_is role.Local (kind_of_local local.access) local.layout is, refl)
  stored_at (Local local) role.Target is store = absurd (none-some touch is)
  stored_at (Local local) role.Origin is store = absurd (none-some touch is)
  stored_at (Local local) role.Result is store = absurd (none-some touch is)
  stored_at (Local local) role.Compare is store = absurd (none-some touch is)
  stored_at (Rma access) role.Local is store = absurd (none-some touch is)
  stored_at (Rma access) role.Target is store = absurd (no_store access.kind (subst (λ (k : Kind). is_store k ≡ true) (target_is access is) store))
  stored_at (Rma access) role.Origin is store = (buffer_is role.Origin (kind_at_origin access.kind) access access.origin is, refl)
  stored_at (Rma access) role.Result is store = (buffer_is role.Result BufferWrite access access.result is, refl)
  stored_at (Rma access) role.Compare is store = (buffer_is role.Compare BufferRead access access.compare is, refl)
  stored_at (Sync sync) own is store = absurd (none-some touch is)

entered : (rank : Rank) (number : Option ℕ) (done : Point) → option_map (entry rank) number ≡ Some done → done.rank ≡ rank
entered rank number done is = ap (λ (p : Point). p.rank) (sym (mapped (entry rank) number done is).2)

returned : (rank : Rank) (number : Option ℕ) (done : Point) → option_map (return_of rank) number ≡ Some done → done.rank ≡ rank
returned rank number done is = ap (λ (p : Point). p.rank) (sym (mapped (return_of rank) number done is).2)

at_caller : (kind : EpochKind) (rank : Rank) (number : Option ℕ) (done : Point) → done_at_caller kind rank number ≡ Some done → done.rank ≡ rank
at_caller Fence rank number done is = entered rank number done is
at_caller Start rank number done is = returned rank number done is
at_caller (Lock exclusive) rank number done is = returned rank number done is
at_caller LockAll rank number done is = returned rank number done is
at_caller Post rank number done is = returned rank number done is

-- what a call does to memory of its own rank is done at a point of the rank
own_done : (own : Origin) (number : ℕ) (call : Call) (does : What) (span : Span) (done : Point) → own_span_of own number call does ≡ Some span → span.done ≡ Some done → done.rank ≡ own.rank
own_done own number call (Local local) span done is at =
    let same : local_span own number ≡ span = same_Some (local_span own number) span is in
    let there : Some (entry own.rank number) ≡ Some done = ap (λ (s : Span). s.done) same ∙ at in
    ap (λ (p : Point). p.rank) (sym (same_Some (entry own.rank number) done there))
own_done own number call (Rma access) span done is at =
    option_and_then_some (λ (epoch : Epoch). option_map (λ target. buffer_span own epoch target call.request number) access.target) (epoch_of own number) span is
    (λ epoch stands lies.
    let one = mapped (λ target. buffer_span own epoch target call.request number) access.target span lies in
    at_caller epoch.kind own.rank _ done (ap (λ (s : Span). s.done) one.2 ∙ at))
own_done own number call (Sync sync) span done is at = absurd (none-some span is)

-- a store is done at a point of the rank whose memory it touches
pub store_done : (own : Origin) (number : ℕ) (call : Call) (does : Role) (a : Access) (done : Point) → access_of own number call does ≡ Some a → is_store a.kind ≡ true → a.done ≡ Some done → done.rank ≡ a.memory
store_done own number call does a done is store at =
    own_done own number call call.what of.span done (by (is_at_target does) stored.1 of.lies) (ap (λ (it : Access). it.done) of.is ∙ at) ∙ sym stored.0 ∙ ap (λ (it : Access). it.memory) of.is
  where
    of : IsOf own number call does a
    of = is_of own number call does a is

    stored : (of.touch.memory ≡ own.rank) × (is_at_target does ≡ false)
    stored = stored_at own.windows own.rank of.touch call.what does of.touches (ap (λ (it : Access). is_store it.kind) of.is ∙ store)

    by : (b : Bool) → b ≡ false → (if b then target_span_of own number call.what else own_span_of own number call call.what) ≡ Some of.span → own_span_of own number call call.what ≡ Some of.span
    by true not lies = absurd (cc)
    by false not lies = lies
