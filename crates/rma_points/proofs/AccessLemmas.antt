-- What accesses touch is of the run, and where they start and are done are points of it.
use Rattle.std.proofs.Common.{◌≡◌, ◌<◌, ◌+◌, ℕ, List, [], ◌∷◌, length, map, Bool, true, false, cond, Option, Some, None, IfSome, option_map, slice_get, refl, sym, ap, subst, ◌∙◌, ◌⊎◌, inl, inr, arith}
use Rattle.std.specs.Prelude.{All, Contains}
use Rattle.std.specs.Option.{option_and_then}
use Rattle.std.proofs.lemmas.List.Elements.{All-cons, All-nil}
use Rattle.std.proofs.lemmas.Option.{none-some, option_and_then_some, same_Some, slice_get_read, slice_get_within}
use Rattle.rma_base.specs.declared.point.Point.{Point}
use Rattle.rma_base.specs.declared.rank.Rank.{Rank}
use Rattle.rma_bytes.specs.Layout.{Layout}
use Rattle.rma_bytes.specs.Runs.{moved}
use Rattle.rma_call.specs.Call.{Call, RankCalls}
use Rattle.rma_call.specs.declared.rma.RmaCall.{RmaCall}
use Rattle.rma_call.specs.declared.what.What.{What}
use Rattle.rma_call.specs.declared.what.What.TheVariants.{Local, Rma, Sync}
use Rattle.rma_link.specs.Point.{entry}
use Rattle.rma_open.specs.Calls.{part_on}
use Rattle.rma_open.specs.Range.{touches_outside}
use Rattle.rma_open.proofs.MemberLemmas.{part_at_number}
use Rattle.rma_rules.specs.Access.{Access, IsOnWindowOf, starts_of}
use Rattle.rma_rules.specs.declared.access_name.Role.{Role}
use Rattle.rma_rules.specs.declared.access_name.Role.TheVariants as role
use Rattle.rma_rules.specs.declared.kind.Kind.{Kind}
use Rattle.rma_rules.specs.declared.kind.Kind.TheVariants.{BufferRead, BufferWrite}
use Rattle.rma_run.specs.Run.{IsRun}
use Rattle.rma_run.proofs.ContainLemmas.{in_by_number, in_filter_map, in_flat_map}
use Rattle.rma_touch.specs.Touch.{Touch, kind_at_origin, kind_at_target, kind_of_local}
use Rattle.rma_touch.specs.Touches.{Span, access_with, buffer_touch, has_none, if_any, own_touch, roles, start_in, target_touch, touch_at, touch_in}
use Rattle.rma_window.specs.Creation.{creations}
use Rattle.rma_window.specs.Windows.{Window, number_of, part_in, part_named, part_of, window_of, windows_by}
use Rattle.rma_window.specs.declared.part.Part.{Part}
use Rattle.rma_window.specs.declared.window_id.WindowId.{WindowId}
use Rattle.rma_span.specs.Span.{Origin, access_of, accesses, accesses_of, call_accesses, origin_of, span_of}
use Rattle.rma_points.proofs.CreationLemmas.{is_created}
use Rattle.rma_points.proofs.OptionLemmas.{mapped, some_is}
use Rattle.rma_points.proofs.SpanLemmas.{IsOfRun, IsSpanOfRun, entered, sound_count, span_at}

-- ---- what a call touches

-- memory of its own rank, through no window
abbrev IsOwn : Rank → Touch → Type 0
IsOwn rank touch = (touch.memory ≡ rank) × (touch.window ≡ None)

-- the part of a rank in a window of these
record IsInPart (windows : List Window) (touch : Touch) : Type 0 where
  window : WindowId
  part : Part
  through : touch.window ≡ Some window
  there : part_of windows window touch.memory ≡ Some part

any_is : (b : Bool) (given found : Touch) → cond b None (Some given) ≡ Some found → given ≡ found
any_is true given found is = absurd (none-some found is)
any_is false given found is = same_Some given found is

module _ (windows : List Window) (rank : Rank) (touch : Touch) where
  own_is : (own : Role) (kind : Kind) (layout : Layout) → own_touch rank own kind layout ≡ Some touch → IsOwn rank touch
  own_is own kind layout is =
      let given : Touch = record { role = own; memory = rank; runs = layout.runs; kind = kind; window = None; element = None } in
      let same : given ≡ touch = any_is (has_none layout.runs) given touch is in
      (ap (λ (t : Touch). t.memory) (sym same), ap (λ (t : Touch). t.window) (sym same))

  buffer_is : (own : Role) (kind : Kind) (access : RmaCall) (buffer : Option Layout) → buffer_touch rank own kind access buffer ≡ Some touch → IsOwn rank touch
  buffer_is own kind access buffer is =
      option_and_then_some (λ (target : Rank). option_and_then (own_touch rank own kind) buffer) access.target touch is
      (λ target aims at. option_and_then_some (own_touch rank own kind) buffer touch at (λ layout has touches. own_is own kind layout touches))

  -- what is touched in a part is of the memory of the target, through the window
  in_part : (part : Part) (id : WindowId) (target : Rank) (access : RmaCall) → touch_in part id target access ≡ Some touch → (touch.memory ≡ target) × (touch.window ≡ Some id)
  in_part part id target access is =
      let same : given ≡ touch = by (touches_outside part access.displacement access.at_target.runs) is in
      (ap (λ (t : Touch). t.memory) (sym same), ap (λ (t : Touch). t.window) (sym same))
    where
      given : Touch
      given = record {
        role = role.Target;
        memory = target;
        runs = map (moved (start_in part access.displacement)) access.at_target.runs;
        kind = kind_at_target access.kind;
        window = Some id;
        element = access.at_target.element;
      }

      by : (b : Bool) → cond b None (if_any given) ≡ Some touch → given ≡ touch
      by true at = absurd (none-some touch at)
      by false at = any_is (has_none given.runs) given touch at

  target_is : (access : RmaCall) → target_touch windows access ≡ Some touch → IsInPart windows touch
  target_is access is =
      option_and_then_some (λ (target : Rank). option_and_then (λ id. option_and_then (λ part. touch_in part id target access) (part_on windows (Rma access))) (number_of windows access.window)) access.target touch is
      (λ target aims at.
      option_and_then_some (λ (id : WindowId). option_and_then (λ part. touch_in part id target access) (part_on windows (Rma access))) (number_of windows access.window) touch at
      (λ id numbered also.
      option_and_then_some (λ (part : Part). touch_in part id target access) (part_on windows (Rma access)) touch also
      (λ part has touches.
      let own = in_part part id target access touches in
      let named : part_named windows access.window target ≡ Some part = sym (ap (option_and_then (part_named windows access.window)) aims) ∙ has in
      let there : part_of windows id target ≡ Some part = sym (ap (option_and_then (λ (id : WindowId). part_of windows id target)) numbered) ∙ part_at_number windows access.window target ∙ named in
      record {
        window = id;
        part = part;
        through = own.1;
        there = ap (part_of windows id) own.0 ∙ there;
      })))

  touch_is : (does : What) (own : Role) → touch_at windows rank does own ≡ Some touch → IsOwn rank touch ⊎ IsInPart windows touch
  touch_is (Local local) role.Local is = inl (own_is role.Local (kind_of_local local.access) local.layout is)
  touch_is (Local local) role.Target is = absurd (none-some touch is)
  touch_is (Local local) role.Origin is = absurd (none-some touch is)
  touch_is (Local local) role.Result is = absurd (none-some touch is)
  touch_is (Local local) role.Compare is = absurd (none-some touch is)
  touch_is (Rma access) role.Local is = absurd (none-some touch is)
  touch_is (Rma access) role.Target is = inr (target_is access is)
  touch_is (Rma access) role.Origin is = inl (buffer_is role.Origin (kind_at_origin access.kind) access access.origin is)
  touch_is (Rma access) role.Result is = inl (buffer_is role.Result BufferWrite access access.result is)
  touch_is (Rma access) role.Compare is = inl (buffer_is role.Compare BufferRead access access.compare is)
  touch_is (Sync sync) own is = absurd (none-some touch is)

-- ---- the accesses of a rank

-- an access is what a call of the rank touches in a role, with its span
record IsMade (own : Origin) (a : Access) : Type 0 where
  number : ℕ
  call : Call
  role : Role
  touch : Touch
  span : Span
  there : slice_get own.sound number ≡ Some call
  touches : touch_at own.windows own.rank call.what role ≡ Some touch
  lies : span_of own number call role ≡ Some span
  is : access_with own.rank number call touch span ≡ a

is_made : (own : Origin) (a : Access) → Contains (accesses_of own) a → IsMade own a
is_made own a has =
    let one = in_by_number (call_accesses own) 0 own.sound a has in
    let number = 0 + one.0 in
    let call = one.1 in
    let among = in_filter_map (access_of own number call) roles a one.3 in
    let role = among.0 in
    option_and_then_some (λ (touch : Touch). option_map (access_with own.rank number call touch) (span_of own number call role)) (touch_at own.windows own.rank call.what role) a among.2
    (λ touch touches at.
    let span = mapped (access_with own.rank number call touch) (span_of own number call role) a at in
    record {
      number = number;
      call = call;
      role = role;
      touch = touch;
      span = span.0;
      there = subst (λ n. slice_get own.sound n ≡ Some call) (let e : one.0 ≡ 0 + one.0 = omega arith in e) one.2;
      touches = touches;
      lies = span.1;
      is = span.2;
    })

-- what an access is made of touches
touched : (own : Origin) (a : Access) (made : IsMade own a) → IsOwn own.rank made.touch ⊎ IsInPart own.windows made.touch
touched own a made = touch_is own.windows own.rank made.touch made.call.what made.role made.touches

-- the window of an access is one of the windows
pub on_windows : (own : Origin) (a : Access) → Contains (accesses_of own) a → IsOnWindowOf own.windows a
on_windows own a has window through = by (touched own a made)
  where
    made : IsMade own a
    made = is_made own a has

    same : made.touch.window ≡ a.window
    same = ap (λ (it : Access). it.window) made.is

    by : IsOwn own.rank made.touch ⊎ IsInPart own.windows made.touch → window.0 < length own.windows
    by (inl mine) = absurd (none-some window (sym mine.1 ∙ same ∙ through))
    by (inr part) =
        let id : part.window ≡ window = same_Some part.window window (sym part.through ∙ same ∙ through) in
        option_and_then_some (part_in made.touch.memory) (window_of own.windows part.window) part.part part.there
        (λ found there at. subst (λ (id : WindowId). id.0 < length own.windows) id (slice_get_within own.windows part.window.0 found there))

-- ---- the accesses of a run

at_place : {X : Type 0} (xs : List X) (x : X) → Contains xs x → (k : ℕ) × (slice_get xs k ≡ Some x)
at_place xs x (k, less, at) = (k, slice_get_read xs (length xs) k x refl less (sym at))

-- an access of a run is made by one of its ranks
pub record IsMadeInRun (ranks : List RankCalls) (a : Access) : Type 0 where
  pub own : RankCalls
  pub of_run : Contains ranks own
  pub made : Contains (accesses_of (origin_of ranks own)) a

pub is_of_run : (ranks : List RankCalls) (a : Access) → Contains (accesses ranks) a → IsMadeInRun ranks a
is_of_run ranks a has =
    let one = in_flat_map (λ (own : RankCalls). accesses_of (origin_of ranks own)) ranks a has in
    record { own = one.0; of_run = one.1; made = one.2 }

module _ (ranks : List RankCalls) (run : IsRun ranks) where
  -- the log of a rank of the run stands at the number of the rank
  pub at_rank : (own : RankCalls) → Contains ranks own → slice_get ranks own.rank.0 ≡ Some own
  at_rank own of_run =
      let at = at_place ranks own of_run in
      ap (slice_get ranks) (run.in_order at.0 own at.1) ∙ at.1

  module _ (a : Access) (own : RankCalls) (of_run : Contains ranks own) (made : IsMade (origin_of ranks own) a) where
    memory_by : (other : RankCalls) × (slice_get ranks a.memory.0 ≡ Some other)
    memory_by = by (touched (origin_of ranks own) a made)
      where
        same : made.touch.memory ≡ a.memory
        same = ap (λ (it : Access). it.memory) made.is

        by : IsOwn own.rank made.touch ⊎ IsInPart (windows_by (creations ranks)) made.touch → (other : RankCalls) × (slice_get ranks a.memory.0 ≡ Some other)
        by (inl mine) = (own, ap (λ (r : Rank). slice_get ranks r.0) (sym same ∙ mine.0) ∙ at_rank own of_run)
        by (inr part) =
            let created = is_created ranks part.window made.touch.memory part.part part.there in
            (created.own, ap (λ (r : Rank). slice_get ranks r.0) (sym same) ∙ ap (slice_get ranks) (sym created.rank_is) ∙ at_rank created.own created.of_run)

    within : made.number < length (origin_of ranks own).sound
    within = slice_get_within (origin_of ranks own).sound made.number made.call made.there

    span_of_run : IsSpanOfRun ranks made.span
    span_of_run = span_at ranks run own of_run made.number made.call made.role made.span within made.lies

    done_by : (p : Point) → a.done ≡ Some p → IsOfRun ranks p
    done_by p is = some_is (IsOfRun ranks) made.span.done span_of_run.done p (ap (λ (it : Access). it.done) made.is ∙ is)

    start_by : All (IsOfRun ranks) a.starts
    start_by = subst (λ (it : Access). All (IsOfRun ranks) it.starts) made.is (by made.span.opening span_of_run.opening)
      where
        entering : IsOfRun ranks (entry own.rank made.number)
        entering = let few = sound_count ranks run own of_run in let less = within in entered ranks own.rank made.number (omega arith)

        by : (o : Option Point) → IfSome o (IsOfRun ranks) → All (IsOfRun ranks) (starts_of own.rank made.number o)
        by None opens = All-cons (IsOfRun ranks) (entry own.rank made.number) [] entering (All-nil (IsOfRun ranks))
        by (Some point) opens = All-cons (IsOfRun ranks) (entry own.rank made.number) (point ∷ []) entering (All-cons (IsOfRun ranks) point [] opens (All-nil (IsOfRun ranks)))

  -- the memory that an access touches is that of a rank of the run
  pub memory_of_run : (a : Access) → Contains (accesses ranks) a → (own : RankCalls) × (slice_get ranks a.memory.0 ≡ Some own)
  memory_of_run a has = let one = is_of_run ranks a has in memory_by a one.own one.of_run (is_made (origin_of ranks one.own) a one.made)

  -- it is done at a point of the run
  pub done_at_point : (a : Access) → Contains (accesses ranks) a → (p : Point) → a.done ≡ Some p → IsOfRun ranks p
  done_at_point a has = let one = is_of_run ranks a has in done_by a one.own one.of_run (is_made (origin_of ranks one.own) a one.made)

  -- and starts at points of the run
  pub start_at_points : (a : Access) → Contains (accesses ranks) a → All (IsOfRun ranks) a.starts
  start_at_points a has = let one = is_of_run ranks a has in start_by a one.own one.of_run (is_made (origin_of ranks one.own) a one.made)
