-- The memory that an access touches is that of a rank of the run, however long the logs are.
use Rattle.std.proofs.Common.{◌≡◌, ◌+◌, Bool, true, false, cond, List, Option, Some, None, IfSome, option_map, map, slice_get, refl, sym, ap, subst, ◌∙◌}
use Rattle.std.specs.Prelude.{Contains}
use Rattle.std.specs.Option.{option_and_then}
use Rattle.std.proofs.lemmas.Option.{option_and_then_some}
use Rattle.rma_base.specs.declared.rank.Rank.{Rank}
use Rattle.rma_bytes.specs.Layout.{Layout}
use Rattle.rma_bytes.specs.Runs.{moved}
use Rattle.rma_call.specs.Call.{RankCalls}
use Rattle.rma_call.specs.declared.rma.RmaCall.{RmaCall}
use Rattle.rma_call.specs.declared.what.What.{What}
use Rattle.rma_call.specs.declared.what.What.TheVariants.{Local, Rma, Sync}
use Rattle.rma_open.specs.Calls.{part_on}
use Rattle.rma_open.specs.Range.{touches_outside}
use Rattle.rma_open.proofs.MemberLemmas.{part_at_number}
use Rattle.rma_rules.specs.Access.{Access}
use Rattle.rma_rules.specs.declared.access_name.Role.{Role}
use Rattle.rma_rules.specs.declared.access_name.Role.TheVariants as role
use Rattle.rma_rules.specs.declared.kind.Kind.{Kind}
use Rattle.rma_run.specs.Run.{AreInOrder}
use Rattle.rma_run.proofs.ContainLemmas.{in_by_number, in_filter_map, in_flat_map}
use Rattle.rma_touch.specs.Touch.{Touch, kind_at_target}
use Rattle.rma_touch.specs.Touches.{access_with, buffer_touch, has_none, if_any, own_touch, roles, start_in, target_touch, touch_at, touch_in}
use Rattle.rma_window.specs.Creation.{creations}
use Rattle.rma_window.specs.Windows.{Window, number_of, part_named, part_of, windows_by}
use Rattle.rma_window.specs.declared.part.Part.{Part}
use Rattle.rma_window.specs.declared.window_id.WindowId.{WindowId}
use Rattle.rma_span.specs.Span.{access_of, accesses, accesses_of, call_accesses, origin_of, span_of}
use Rattle.rma_points.proofs.CreationLemmas.{is_created}
use Rattle.rma_points.proofs.OptionLemmas.{mapped, some_is}
use Rattle.rma_accesses.proofs.RankLemmas.{place_of}

module _ (ranks : List RankCalls) where
  -- a rank has a log
  abbrev HasLog : Rank → Type 0
  HasLog rank = (own : RankCalls) × Contains ranks own × (own.rank.0 ≡ rank.0)

  -- what is touched is memory of a rank that has one
  abbrev IsOfLog : Option Touch → Type 0
  IsOfLog found = IfSome found (λ touch. HasLog touch.memory)

  if_any_is : (none : Bool) (touch : Touch) → HasLog touch.memory → IsOfLog (cond none None (Some touch))
  if_any_is true touch has = tt
  if_any_is false touch has = has

  each_is : {X : Type 0} (f : X → Option Touch) (found : Option X) → ((x : X) → found ≡ Some x → IsOfLog (f x)) → IsOfLog (option_and_then f found)
  each_is f None each = tt
  each_is f (Some x) each = each x refl

  own_is : (rank : Rank) (own : Role) (kind : Kind) (layout : Layout) → HasLog rank → IsOfLog (own_touch rank own kind layout)
  own_is rank own kind layout has = if_any_is (has_none layout.runs) (record { role = own; memory = rank; runs = layout.runs; kind = kind; window = None; element = None }) has

  buffer_is : (rank : Rank) (own : Role) (kind : Kind) (access : RmaCall) (buffer : Option Layout) → HasLog rank → IsOfLog (buffer_touch rank own kind access buffer)
  buffer_is rank own kind access buffer has =
      each_is (λ target. option_and_then (own_touch rank own kind) buffer) access.target (λ target aims. each_is (own_touch rank own kind) buffer (λ layout there. own_is rank own kind layout has))

  in_part : (part : Part) (id : WindowId) (target : Rank) (access : RmaCall) → HasLog target → IsOfLog (touch_in part id target access)
  in_part part id target access has = by (touches_outside part access.displacement access.at_target.runs)
    where
      given : Touch
      given = record {
        role = role.Target;
        memory = target;
        runs = map (moved (start_in part access.displacement)) access.at_target.runs;
        kind = kind_at_target access.kind;
        window = Some id;
        element = access.at_target.element;
      }

      by : (outside : Bool) → IsOfLog (cond outside None (if_any given))
      by true = tt
      by false = if_any_is (has_none given.runs) given has

  abbrev windows : List Window
  windows = windows_by (creations ranks)

  target_is : (access : RmaCall) → IsOfLog (target_touch windows access)
  target_is access =
      each_is (λ target. option_and_then (λ id. option_and_then (λ part. touch_in part id target access) (part_on windows (Rma access))) (number_of windows access.window)) access.target
      (λ target aims.
      each_is (λ id. option_and_then (λ part. touch_in part id target access) (part_on windows (Rma access))) (number_of windows access.window)
      (λ id numbered.
      each_is (λ part. touch_in part id target access) (part_on windows (Rma access))
      (λ part has.
      let named : part_named windows access.window target ≡ Some part = sym (ap (option_and_then (part_named windows access.window)) aims) ∙ has in
      let there : part_of windows id target ≡ Some part = sym (ap (option_and_then (λ (id : WindowId). part_of windows id target)) numbered) ∙ part_at_number windows access.window target ∙ named in
      let created = is_created ranks id target part there in
      in_part part id target access (created.own, created.of_run, created.rank_is))))

  touch_is : (rank : Rank) (does : What) (own : Role) → HasLog rank → IsOfLog (touch_at windows rank does own)
  touch_is rank (Local local) role.Local has = own_is rank role.Local _ local.layout has
  touch_is rank (Local local) role.Target has = tt
  touch_is rank (Local local) role.Origin has = tt
  touch_is rank (Local local) role.Result has = tt
  touch_is rank (Local local) role.Compare has = tt
  touch_is rank (Rma access) role.Local has = tt
  touch_is rank (Rma access) role.Target has = target_is access
  touch_is rank (Rma access) role.Origin has = buffer_is rank role.Origin _ access access.origin has
  touch_is rank (Rma access) role.Result has = buffer_is rank role.Result _ access access.result has
  touch_is rank (Rma access) role.Compare has = buffer_is rank role.Compare _ access access.compare has
  touch_is rank (Sync sync) own has = tt

  -- an access of a rank
  made_is : (own : RankCalls) (a : Access) → Contains ranks own → Contains (accesses_of (origin_of ranks own)) a → HasLog a.memory
  made_is own a of_run has =
      let origin = origin_of ranks own in
      let one = in_by_number (call_accesses origin) 0 origin.sound a has in
      let number = 0 + one.0 in
      let call = one.1 in
      let among = in_filter_map (access_of origin number call) roles a one.3 in
      let role = among.0 in
      option_and_then_some (λ (touch : Touch). option_map (access_with own.rank number call touch) (span_of origin number call role)) (touch_at windows own.rank call.what role) a among.2
      (λ touch touches at.
      let span = mapped (access_with own.rank number call touch) (span_of origin number call role) a at in
      let log = some_is (λ (touch : Touch). HasLog touch.memory) (touch_at windows own.rank call.what role) (touch_is own.rank call.what role (own, of_run, refl)) touch touches in
      subst HasLog (ap (λ (it : Access). it.memory) span.2) log)

  pub memory_in_order : AreInOrder ranks → (a : Access) → Contains (accesses ranks) a → (own : RankCalls) × (slice_get ranks a.memory.0 ≡ Some own)
  memory_in_order in_order a has =
      let (own, of_run, among) = in_flat_map (λ (own : RankCalls). accesses_of (origin_of ranks own)) ranks a has in
      let (other, there, rank) = made_is own a of_run among in
      let place = place_of ranks other there in
      (other, ap (slice_get ranks) (sym rank ∙ in_order place.0 other place.1) ∙ place.1)
