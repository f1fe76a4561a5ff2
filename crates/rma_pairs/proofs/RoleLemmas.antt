-- What a call touches in a role has that role.
use Rattle.std.proofs.Common.{◌≡◌, List, map, Bool, true, false, cond, Option, Some, None, sym, ap}
use Rattle.std.specs.Option.{option_and_then}
use Rattle.std.proofs.lemmas.Option.{none-some, option_and_then_some, same_Some}
use Rattle.rma_base.specs.declared.rank.Rank.{Rank}
use Rattle.rma_bytes.specs.Layout.{Layout}
use Rattle.rma_bytes.specs.Runs.{moved}
use Rattle.rma_call.specs.declared.rma.RmaCall.{RmaCall}
use Rattle.rma_call.specs.declared.what.What.{What}
use Rattle.rma_call.specs.declared.what.What.TheVariants.{Local, Rma, Sync}
use Rattle.rma_open.specs.Calls.{part_on}
use Rattle.rma_open.specs.Range.{touches_outside}
use Rattle.rma_rules.specs.declared.access_name.Role.{Role}
use Rattle.rma_rules.specs.declared.access_name.Role.TheVariants as role
use Rattle.rma_rules.specs.declared.kind.Kind.{Kind}
use Rattle.rma_rules.specs.declared.kind.Kind.TheVariants.{BufferRead, BufferWrite}
use Rattle.rma_touch.specs.Touch.{Touch, kind_at_origin, kind_at_target, kind_of_local}
use Rattle.rma_touch.specs.Touches.{buffer_touch, has_none, if_any, own_touch, start_in, target_touch, touch_at, touch_in}
use Rattle.rma_window.specs.Windows.{Window, number_of}
use Rattle.rma_window.specs.declared.part.Part.{Part}
use Rattle.rma_window.specs.declared.window_id.WindowId.{WindowId}

any_has : (b : Bool) (given found : Touch) → cond b None (Some given) ≡ Some found → found.role ≡ given.role
any_has true given found is = absurd (none-some found is)
any_has false given found is = ap (λ (t : Touch). t.role) (sym (same_Some given found is))

module _ (windows : List Window) (rank : Rank) (touch : Touch) where
  own_has : (own : Role) (kind : Kind) (layout : Layout) → own_touch rank own kind layout ≡ Some touch → touch.role ≡ own
  own_has own kind layout is =
      let given : Touch = record { role = own; memory = rank; runs = layout.runs; kind = kind; window = None; element = None } in
      any_has (has_none layout.runs) given touch is

  buffer_has : (own : Role) (kind : Kind) (access : RmaCall) (buffer : Option Layout) → buffer_touch rank own kind access buffer ≡ Some touch → touch.role ≡ own
  buffer_has own kind access buffer is =
      option_and_then_some (λ (target : Rank). option_and_then (own_touch rank own kind) buffer) access.target touch is
      (λ target aims at. option_and_then_some (own_touch rank own kind) buffer touch at (λ layout has touches. own_has own kind layout touches))

  part_has : (part : Part) (id : WindowId) (target : Rank) (access : RmaCall) → touch_in part id target access ≡ Some touch → touch.role ≡ role.Target
  part_has part id target access is = by (touches_outside part access.displacement access.at_target.runs) is
    where
      given : Touch
      given = record {
        role = role.Target;
        memory = target;
        runs = map (moved (start_in part access.displacement)) access.at_target.runs;
        kind = kind_at_target access.kind;
        window = Some id;
        element = access.at_target.element;
      }

      by : (b : Bool) → cond b None (if_any given) ≡ Some touch → touch.role ≡ role.Target
      by true at = absurd (none-some touch at)
      by false at = any_has (has_none given.runs) given touch at

  target_has : (access : RmaCall) → target_touch windows access ≡ Some touch → touch.role ≡ role.Target
  target_has access is =
      option_and_then_some (λ (target : Rank). option_and_then (λ id. option_and_then (λ part. touch_in part id target access) (part_on windows (Rma access))) (number_of windows access.window)) access.target touch is
      (λ target aims at.
      option_and_then_some (λ (id : WindowId). option_and_then (λ part. touch_in part id target access) (part_on windows (Rma access))) (number_of windows access.window) touch at
      (λ id numbered also.
      option_and_then_some (λ (part : Part). touch_in part id target access) (part_on windows (Rma access)) touch also (λ part has touches. part_has part id target access touches)))

  pub touch_has : (does : What) (own : Role) → touch_at windows rank does own ≡ Some touch → touch.role ≡ own
  touch_has (Local local) role.Local is = own_has role.Local (kind_of_local local.access) local.layout is
  touch_has (Local local) role.Target is = absurd (none-some touch is)
  touch_has (Local local) role.Origin is = absurd (none-some touch is)
  touch_has (Local local) role.Result is = absurd (none-some touch is)
  touch_has (Local local) role.Compare is = absurd (none-some touch is)
  touch_has (Rma access) role.Local is = absurd (none-some touch is)
  touch_has (Rma access) role.Target is = target_has access is
  touch_has (Rma access) role.Origin is = buffer_has role.Origin (kind_at_origin access.kind) access access.origin is
  touch_has (Rma access) role.Result is = buffer_has role.Result BufferWrite access access.result is
  touch_has (Rma access) role.Compare is = buffer_has role.Compare BufferRead access access.compare is
  touch_has (Sync sync) own is = absurd (none-some touch is)
