use Rattle.std.proofs.Common.{◌≡◌, ◌<◌, length, Some, slice_get, option_map, refl, sym, ap, ◌∙◌, arith}
use Rattle.std.proofs.lemmas.List.{length-map}
use Rattle.std.proofs.lemmas.Option.{slice_get-get_or, slice_get-map}
use Rattle.rma_call.specs.Rma.{placed}
use Rattle.rma_call.specs.declared.what.What.TheVariants.{Rma}
use Rattle.rma_call.specs.declared.groups.Place.TheVariants as Place
use Rattle.rma_call.specs.inside.Groups.{rma_at, what_at, whats_at}
use Rattle.rma_call.proofs.CallListLemmas.{calls_with_what}
use Rattle.rma_call.proofs.GroupLemmas.{on_err, tables_more, tables_stay, whats_more, whats_stay}
use Rattle.rma_call.proofs.call_list.CallList.add_placed.Goals as goal

pub returns-in_err-there-clause-err : goal.returns-in_err-there-clause-err
returns-in_err-there-clause-err c =
    let own = c.self.inside in
    on_err c.from_residual-in_err-there.result
    (rw (← c.self.view_is, whats_stay own.groups c.put_placed.new.self own.places.items c.put_placed.ensures.grows c.self.invariant.1) refl)

pub invariant_of-self-in_err-push : goal.invariant_of-self-in_err-push
invariant_of-self-in_err-push c =
    let own = c.self.inside in
    rw c.in_err-push.ensures.items (tables_stay own.groups c.put_placed.new.self own.places.items own.sites.items own.entries c.put_placed.ensures.grows c.self.invariant)

pub returns-in_err-push-clause-err : goal.returns-in_err-push-clause-err
returns-in_err-push-clause-err c =
    let own = c.self.inside in
    on_err c.from_residual-in_err-push.result
    (rw (← c.self.view_is, c.in_err-push.ensures.items, whats_stay own.groups c.put_placed.new.self own.places.items c.put_placed.ensures.grows c.self.invariant.1) refl)

pub invariant_of-self-2 : goal.invariant_of-self-2
invariant_of-self-2 c =
    let own = c.self.inside in
    rw c.in_ok-push.ensures.items
    (tables_more own.groups c.put_placed.new.self own.places.items own.sites.items own.entries c.put_placed.ensures.grows c.self.invariant c.in_ok-there.there c.in_ok-there.ensures.there
    (omega (arith, c.len.ensures, c.in_ok-number.ensures.fits)))

pub returns-clause-ok : goal.returns-clause-ok
returns-clause-ok c =
    let own = c.self.inside in
    let call = rma_at own.groups c.in-Rma.call in
    let more = whats_more own.groups c.put_placed.new.self own.places.items c.in_ok-there.there (Rma (placed call c.args.place.now)) c.put_placed.ensures.grows c.self.invariant.1 c.in_ok-there.ensures.is in
    let same = calls_with_what (whats_at own.groups own.places.items) own.sites.items (Rma (placed call c.args.place.now)) own.entries c.self.invariant.0.below in
    let before = rw (← c.self.view_is) at c.requires in
    let within : c.args.what < length own.places.items = omega (arith, before, length-map own.places.items (what_at own.groups)) in
    let at : slice_get own.places.items c.args.what ≡ Some (Place.Rma c.in-Rma.call) =
    slice_get-get_or own.places.items c.args.what c.index.result.now within ∙ ap Some (sym c.index.ensures ∙ c.in-Rma.is) in (
      call,
      rw (← c.self.view_is) (slice_get-map (what_at own.groups) own.places.items c.args.what ∙ ap (option_map (what_at own.groups)) at),
      rw (← c.self.view_is, c.in_ok-push.ensures.items, more, same) refl,
    )
