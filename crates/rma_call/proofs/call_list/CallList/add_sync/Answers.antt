use Rattle.std.proofs.Common.{refl, arith}
use Rattle.rma_call.specs.declared.what.What.TheVariants as what
use Rattle.rma_call.specs.inside.Groups.{whats_at}
use Rattle.rma_call.proofs.CallListLemmas.{calls_with_what}
use Rattle.rma_call.proofs.GroupLemmas.{on_err, tables_more, tables_stay, whats_more, whats_stay}
use Rattle.rma_call.proofs.call_list.CallList.add_sync.Goals as goal

pub returns-in_err-place-clause-err : goal.returns-in_err-place-clause-err
returns-in_err-place-clause-err c =
    let own = c.self.inside in
    on_err c.from_residual-in_err-place.result
    (rw (← c.self.view_is, whats_stay own.groups c.put_sync.new.self own.places.items c.put_sync.ensures.grows c.self.invariant.1) refl)

pub invariant_of-self-in_err-push : goal.invariant_of-self-in_err-push
invariant_of-self-in_err-push c =
    let own = c.self.inside in
    rw c.in_err-push.ensures.items (tables_stay own.groups c.put_sync.new.self own.places.items own.sites.items own.entries c.put_sync.ensures.grows c.self.invariant)

pub returns-in_err-push-clause-err : goal.returns-in_err-push-clause-err
returns-in_err-push-clause-err c =
    let own = c.self.inside in
    on_err c.from_residual-in_err-push.result
    (rw (← c.self.view_is, c.in_err-push.ensures.items, whats_stay own.groups c.put_sync.new.self own.places.items c.put_sync.ensures.grows c.self.invariant.1) refl)

pub invariant_of-self-2 : goal.invariant_of-self-2
invariant_of-self-2 c =
    let own = c.self.inside in
    rw c.in_ok-push.ensures.items
    (tables_more own.groups c.put_sync.new.self own.places.items own.sites.items own.entries c.put_sync.ensures.grows c.self.invariant c.in_ok-place.place c.in_ok-place.ensures.there
    (omega (arith, c.len.ensures, c.in_ok-number.ensures.fits)))

pub returns-clause-ok : goal.returns-clause-ok
returns-clause-ok c =
    let own = c.self.inside in
    let more = whats_more own.groups c.put_sync.new.self own.places.items c.in_ok-place.place (what.Sync c.args.call) c.put_sync.ensures.grows c.self.invariant.1 c.in_ok-place.ensures.is in
    let same = calls_with_what (whats_at own.groups own.places.items) own.sites.items (what.Sync c.args.call) own.entries c.self.invariant.0.below in
    rw (← c.self.view_is, c.in_ok-push.ensures.items, more, same) refl
