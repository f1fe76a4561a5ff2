use Rattle.std.proofs.Common.{slice_get, sym, ap, subst, ◌∙◌}
use Rattle.std.specs.Prelude.{IfSome}
use Rattle.std.specs.Map.{keys_of}
use Rattle.rma_message.specs.inside.Matched.{AreKnown, IsPlaceFor}
use Rattle.rma_message.proofs.PostedLemmas.{known_more}
use Rattle.rma_message.proofs.posted.place_for.Goals as goal

pub returns-in-Some-clause-place : goal.returns-in-Some-clause-place
returns-in-Some-clause-place c =
    c.requires.known c.args.wait (record { post = c.args.post; place = c.in-Some.place }) c.args.received (ap (λ l. slice_get l c.args.wait) (sym c.as_slice.ensures.value) ∙ c.in-Some.ensures) c.requires.wait

pub returns-in-Some-found-clause-known : goal.returns-in-Some-found-clause-known
returns-in-Some-found-clause-known c =
    let rank = c.args.rank in
    let keys = keys_of c.args.queues.now.entries in
    let whats = c.args.calls.now.whats in
    let is = subst (λ o. IfSome o (IsPlaceFor rank keys whats c.args.post c.args.received)) c.in-Some-found.is c.in_ok-found.ensures in
    subst (AreKnown rank keys whats) (sym c.put_known.ensures)
    (known_more rank keys whats c.args.known.now.items c.args.wait (record { post = c.args.post; place = c.in-Some-found.place }) c.args.received c.requires.known c.requires.wait is)
