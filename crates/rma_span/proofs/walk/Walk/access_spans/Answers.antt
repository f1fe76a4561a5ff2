use Rattle.std.proofs.lemmas.Option.{slice_get_read}
use Rattle.std.proofs.Common.{length, ◌≡◌, Some, slice_get, sym, subst, ap, ◌∙◌, refl}
use Rattle.rma_epoch.specs.Table.{epoch_at, placed_of}
use Rattle.rma_cover.specs.Cover.{IsFrom}
use Rattle.rma_side.specs.Sides.{AreSides}
use Rattle.rma_span.specs.Span.{freed_by}
use Rattle.rma_span.specs.inside.Stored.{IsAtTarget, IsOwn}
use Rattle.rma_span.proofs.CallLemmas.{epoch_here, own_here, target_here}
use Rattle.rma_span.proofs.walk.Walk.access_spans.Goals as goal

pub returns-clause-kept : goal.returns-clause-kept
returns-clause-kept c = λ own call access of what to made there way.
    let number = c.args.number in
    let index = c.in-Some-epoch_of.index in
    let target = c.in-Some.target in
    let epoch = c.in-Some-get.epoch.now in
    let got : slice_get c.args.from.epochs.now index ≡ Some epoch = slice_get_read c.args.from.epochs.now (length c.args.from.epochs.now) index epoch refl c.in-Some-get.ensures.lookup.3.0 c.in-Some-get.ensures.lookup.1 in
    let at : epoch_at (placed_of own.windows own.sound) number ≡ Some index = ap (λ placed. epoch_at placed number) (sym of.placed) ∙ sym c.epoch_of.ensures ∙ c.in-Some-epoch_of.is in
    let found = epoch_here own number index epoch at (ap (λ epochs. slice_get epochs index) (sym of.epochs) ∙ got) in
    let aim = to ∙ c.in-Some.is in (
      refl,
      subst (λ span. IsOwn c.buffer_span.new.lists span c.in_ok-own.own) (sym (own_here own number call access epoch target c.args.request what aim made found))
          (c.in_ok-own.ensures.span own of way.held (subst (λ r. IsFrom number (freed_by own epoch target r number)) made (of.later number call epoch target there found))),
      subst (λ span. IsAtTarget c.target_span.new.lists span (Some c.in_ok-at_target.at_target)) (sym (target_here own number call.what access epoch target what aim found))
          (c.in_ok-at_target.ensures.span own epoch of got (subst (λ epochs. AreSides own.calls own.windows own.rank epochs c.args.self.now.sides) (sym of.epochs) way.sides)),
    )
