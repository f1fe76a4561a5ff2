use Rattle.std.proofs.Common.{◌∷◌, [], length, refl, ◌∙◌}
use Rattle.std.proofs.lemmas.Option.{slice_get_read}
use Rattle.rma_exposed.specs.Exposed.{with_epochs}
use Rattle.rma_exposed.proofs.ListLemmas.{listed_more}
use Rattle.rma_exposed.proofs.listing.list_epochs.Goals as goal

pub loop-epoch-preserved : goal.loop-epoch-preserved
loop-epoch-preserved c =
    let epochs = c.args.epochs.now in
    let calls = c.args.calls.now.calls in
    let epoch = c.epoch-item.result in
    c.in_ok-list_epoch.ensures
    ∙ (λ t. with_epochs (c.loop-epoch.invariant t) c.args.rank calls (epoch ∷ []))
    ∙ listed_more c.args.spans.now c.args.rank calls epochs c.loop-epoch.epoch-index epoch
    (slice_get_read epochs (length epochs) c.loop-epoch.epoch-index epoch refl c.loop-epoch-test.true c.epoch-item.is)
