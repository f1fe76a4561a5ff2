use Rattle.std.proofs.Common.{◌-◌, ◌<◌, length, arith}
use Rattle.std.proofs.lemmas.Option.{slice_get-get_or}
use Rattle.rma_assert.proofs.StoreLemmas.{at_most, done_later}
use Rattle.rma_assert.proofs.stores.was_done.Goals as goal

pub returns-clause-not_done : goal.returns-clause-not_done
returns-clause-not_done c = λ test k v less there done.
    let published = c.args.published.now in
    let last = c.args.place - 1 in
    let place = c.requires.place in
    let within : last < length published = omega arith in
    let le = at_most published c.requires.published.ascend k last v _ (omega arith) there (slice_get-get_or published last 0 within) in
    let yes = c.is_done_by.ensures.1 (done_later c.args.access.now v _ le done) in
    cc
