use Rattle.std.proofs.Common.{◌≡◌, length, refl, arith}
use Rattle.std.proofs.lemmas.Bool.Decides.{nat_tests}
use Rattle.std.proofs.lemmas.Option.{slice_get_read}
use Rattle.rma_epoch.proofs.EpochLemmas.{access_there}
use Rattle.rma_span.proofs.placed.epoch_there.Goals as goal

pub returns-in-Some-clause-epoch : goal.returns-in-Some-clause-epoch
returns-in-Some-clause-epoch c =
    let placed = c.args.placed.now in
    let access = c.in-Some.access.now in
    let there = slice_get_read placed (length placed) c.args.there access refl c.in-Some.ensures.lookup.3.0 c.in-Some.ensures.lookup.1 in
    let same : access.call ≡ c.args.number = grind (arith, nat_tests, c.if-access-number.true) in
    access_there placed c.requires c.args.number c.args.there access there same
