use Rattle.std.proofs.Common.{◌+◌, ◌-◌, ◌/◌, ◌<◌, length, arith}
use Rattle.std.proofs.lemmas.Option.{slice_get-get_or}
use Rattle.rma_concurrent.proofs.EpochLemmas.{all_unlocked}
use Rattle.rma_concurrent.proofs.exposed.begun_before_unlock.Goals as goal

pub search-preserved-then-is_unlocked_before : goal.search-preserved-then-is_unlocked_before
search-preserved-then-is_unlocked_before g c =
    let list = c.args.list.now in
    let middle = c.search.low + (c.search.high - c.search.low) / 2 in
    let within : middle < length list = omega arith in
    record {
      from = c.search.invariant.from;
      low = omega arith;
      high = omega arith;
      after = λ points links are locked exposed k own le below at.
          all_unlocked links c.args.lock.now list c.requires.rise c.args.first c.args.behind c.requires.beside middle k _ own (omega arith) le below (slice_get-get_or list middle _ within) at
          ((c.is_unlocked_before.ensures points links are locked (exposed middle _ within)).0 c.if-is_unlocked_before.true);
    }
