use Rattle.std.proofs.Common.{◌+◌, ◌-◌, ◌/◌, ◌<◌, length, arith}
use Rattle.std.proofs.lemmas.Option.{slice_get-get_or}
use Rattle.rma_concurrent.proofs.EpochLemmas.{all_later}
use Rattle.rma_concurrent.proofs.doubled.begun_before.Goals as goal

pub search-preserved-then-post-list : goal.search-preserved-then-post-list
search-preserved-then-post-list c =
    let list = c.args.list.now in
    let middle = c.search.low + (c.search.high - c.search.low) / 2 in
    let within : middle < length list = omega arith in
    record {
      from = c.search.invariant.from;
      low = omega arith;
      high = omega arith;
      after = λ k own le below at.
          all_later c.args.post.now list c.requires.rise c.args.first c.args.behind c.requires.beside middle k _ own (omega arith) le below (slice_get-get_or list middle _ within) at c.if-post-list.true;
    }
