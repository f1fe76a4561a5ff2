use Rattle.rma_pairs.proofs.NameLemmas.{names_are_own}
use Rattle.rma_pairs.proofs.RaceLemmas.{is_one}
use Rattle.rma_span.specs.Span.{accesses}
use Rattle.rma_races.proofs.races.races_of.Goals as goal

pub in_order-requires : goal.in_order-requires
in_order-requires g c =
    let (ranks, links, of, clocks) = c.requires in
    let is = c.in_ok-found.ensures ranks links of clocks in
    λ f h has also first second.
    is_one links c.args.windows.now c.args.run.now.lists (accesses ranks) f h (names_are_own ranks of.good) ((is f).0 has) ((is h).0 also) first second

pub returns : goal.returns
returns g c = λ ranks links of clocks.
    let is = c.in_ok-found.ensures ranks links of clocks in
    record {
      only = λ race has. (is race).0 ((c.in_order.ensures.same race).0 has);
      all = λ race found. (c.in_order.ensures.same race).1 ((is race).1 found);
      ascend = c.in_order.ensures.ascend;
    }
