use Rattle.rma_accesses.proofs.accesses.RunAccesses.of.Goals as goal

pub returns : goal.returns
returns c = record {
  owns = c.in_ok-ranks.ensures.ranks;
  each = c.in_ok-ranks.ensures.each;
  lists = c.in_ok-add_fenced.ensures (c.in_ok-lists.ensures c.args.ranks.now c.requires.good.run c.requires.epochs);
}
