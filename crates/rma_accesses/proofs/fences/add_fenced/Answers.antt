use Rattle.std.proofs.Common.{map}
use Rattle.rma_accesses.specs.Run.{own_of}
use Rattle.rma_rules.proofs.ListLemmas.{OnOk_map}
use Rattle.rma_accesses.proofs.FenceLemmas.{all_lists}
use Rattle.rma_accesses.proofs.fences.add_fenced.Goals as goal

pub returns : goal.returns
returns c = OnOk_map c.list_ranks.result (λ is posted. all_lists c.args.ranks.now (map own_of c.args.epochs.now.ranks.items) c.args.epochs.now.windows c.in_ok-phases.phases
    c.args.lists.now c.list_ranks.new.lists c.requires.epochs.owns c.requires.epochs.windows c.in_ok-phases.ensures is posted) c.list_ranks.ensures
