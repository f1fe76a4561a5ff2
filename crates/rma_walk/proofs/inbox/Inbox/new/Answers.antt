use Rattle.std.proofs.Common.{map, ap, ◌∙◌}
use Rattle.rma_walk.specs.declared.waits.Waits.TheVariants.{Nothing}
use Rattle.rma_walk.specs.inside.Inbox.{chain}
use Rattle.rma_walk.proofs.InboxLemmas.{map_replicate}
use Rattle.rma_walk.proofs.inbox.Inbox.new.Goals as goal

pub returns : goal.returns
returns c = ap (map (chain c.new.result.items)) (c.in_ok-waits.ensures.items_if_clones_equal (λ y same. same)) ∙ map_replicate (chain c.new.result.items) c.args.calls Nothing
