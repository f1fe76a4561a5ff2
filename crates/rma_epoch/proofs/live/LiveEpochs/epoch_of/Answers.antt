use Rattle.std.proofs.Common.{List, sym, ap, subst, ◌∙◌}
use Rattle.rma_epoch.specs.declared.epoch.Placed.{Placed}
use Rattle.rma_epoch.specs.Table.{InOrder, epoch_at}
use Rattle.rma_epoch.proofs.TableLemmas.{placed_in_order}
use Rattle.rma_epoch.proofs.live.LiveEpochs.epoch_of.Goals as goal

pub returns : goal.returns
returns c = λ windows calls has.
    let is = c.placed.ensures ∙ has.placed_are in
    c.epoch_of.ensures (subst InOrder (sym is) (placed_in_order windows calls)) ∙ ap (λ (placed : List Placed). epoch_at placed c.args.call) is
