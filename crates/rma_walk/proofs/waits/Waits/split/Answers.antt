use Rattle.std.proofs.Common.{◌∷◌, sym, ap, ◌∙◌, arith}
use Rattle.std.specs.Prelude.{slice_index_or}
use Rattle.rma_walk.specs.declared.source.Source.{Source}
use Rattle.rma_walk.specs.inside.Inbox.{chain, no_arrival}
use Rattle.rma_walk.proofs.InboxLemmas.{chain_from}
use Rattle.rma_walk.proofs.waits.Waits.split.Goals as goal

pub returns-in-Arrivals-clause-some : goal.returns-in-Arrivals-clause-some
returns-in-Arrivals-clause-some c =
    let arrivals = c.args.arrivals.now in
    let k = c.in-Arrivals.index in
    let within = rw c.in-Arrivals.is at c.requires.within in
    ap (chain arrivals) c.in-Arrivals.is ∙ chain_from arrivals c.requires.earlier k (omega arith)
    ∙ ap (λ (s : Source). s ∷ chain arrivals (slice_index_or arrivals k no_arrival).before) (sym c.source.ensures)
