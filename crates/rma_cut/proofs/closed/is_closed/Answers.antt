use Rattle.rma_cut.proofs.ClosedLemmas.{closed_edges, closed_meets, kept_closed}
use Rattle.rma_cut.proofs.closed.is_closed.Goals as goal

pub returns-then-keeps_edges : goal.returns-then-keeps_edges
returns-then-keeps_edges c =
    let edges = rw c.as_slice.ensures at (c.keeps_edges.ensures.0 c.if-keeps_edges.true) in
    let meets = rw c.as_slice-then-keeps_edges.ensures at c.keeps_meets.ensures in
    (λ test. kept_closed c.args.links.now c.args.cut.now edges (meets.0 test), λ closed. meets.1 (closed_meets c.args.links.now c.args.cut.now closed))

pub returns-else-keeps_edges : goal.returns-else-keeps_edges
returns-else-keeps_edges c =
    let edges = rw c.as_slice.ensures at c.keeps_edges.ensures in
    (λ test. absurd (cc), λ closed. edges.1 (closed_edges c.args.links.now c.args.cut.now closed))
