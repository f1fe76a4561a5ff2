use Rattle.std.proofs.Common.{arith}
use Rattle.rma_dyn.proofs.overlap.last_of.Goals as goal

pub returns-in-Some : goal.returns-in-Some
returns-in-Some c = λ number more small live.
    let le = live.still c.in-Some.detach ((c.detach_of.ensures c.in-Some.detach).0 c.in-Some.is) in
    omega arith
