use Rattle.std.proofs.Common.{arith}
use Rattle.std.proofs.lemmas.Grind.{common_steps}
use Rattle.rma_io.proofs.BufferLemmas.{take_filled}
use Rattle.rma_io.proofs.buffer.Buffer.pass.Goals as goal

pub returns : goal.returns
returns c = grind (arith, common_steps, take_filled)
