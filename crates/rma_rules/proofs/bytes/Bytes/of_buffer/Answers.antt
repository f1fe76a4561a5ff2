use Rattle.rma_bytes.proofs.RegionLemmas.{moved_by_zero}
use Rattle.rma_rules.proofs.bytes.Bytes.of_buffer.Goals as goal

pub invariant_of-result : goal.invariant_of-result
invariant_of-result c = (c.requires, rw (moved_by_zero c.args.buffer.runs) c.requires)

pub returns : goal.returns
returns c = moved_by_zero c.args.buffer.runs
