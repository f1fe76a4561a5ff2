use Rattle.std.proofs.Common.{refl}
use Rattle.rma_bytes.proofs.RegionLemmas.{moved_by_zero}
use Rattle.rma_bytes.proofs.moved_layout.MovedLayout.unmoved.Goals as goal

pub returns : goal.returns
returns c = rw (c.new.ensures, c.zero.ensures, moved_by_zero c.args.layout.now.runs) refl
