use Rattle.std.proofs.Common.{w64}
use Rattle.std.proofs.lemmas.Int.{to_z-of_z}
use Rattle.rma_layout.specs.declared.space.Space.TheVariants.{Local}
use Rattle.rma_layout.proofs.KnownLemmas.{may_be_moved}
use Rattle.rma_buffer.proofs.elsewhere.moved.Goals as goal

pub moved-requires : goal.moved-requires
moved-requires c = rw (to_z-of_z w64 c.args.by c.ranges.by) (may_be_moved Local c.args.by c.args.layout.now.runs c.requires)
