use Rattle.std.proofs.Common.{arith}
use Rattle.rma_audit.specs.inside.Progress.{NoPull, OnePull}
use Rattle.rma_audit.proofs.reading.read_all.Goals as goal

pub pieces-init : goal.pieces-init
pieces-init g c = (c.requires.follows, c.requires.none_taken, omega arith, omega arith, NoPull)

pub returns-in_err-so_far-clause-stays : goal.returns-in_err-so_far-clause-stays
returns-in_err-so_far-clause-stays g c = OnePull c.pieces.logs c.read_piece.new.logs c.pieces.invariant.4 c.read_piece.ensures.stays

pub pieces-preserved : goal.pieces-preserved
pieces-preserved g c =
    let more = rw c.in-Some.is at c.in_ok-so_far.ensures.more in (
      c.in_ok-so_far.ensures.follows,
      more.0,
      more.2,
      omega (arith, c.pieces.invariant.3, c.read_piece.ensures.faults),
      OnePull c.pieces.logs c.read_piece.new.logs c.pieces.invariant.4 c.read_piece.ensures.stays,
    )

pub returns-clause-stays : goal.returns-clause-stays
returns-clause-stays g c = OnePull c.pieces.logs c.read_piece.new.logs c.pieces.invariant.4 c.read_piece.ensures.stays
