use Rattle.std.proofs.Common.{arith, w64}
use Rattle.std.proofs.lemmas.Nat.Bits.{bit_at-trailing_zeros}
use Rattle.rma_lex.proofs.mask.lowest.Goals as goal

pub returns-clause-lowest : goal.returns-clause-lowest
returns-clause-lowest c =
    let h = bit_at-trailing_zeros w64 c.args.mask (omega (arith, c.requires)) c.ranges.mask.fits in
    record { set = h.1; below = h.2 }
