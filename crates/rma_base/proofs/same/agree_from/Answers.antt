use Rattle.std.proofs.lemmas.Simd.{length-chunk}
use Rattle.rma_base.proofs.SameLemmas.{no_bit_tells}
use Rattle.rma_base.proofs.same.agree_from.Goals as goal

pub returns : goal.returns
returns g c =
    no_bit_tells g.row.N _ _ (length-chunk c.args.from g.row.N c.args.own.now c.requires.own) (length-chunk c.args.from g.row.N c.args.other.now c.requires.other) c.requires.few.1
