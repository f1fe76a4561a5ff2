use Rattle.std.proofs.Common.{◌≡◌, [], arith}
use Rattle.rma_report.proofs.BufferLemmas.{passed_long}
use Rattle.rma_report.proofs.buffer.write.Goals as goal

pub returns : goal.returns
returns g c =
    let same : c.try_push_str.new.self.bytes ≡ c.args.buffer.now.bytes = grind (arith, c.try_push_str.ensures.err) in
    let empty : c.flush.new.buffer.bytes ≡ [] = c.in_ok-flush.ensures.empty in
    let still_empty : c.try_push_str-2.new.self.bytes ≡ [] = grind (arith, c.try_push_str-2.ensures.err) in
    passed_long _ _ _ c.args.buffer.now.bytes c.try_push_str.new.self.bytes c.flush.new.buffer.bytes c.args.text.now c.try_push_str-2.new.self.bytes c.put.result same empty still_empty c.in_ok-flush.ensures.passed c.put.ensures
