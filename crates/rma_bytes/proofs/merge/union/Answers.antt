use Rattle.std.proofs.Common.{arith}
use Rattle.std.proofs.lemmas.List.Sorted.{All-permutation, length_permutation}
use Rattle.std.proofs.lemmas.Result.{IfOk-weaker}
use Rattle.smallvec.specs.SmallVec.{SmallVec}
use Rattle.rma_bytes.specs.declared.run.Run.{Run}
use Rattle.rma_bytes.specs.Runs.{IsInBounds, SameBytes}
use Rattle.rma_bytes.proofs.OrderLemmas.{same_bytes_through}
use Rattle.rma_bytes.proofs.merge.union.Goals as goal

pub merged-requires-else-ascend-clause-bounds : goal.merged-requires-else-ascend-clause-bounds
merged-requires-else-ascend-clause-bounds c =
    rw c.as_slice-else-ascend.ensures (All-permutation IsInBounds c.args.blocks.now _ c.in_ok-sorted.ensures.permutation c.requires)

pub returns-in_ok-sorted-clause-bytes : goal.returns-in_ok-sorted-clause-bytes
returns-in_ok-sorted-clause-bytes c =
    let sorted = c.as_slice-else-ascend.result.now in
    IfOk-weaker c.merged-else-ascend.result (λ (runs : SmallVec Run). SameBytes runs.items sorted) (λ (runs : SmallVec Run). SameBytes runs.items c.args.blocks.now)
    (λ runs same. same_bytes_through runs.items sorted c.args.blocks.now (rw c.as_slice-else-ascend.ensures c.in_ok-sorted.ensures.permutation) same)
    c.merged-else-ascend.ensures.bytes

pub returns-in_ok-sorted-clause-short : goal.returns-in_ok-sorted-clause-short
returns-in_ok-sorted-clause-short c =
    let lengths = length_permutation c.args.blocks.now _ c.in_ok-sorted.ensures.permutation in
    (λ few. c.merged-else-ascend.ensures.short (rw c.as_slice-else-ascend.ensures (omega arith)))
