use Rattle.rma_call.specs.Call.{call_of}
use Rattle.rma_explain.proofs.LineLemmas.{line_is_at, number_within}
use Rattle.rma_explain.proofs.named.line_at.Goals as goal

pub get-requires : goal.get-requires
get-requires c =
    let (ranks, of, within) = c.requires in
    number_within ranks c.args.calls.now c.args.own.now of c.args.index c.call.result (c.call.ensures ranks of.accesses)

pub returns : goal.returns
returns c = λ ranks of. line_is_at ranks c.args.calls.now c.args.own.now of c.args.index c.call.result (c.call.ensures ranks of.accesses) (call_of c.get.result) c.get.ensures
