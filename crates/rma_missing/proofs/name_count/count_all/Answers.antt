use Rattle.rma_call.specs.Call.{call_of}
use Rattle.rma_missing.proofs.NameCountLemmas.{AreCounts_counted}
use Rattle.rma_missing.proofs.name_count.count_all.Goals as goal

pub loop-i-preserved : goal.loop-i-preserved
loop-i-preserved c =
    AreCounts_counted c.args.kind c.args.calls.now.calls c.loop-i.i (call_of c.get.result) c.loop-i.counts.entries c.note.new.counts.entries
    c.get.ensures c.loop-i.invariant c.in-Ok.ensures
