use Rattle.rma_accesses.specs.inside.Kept.{rank_of}
use Rattle.rma_probe.proofs.PairLemmas.{some_of_run}
use Rattle.rma_probe.proofs.table.add_call.Goals as goal

pub loop-role-preserved : goal.loop-role-preserved
loop-role-preserved c = λ ranks is there all.
    c.in_ok-push_some.ensures ranks (some_of_run ranks (rank_of c.args.own.now) c.access.result there (c.access.ensures.of_rank ranks is)) (c.loop-role.invariant ranks is there all)
