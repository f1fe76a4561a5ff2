use Rattle.rma_audit.proofs.TrialLemmas.{nothing_taken, follows_trial, still_trial, only_memory, few_books, tried, if_ok}
use Rattle.rma_audit.proofs.judging.judge_trial.Goals as goal

pub read_all-requires-clause-none_taken : goal.read_all-requires-clause-none_taken
read_all-requires-clause-none_taken c = nothing_taken c.args.trial c.new-logs.result c.new-logs.ensures

pub read_all-requires-clause-follows : goal.read_all-requires-clause-follows
read_all-requires-clause-follows c = follows_trial c.args.trial c.in_ok-audit.audit c.new-logs.result c.new-logs.ensures c.in_ok-audit.ensures.text

pub finish-requires : goal.finish-requires
finish-requires c =
    few_books c.args.trial c.requires c.read_all.new.logs c.read_all.new.audit
    (still_trial c.args.trial c.new-logs.result c.read_all.new.logs c.new-logs.ensures c.in-Ok.ensures.stays) c.in-Ok.ensures.follows

pub returns-in-Ok : goal.returns-in-Ok
returns-in-Ok c =
    if_ok c.finish.result _ _
    (tried c.args.trial c.read_all.new.logs c.read_all.new.audit (still_trial c.args.trial c.new-logs.result c.read_all.new.logs c.new-logs.ensures c.in-Ok.ensures.stays)
    c.in-Ok.ensures.follows c.in-Ok.ensures.read) c.finish.ensures.findings

pub memory_of-requires : goal.memory_of-requires
memory_of-requires c =
    only_memory c.args.trial c.requires c.in-Err.stop c.new-logs.result c.read_all.new.logs c.new-logs.ensures c.in-Err.ensures.stays c.in-Err.ensures.stops
