use Rattle.rma_layout.proofs.RunsLemmas.{no_run_more, run_more}
use Rattle.rma_layout.proofs.space.Space.push_run.Goals as goal

pub returns-then-block-eq0-clause-bytes : goal.returns-then-block-eq0-clause-bytes
returns-then-block-eq0-clause-bytes c = no_run_more c.args.runs.now.items c.args.block.now.start c.args.block.now.len c.if-block-eq0.true

pub returns-in-Ok-clause-bytes : goal.returns-in-Ok-clause-bytes
returns-in-Ok-clause-bytes c =
    run_more c.args.runs.now.items c.push.new.self.items c.run.result c.args.block.now.start c.args.block.now.len c.in-Ok.ensures.ok c.run.ensures.start c.run.ensures.len
