use Rattle.std.proofs.Common.{◌≡◌, List, take, All, subst, arith}
use Rattle.std.proofs.lemmas.List.{take_all}
use Rattle.std.proofs.lemmas.List.Elements.{All-more}
use Rattle.rma_io.specs.Schedule.{Cut, IsIdle}
use Rattle.rma_io.specs.inside.OpenLogs.{lefts}
use Rattle.rma_io.proofs.open_log.first_live.Goals as goal

pub loop-index-preserved : goal.loop-index-preserved
loop-index-preserved c =
    All-more (IsIdle (lefts c.args.opened.now)) c.args.cuts.now c.loop-index.index (0, 0) c.loop-index-test.true c.loop-index.invariant (omega arith)

pub returns : goal.returns
returns c =
    let cuts = c.args.cuts.now in
    let same : take c.loop-index.index cuts ≡ cuts = take_all c.loop-index.index cuts (omega arith) in
    subst (λ (xs : List Cut). All (IsIdle (lefts c.args.opened.now)) xs) same c.loop-index.invariant
