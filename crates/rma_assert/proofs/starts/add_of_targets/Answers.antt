use Rattle.std.proofs.Common.{arith}
use Rattle.std.proofs.lemmas.Option.{slice_get-get_or}
use Rattle.rma_run.specs.Run.{calls_of}
use Rattle.rma_assert.specs.inside.Gathered.{IsAtPlace}
use Rattle.rma_assert.specs.inside.Started.{IsOfTarget}
use Rattle.rma_assert.proofs.GatherLemmas.{at_all, at_place, up_to_more, up_to_none}
use Rattle.rma_assert.proofs.starts.add_of_targets.Goals as goal

pub loop-target-init : goal.loop-target-init
loop-target-init g c = λ links are. up_to_none (IsAtPlace (IsOfTarget links (calls_of c.args.ranks.now) c.args.start) c.args.targets.now) c.args.found.now.items

pub loop-target-preserved : goal.loop-target-preserved
loop-target-preserved g c = λ links are.
    let Is = IsOfTarget links (calls_of c.args.ranks.now) c.args.start in
    let targets = c.args.targets.now in
    let i = c.loop-target.target-index in
    up_to_more (IsAtPlace Is targets) i c.args.found.now.items c.loop-target.found.items c.add_of_target.new.found.items (c.loop-target.invariant links are)
    (at_place Is targets i _ c.loop-target.found.items c.add_of_target.new.found.items (slice_get-get_or targets i _ c.loop-target-test.true) (c.in_ok-add_of_target.ensures links are))

pub returns : goal.returns
returns g c = λ links are.
    let Is = IsOfTarget links (calls_of c.args.ranks.now) c.args.start in
    let past = c.loop-target-test.false in
    at_all Is c.args.targets.now c.loop-target.target-index c.args.found.now.items c.loop-target.found.items (omega arith) (c.loop-target.invariant links are)
