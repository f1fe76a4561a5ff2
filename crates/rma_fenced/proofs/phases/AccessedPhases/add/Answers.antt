use Rattle.std.proofs.Common.{get_or, take, arith}
use Rattle.std.proofs.lemmas.Option.{slice_get-get_or}
use Rattle.rma_epoch.specs.declared.epoch.Placed.{Placed}
use Rattle.rma_run.specs.Run.{calls_of}
use Rattle.rma_fenced.proofs.PhaseLemmas.{same_all, same_more, sound_within}
use Rattle.rma_fenced.proofs.phases.AccessedPhases.add.Goals as goal

pub key_of-key-requires : goal.key_of-key-requires
key_of-key-requires c =
    let (windows, are) = c.requires.table in
    let within = sound_within windows c.args.calls.now c.args.table.now are in
    let is = c.sound-sound.ensures in
    omega arith

pub loop-placed-preserved : goal.loop-placed-preserved
loop-placed-preserved c =
    let all = c.placed-placed-items.result.now in
    let i = c.loop-placed.placed-index in
    let none : Placed = record { call = 0; epoch = 0 } in
    record {
      same = same_more (calls_of c.args.ranks.now) c.args.rank c.epochs-epochs.result.now (take c.sound-sound.result c.args.calls.now.calls) c.add_access.new.self c.loop-placed.self c.args.self.now all i
          (get_or all i none) c.key_of-key.result (slice_get-get_or all i none c.loop-placed-test.true) c.key_of-key.ensures c.in_ok-add_access.ensures.same c.loop-placed.invariant.same;
      last = c.in_ok-add_access.ensures.last;
    }

pub returns : goal.returns
returns c = λ windows listed are base.
    let all = c.placed-placed-items.result.now in
    same_all (calls_of c.args.ranks.now) c.args.rank windows c.args.calls.now c.args.table.now are c.sound-sound.result c.epochs-epochs.result.now all c.loop-placed.placed-index
    c.sound-sound.ensures c.epochs-epochs.ensures c.placed-placed-items.ensures.placed c.loop-placed-test.false c.loop-placed.self c.args.self.now listed c.loop-placed.invariant.same base
