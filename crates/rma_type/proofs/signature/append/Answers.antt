use Rattle.std.proofs.Common.{length, get_or, take, ap, ◌∙◌, arith}
use Rattle.rma_type.proofs.Words.{append_assoc, length-append, take_all, basics_of, spread}
use Rattle.rma_type.proofs.RunLemmas.{no_run, run_is_some, spread_more, spread_more_fits}
use Rattle.rma_type.proofs.signature.append.Goals as goal

pub push-requires-clause-some : goal.push-requires-clause-some
push-requires-clause-some c = run_is_some c.args.runs.now c.loop-run.run-index no_run c.loop-run-test.true c.requires.apart

pub push-requires-clause-few : goal.push-requires-clause-few
push-requires-clause-few c =
    let runs = c.args.runs.now in
    let i = c.loop-run.run-index in
    let fits = spread_more_fits runs i no_run c.loop-run-test.true in
    let long = ap length c.loop-run.invariant.same ∙ length-append (spread c.args.done.now.items) (spread (take i runs)) in
    omega (arith, fits, long, c.requires.few)

pub loop-run-preserved : goal.loop-run-preserved
loop-run-preserved c =
    let runs = c.args.runs.now in
    let i = c.loop-run.run-index in
    let one = basics_of (get_or runs i no_run) in
    record {
      same = rw (c.in_ok-push.ensures.same, c.loop-run.invariant.same, spread_more runs i no_run c.loop-run-test.true) (append_assoc (spread c.args.done.now.items) (spread (take i runs)) one);
      apart = c.in_ok-push.ensures.apart;
    }

pub returns-clause-same : goal.returns-clause-same
returns-clause-same c =
    rw (c.loop-run.invariant.same, take_all c.loop-run.run-index c.args.runs.now c.loop-run-test.false)
