use Rattle.std.proofs.Common.{◌≡◌, ◌≤◌, ◌+◌, ◌-◌, ◌*◌, take, drop, length, get_or, sum_by, arith}
use Rattle.rma_layout.proofs.Words.{basic_size}
use Rattle.rma_layout.proofs.SignatureLemmas.{prefix_step, prefix_small}
use Rattle.rma_type.specs.Signature.{spread}
use Rattle.rma_type.specs.declared.sig_run.SigRun.{SigRun}
use Rattle.rma_type.proofs.RunLemmas.{no_run}
use Rattle.rma_layout.proofs.prefix.prefix_bytes.Goals as goal

pub returns-then-left-eq0-clause-small : goal.returns-then-left-eq0-clause-small
returns-then-left-eq0-clause-small c =
    let inv : c.each.total + sum_by basic_size (take c.each.left (spread (drop c.each.run-index c.args.runs.now))) ≡ sum_by basic_size (take c.args.elements (spread c.args.runs.now)) = c.each.invariant in
    let small = prefix_small (spread c.args.runs.now) c.args.elements in
    omega (arith, c.requires, inv, small)

pub returns-clause-small : goal.returns-clause-small
returns-clause-small c =
    let inv : c.each.total + sum_by basic_size (take c.each.left (spread (drop c.each.run-index c.args.runs.now))) ≡ sum_by basic_size (take c.args.elements (spread c.args.runs.now)) = c.each.invariant in
    let small = prefix_small (spread c.args.runs.now) c.args.elements in
    omega (arith, c.requires, inv, small)

-- one run more
module _ (c : goal.After-size) where
  run : SigRun
  run = get_or c.args.runs.now c.each.run-index no_run

  step : sum_by basic_size (take c.each.left (spread (drop c.each.run-index c.args.runs.now)))
      ≡ c.min-count.result * c.size.result + sum_by basic_size (take (c.each.left - c.min-count.result) (spread (drop (c.each.run-index + 1) c.args.runs.now)))
  step = prefix_step c.args.runs.now c.each.left c.each.run-index c.min-count.result c.size.result c.each-test.true c.min-count.ensures c.size.ensures

  fits : c.each.total + c.min-count.result * c.size.result ≤ 8 * length (spread c.args.runs.now)
  fits =
      let inv : c.each.total + sum_by basic_size (take c.each.left (spread (drop c.each.run-index c.args.runs.now))) ≡ sum_by basic_size (take c.args.elements (spread c.args.runs.now)) = c.each.invariant in
      let small = prefix_small (spread c.args.runs.now) c.args.elements in
      omega (arith, inv, small, step)

pub overflow_mul-total : goal.overflow_mul-total
overflow_mul-total c = omega (arith, fits c, c.requires)

pub overflow_add-total : goal.overflow_add-total
overflow_add-total c = omega (arith, fits c, c.requires)

pub each-preserved : goal.each-preserved
each-preserved c =
    let inv : c.each.total + sum_by basic_size (take c.each.left (spread (drop c.each.run-index c.args.runs.now))) ≡ sum_by basic_size (take c.args.elements (spread c.args.runs.now)) = c.each.invariant in
    omega (arith, inv, step c)
