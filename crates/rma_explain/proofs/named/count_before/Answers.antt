use Rattle.std.proofs.Common.{◌+◌, ◌-◌, ◌/◌, arith}
use Rattle.rma_explain.proofs.LineLemmas.{lines_never_fall}
use Rattle.rma_explain.proofs.named.count_before.Goals as goal

pub search-preserved-then-line_at-line : goal.search-preserved-then-line_at-line
search-preserved-then-line_at-line c =
    let middle = c.search.low + (c.search.high - c.search.low) / 2 in
    let test = c.search-test.true in
    let less = c.if-line_at-line.true in
    record {
      low = omega arith;
      high = c.search.invariant.high;
      before = λ ranks index line of at upto.
          let up = lines_never_fall ranks c.args.calls.now c.args.own.now of index middle line c.line_at.result.0 at (c.line_at.ensures ranks of) (omega (arith, upto)) in
          omega (arith, up, less);
      after = c.search.invariant.after;
    }

pub search-preserved : goal.search-preserved
search-preserved c =
    let middle = c.search.low + (c.search.high - c.search.low) / 2 in
    let test = c.search-test.true in
    let more = c.if-line_at-line.false in
    record {
      low = omega arith;
      high = λ ranks of. let high = c.search.invariant.high ranks of in omega arith;
      before = c.search.invariant.before;
      after = λ ranks index line of at from.
          let up = lines_never_fall ranks c.args.calls.now c.args.own.now of middle index c.line_at.result.0 line (c.line_at.ensures ranks of) at from in
          omega (arith, up, more);
    }

pub returns-clause-after : goal.returns-clause-after
returns-clause-after c = λ ranks index line of at from. let end = c.search-test.false in c.search.invariant.after ranks index line of at (omega (arith, end, from))
