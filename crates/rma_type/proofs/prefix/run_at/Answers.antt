use Rattle.std.proofs.Common.{◌≡◌, ◌<◌, length, arith}
use Rattle.rma_type.proofs.Words.{nat_tests}
use Rattle.rma_type.proofs.RunLemmas.{no_run, run_is_some}
use Rattle.rma_type.proofs.CursorLemmas.{rest_none, rest_empty, rest_again}
use Rattle.rma_type.proofs.prefix.run_at.Goals as goal
use Rattle.rma_type.proofs.prefix.run_at.Goals.{then-more-eq0-via-then-more-eq0, then-more-eq0-via-else-more-eq0+then-is_empty}

pub returns-then-next-runs-clause-cursor : goal.returns-then-next-runs-clause-cursor
returns-then-next-runs-clause-cursor c = run_is_some c.args.runs.now c.args.next no_run c.if-next-runs.true c.requires.apart

pub returns-then-more-eq0-clause-rest : goal.returns-then-more-eq0-clause-rest
returns-then-more-eq0-clause-rest c =
    elim c.then-more-eq0.branch [
      | then-more-eq0-via-then-more-eq0 w ↦ rest_none c.args.runs.now c.args.next c.args.more c.if-next-runs.false w.if-more-eq0.true
      | then-more-eq0-via-else-more-eq0+then-is_empty w ↦
          let none : length c.args.runs.now ≡ 0 = grind (arith, nat_tests, w.is_empty.ensures, w.if-is_empty.true) in
          rest_empty c.args.runs.now c.args.next c.args.more none
    ]

pub returns-clause-rest : goal.returns-clause-rest
returns-clause-rest c =
    let some : 0 < c.args.more = omega (arith, c.if-more-eq0.false) in
    let there : 0 < length c.args.runs.now = grind (arith, nat_tests, c.is_empty.ensures, c.if-is_empty.false) in
    rest_again c.args.runs.now c.args.next c.args.more c.if-next-runs.false some there
