use Rattle.std.proofs.Common.{◌≡◌, ◌*◌, replicate, arith}
use Rattle.std.specs.Prelude.{sum}
use Rattle.std.proofs.lemmas.List.Folds.{sum_by-replicate}
use Rattle.rma_clock.proofs.LiveLemmas.{live_none}
use Rattle.rma_clock.proofs.live.LiveClocks.new.Goals as goal

pub returns : goal.returns
returns c =
    let none : sum (replicate c.args.ranks 0) ≡ c.args.ranks * 0 = sum_by-replicate (λ x. x) c.args.ranks 0 in
    record {
      live = live_none c.args.ranks _ c.in_ok-new.ensures.steps c.in_ok-new.ensures.rows;
      reached = c.in_ok-new-2.ensures;
      taken = omega arith;
    }
