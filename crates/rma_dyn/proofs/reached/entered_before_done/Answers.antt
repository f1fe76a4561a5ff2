use Rattle.std.proofs.Common.{◌<◌, ◌≤◌, arith, ⊎_elim}
use Rattle.std.proofs.lemmas.Bool.{cases_lt}
use Rattle.rma_link.proofs.OrderLemmas.{at_or_before_trans}
use Rattle.rma_rules.proofs.BeforeLemmas.{entries_rise}
use Rattle.rma_dyn.proofs.reached.entered_before_done.Goals as goal

pub search-preserved-then-is_done_at : goal.search-preserved-then-is_done_at
search-preserved-then-is_done_at g c =
    let middle = c.next_asked-middle.result in
    let least = c.next_asked-middle.ensures.low in
    let most = c.next_asked-middle.ensures.high in
    let test = c.search-test.true in
    let high = c.search.invariant.high in
    record {
      low = omega arith;
      high = omega arith;
      before = c.search.invariant.before;
      after = λ points links are askable call le less.
          let told = (c.is_done_at.ensures points links c.args.count are askable (omega arith)).0 c.if-is_done_at.true in
          (told.0, told.1, at_or_before_trans links told.2 (entries_rise links c.args.memory middle call le));
    }

pub search-preserved : goal.search-preserved
search-preserved g c =
    let middle = c.next_asked-middle.result in
    let least = c.next_asked-middle.ensures.low in
    let most = c.next_asked-middle.ensures.high in
    let test = c.search-test.true in
    let high = c.search.invariant.high in
    record {
      low = omega arith;
      high = high;
      before = λ points links are askable call less is.
          let told = (c.is_done_at.ensures points links c.args.count are askable (omega arith)).1 (is.0, is.1, at_or_before_trans links is.2 (entries_rise links c.args.memory call middle (omega arith))) in
          let no = c.if-is_done_at.false in
          cc;
      after = c.search.invariant.after;
    }

pub returns-clause-parted : goal.returns-clause-parted
returns-clause-parted g c = λ points links are askable call less.
    let end = c.search-test.false in (
      λ le. c.search.invariant.after points links are askable call (omega arith) less,
      λ is. ⊎_elim (λ (lt : call < c.search.low). absurd (c.search.invariant.before points links are askable call lt is)) (λ (le : c.search.low ≤ call). le) (cases_lt call c.search.low),
    )
