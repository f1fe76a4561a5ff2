use Rattle.std.proofs.Common.{◌<◌, ◌≤◌, arith, ⊎_elim}
use Rattle.std.proofs.lemmas.Bool.{cases_lt}
use Rattle.rma_link.proofs.OrderLemmas.{at_or_before_trans}
use Rattle.rma_rules.proofs.BeforeLemmas.{returns_rise}
use Rattle.rma_dyn.proofs.reached.left_before.Goals as goal

pub search-preserved-then-is_left_before : goal.search-preserved-then-is_left_before
search-preserved-then-is_left_before g c =
    let middle = c.next_asked-middle.result in
    let least = c.next_asked-middle.ensures.low in
    let most = c.next_asked-middle.ensures.high in
    let test = c.search-test.true in
    let high = c.search.invariant.high in
    record {
      low = omega arith;
      high = high;
      before = λ points links are askable call less.
          at_or_before_trans links (returns_rise links c.args.memory call middle (omega arith)) ((c.is_left_before.ensures points links c.args.count are askable (omega arith)).0 c.if-is_left_before.true);
      after = c.search.invariant.after;
    }

pub search-preserved : goal.search-preserved
search-preserved g c =
    let middle = c.next_asked-middle.result in
    let least = c.next_asked-middle.ensures.low in
    let most = c.next_asked-middle.ensures.high in
    let test = c.search-test.true in
    let high = c.search.invariant.high in
    record {
      low = omega arith;
      high = omega arith;
      before = c.search.invariant.before;
      after = λ points links are askable call le less is.
          let told = (c.is_left_before.ensures points links c.args.count are askable (omega arith)).1 (at_or_before_trans links (returns_rise links c.args.memory middle call le) is) in
          let no = c.if-is_left_before.false in
          cc;
    }

pub returns-clause-parted : goal.returns-clause-parted
returns-clause-parted g c = λ points links are askable call less.
    let end = c.search-test.false in (
      λ before. c.search.invariant.before points links are askable call before,
      λ is. ⊎_elim (λ (lt : call < c.search.low). lt) (λ (le : c.search.low ≤ call). absurd (c.search.invariant.after points links are askable call (omega arith) less is)) (cases_lt call c.search.low),
    )
