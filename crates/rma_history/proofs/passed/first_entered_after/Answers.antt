use Rattle.std.proofs.Common.{◌+◌, ◌-◌, ◌/◌, ◌<◌, length, get_or, arith}
use Rattle.std.proofs.lemmas.List.Elements.{Contains-get_or}
use Rattle.rma_rules.proofs.BeforeLemmas.{entered_later}
use Rattle.rma_history.proofs.passed.first_entered_after.Goals as goal

pub leq-requires : goal.leq-requires
leq-requires g c =
    let calls = c.args.calls.now in
    let middle = c.search.low + (c.search.high - c.search.low) / 2 in
    let some = c.requires.clocks in
    let within : middle < length calls = omega arith in
    (some.0, some.1, some.2, some.3, rw c.entry_of.ensures (some.4 (get_or calls middle 0) (Contains-get_or calls middle 0 within)))

pub search-preserved-then-leq : goal.search-preserved-then-leq
search-preserved-then-leq g c =
    let calls = c.args.calls.now in
    let middle = c.search.low + (c.search.high - c.search.low) / 2 in
    let within : middle < length calls = omega arith in
    record {
      in_order = omega arith;
      in_list = omega arith;
      before = c.search.invariant.before;
      after = λ points links are reached all k le lt.
          let told = (rw c.entry_of.ensures at (c.leq.ensures points links are reached)) (all (get_or calls middle 0) (Contains-get_or calls middle 0 within)) in
          entered_later links c.args.rank calls c.requires.calls.ascend c.args.done middle k le lt (told.0 c.if-leq.true);
    }

pub search-preserved : goal.search-preserved
search-preserved g c =
    let calls = c.args.calls.now in
    let middle = c.search.low + (c.search.high - c.search.low) / 2 in
    let within : middle < length calls = omega arith in
    record {
      in_order = omega arith;
      in_list = omega arith;
      before = λ points links are reached all k lt order.
          let told = (rw c.entry_of.ensures at (c.leq.ensures points links are reached)) (all (get_or calls middle 0) (Contains-get_or calls middle 0 within)) in
          let yes = told.1 (entered_later links c.args.rank calls c.requires.calls.ascend c.args.done k middle (omega arith) within order) in
          let no = c.if-leq.false in
          cc;
      after = c.search.invariant.after;
    }
