use Rattle.std.proofs.Common.{◌≡◌, ◌+◌, ◌≤◌, length, set, max, ap, ◌∙◌, arith}
use Rattle.std.specs.Prelude.{slice_index, sum}
use Rattle.std.proofs.lemmas.List.Sums.{get_or-le-sum_by, sum_by-set}
use Rattle.std.proofs.lemmas.Option.{slice_get_within, get_or_from_slice_get}
use Rattle.rma_clock.proofs.LiveLemmas.{on_err}
use Rattle.rma_clock.proofs.live.LiveClocks.settle.Goals as goal

pub returns-in_err-receive-clause-err : goal.returns-in_err-receive-clause-err
returns-in_err-receive-clause-err c =
    on_err c.from_residual.result (λ points links are. record { live = c.in_err-receive.ensures.err points links are.live; reached = are.reached; taken = are.taken })

pub overflow_add-point : goal.overflow_add-point
overflow_add-point c =
    let points = c.requires.0 in
    let q = c.args.point in
    let can = c.requires.3 in
    let there = slice_get_within points q.rank.0 q.pos can.next in
    let at_next : slice_index points q.rank.0 ≡ q.pos = get_or_from_slice_get points q.rank.0 q.pos 0 can.next in
    let within : slice_index points q.rank.0 ≤ sum points = get_or-le-sum_by (λ n. n) points q.rank.0 0 there in
    let fits = can.fits in
    omega arith

pub raise-requires : goal.raise-requires
raise-requires c =
    let points = c.requires.0 in
    let q = c.args.point in
    let there = slice_get_within points q.rank.0 q.pos c.requires.3.next in
    let same : length c.args.self.now.reached ≡ length points = ap length c.requires.2.reached in
    omega arith

pub returns-clause-ok : goal.returns-clause-ok
returns-clause-ok c points links are can =
    let q = c.args.point in
    let old = c.args.self.now in
    let there = slice_get_within points q.rank.0 q.pos can.next in
    let at_next : slice_index points q.rank.0 ≡ q.pos = get_or_from_slice_get points q.rank.0 q.pos 0 can.next in
    let highest : max (slice_index points q.rank.0) (q.pos + 1) ≡ q.pos + 1 = omega arith in
    let one_more : sum (set points q.rank.0 (q.pos + 1)) + slice_index points q.rank.0 ≡ sum points + (q.pos + 1) = sum_by-set (λ n. n) points q.rank.0 (q.pos + 1) 0 there in
    let was = are.taken in
    record {
      live = c.in_ok-receive.ensures.ok points links are.live can;
      reached = c.raise.ensures ∙ ap (λ xs. set xs q.rank.0 (max (slice_index xs q.rank.0) (q.pos + 1))) are.reached ∙ ap (set points q.rank.0) highest;
      taken = omega arith;
    }
