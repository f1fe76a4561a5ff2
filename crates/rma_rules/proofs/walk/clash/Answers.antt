use Rattle.std.proofs.Common.{inl, inr, arith, rules}
use Rattle.std.specs.Prelude.{◌≤ℤ◌}
use Rattle.std.proofs.lemmas.Int.{ints}
use Rattle.std.proofs.lemmas.Option.{get_or_from_slice_get}
use Rattle.rma_bytes.specs.Runs.{end_of}
use Rattle.rma_bytes.proofs.RunLemmas.{no_run}
use Rattle.rma_rules.proofs.WalkLemmas.{clash_at, is_good, no_clash_at_end, no_clash_left, no_clash_right}
use Rattle.rma_rules.proofs.walk.clash.Goals as goal

pub runs_clash-requires-clause-x : goal.runs_clash-requires-clause-x
runs_clash-requires-clause-x c = is_good c.args.a.now c.walk.i c.get-x.result c.len.ensures.canonical c.get-x.ensures

pub runs_clash-requires-clause-y : goal.runs_clash-requires-clause-y
runs_clash-requires-clause-y c = is_good c.args.b.now c.walk.j c.get-y.result c.len-in-walk.ensures.canonical c.get-y.ensures

pub end-requires : goal.end-requires
end-requires c = (is_good c.args.a.now c.walk.i c.get-x.result c.len.ensures.canonical c.get-x.ensures).0

pub end-requires-in-walk : goal.end-requires-in-walk
end-requires-in-walk c = (is_good c.args.b.now c.walk.j c.get-y.result c.len-in-walk.ensures.canonical c.get-y.ensures).0

pub returns-then-runs_clash : goal.returns-then-runs_clash
returns-then-runs_clash c =
    let xs = c.args.a.now in
    let ys = c.args.b.now in
    let x = get_or_from_slice_get xs c.walk.i c.get-x.result no_run c.get-x.ensures in
    let y = get_or_from_slice_get ys c.walk.j c.get-y.result no_run c.get-y.ensures in
    let clash = c.runs_clash.ensures.0 c.if-runs_clash.true in
    (λ test. clash_at c.args.size xs ys c.walk.i c.walk.j (omega arith) (omega arith) (rw (x, y) clash), λ found. search rules)

pub walk-preserved-then-end : goal.walk-preserved-then-end
walk-preserved-then-end c =
    let xs = c.args.a.now in
    let ys = c.args.b.now in
    let x = get_or_from_slice_get xs c.walk.i c.get-x.result no_run c.get-x.ensures in
    let y = get_or_from_slice_get ys c.walk.j c.get-y.result no_run c.get-y.ensures in
    let ends : end_of c.get-x.result ≤ℤ end_of c.get-y.result = grind (arith, ints) in
    record {
      none = no_clash_left c.args.size xs ys c.walk.i c.walk.j c.walk.invariant.none
          (rw (x, y) (λ clash. let yes = c.runs_clash.ensures.1 clash in let no = c.if-runs_clash.false in grind arith)) c.len-in-walk.ensures.canonical (rw (x, y) ends);
      a_in = omega arith;
      b_in = omega arith;
    }

pub walk-preserved : goal.walk-preserved
walk-preserved c =
    let xs = c.args.a.now in
    let ys = c.args.b.now in
    let x = get_or_from_slice_get xs c.walk.i c.get-x.result no_run c.get-x.ensures in
    let y = get_or_from_slice_get ys c.walk.j c.get-y.result no_run c.get-y.ensures in
    let ends : end_of c.get-y.result ≤ℤ end_of c.get-x.result = grind (arith, ints) in
    record {
      none = no_clash_right c.args.size xs ys c.walk.i c.walk.j c.walk.invariant.none
          (rw (x, y) (λ clash. let yes = c.runs_clash.ensures.1 clash in let no = c.if-runs_clash.false in grind arith)) c.len.ensures.canonical (rw (x, y) ends);
      a_in = omega arith;
      b_in = omega arith;
    }

pub returns-else-j-len : goal.returns-else-j-len
returns-else-j-len c =
    (λ test. absurd (cc), λ found. absurd (no_clash_at_end c.args.size c.args.a.now c.args.b.now c.walk.i c.walk.j c.walk.invariant.none (inr (omega arith)) found))

pub returns-after-walk : goal.returns-after-walk
returns-after-walk c =
    (λ test. absurd (cc), λ found. absurd (no_clash_at_end c.args.size c.args.a.now c.args.b.now c.walk.i c.walk.j c.walk.invariant.none (inl (omega arith)) found))
