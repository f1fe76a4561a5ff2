use Rattle.std.proofs.Common.{◌∷◌, ◌+◌, drop, ap, ◌∙◌, arith, w64}
use Rattle.std.proofs.lemmas.Int.{ints, to_z-of_z}
use Rattle.std.proofs.lemmas.List.{drop_more}
use Rattle.std.proofs.lemmas.Option.{get_or_from_slice_get, slice_get_within}
use mir.Val.{SFits}
use Rattle.rma_bytes.proofs.RunLemmas.{no_run}
use Rattle.rma_rules.proofs.bytes.are_canonical.Goals as goal

pub returns-then-not-may_follow : goal.returns-then-not-may_follow
returns-then-not-may_follow c =
    let runs = c.args.buffer.now.runs in
    let here = get_or_from_slice_get runs c.runs.i c.get-run.result no_run c.get-run.ensures in
    let parts = drop_more runs c.runs.i no_run (slice_get_within runs c.runs.i c.get-run.result c.get-run.ensures) ∙ ap (λ r. r ∷ drop (c.runs.i + 1) runs) here in
    let same = rw parts at c.runs.invariant.same in
    (λ test. absurd (cc), λ all. let both = same.0 all in let yes = c.may_follow.ensures.1 (both.0, both.1.0, both.1.1) in let no = c.if-not-may_follow.true in absurd (cc))

pub runs-preserved : goal.runs-preserved
runs-preserved c =
    let runs = c.args.buffer.now.runs in
    let run = c.get-run.result in
    let here = get_or_from_slice_get runs c.runs.i run no_run c.get-run.ensures in
    let parts = drop_more runs c.runs.i no_run (slice_get_within runs c.runs.i c.get-run.result c.get-run.ensures) ∙ ap (λ r. r ∷ drop (c.runs.i + 1) runs) here in
    let same = rw parts at c.runs.invariant.same in
    let good = c.may_follow.ensures.0 c.if-not-may_follow.false in
    let bounds = good.1 in
    let ends = c.end-last.ensures in
    let fits : SFits w64 c.end-last.result = omega (arith, ints, bounds.0, bounds.1) in
    rw (to_z-of_z w64 c.end-last.result fits, ends) (record {
      low = omega (arith, ints, bounds.0, bounds.1);
      same = (λ all. let both = same.0 all in (both.1.2, both.1.3), λ both. same.1 (good.0, (bounds, good.2, both.0, both.1)));
    })
