use Rattle.std.proofs.Common.{◌-◌, ◌<◌, length, arith, rules}
use Rattle.std.proofs.lemmas.Int.{ints, clamps}
use Rattle.std.proofs.lemmas.Option.{get_or_from_slice_get, slice_get_within}
use Rattle.rma_bytes.proofs.RunLemmas.{no_run}
use Rattle.rma_bytes.proofs.IndexLemmas.{within}
use Rattle.rma_rules.specs.Share.{LiesIn}
use Rattle.rma_rules.proofs.WalkLemmas.{is_good}
use Rattle.rma_rules.proofs.bytes.Bytes.inside.Goals as goal

pub returns-then-is_empty : goal.returns-then-is_empty
unfolding LiesIn
returns-then-is_empty c = (λ test. rw (c.is_empty.ensures.0 c.if-is_empty.true) (λ b has. absurd has), λ all. search rules)

pub end-requires : goal.end-requires
end-requires c = (is_good c.args.self.now _ c.get-last.result c.len.ensures.canonical c.get-last.ensures).0

pub returns-then-run-first : goal.returns-then-run-first
unfolding LiesIn
returns-then-run-first c =
    let runs = c.args.self.now in
    let some : 0 < length runs = slice_get_within runs 0 c.get-first.result c.get-first.ensures in
    let first = get_or_from_slice_get runs 0 c.get-first.result no_run c.get-first.ensures in
    let last = get_or_from_slice_get runs (length runs - 1) c.get-last.result no_run (rw (← c.len.ensures.value) c.get-last.ensures) in
    let bounds = is_good runs _ c.get-last.result c.len.ensures.canonical c.get-last.ensures in
    let fits = rw (first, last) at (within runs c.args.run c.len.ensures.canonical some) in
    (λ test. fits.0 (grind (arith, ints), grind (arith, ints, clamps)), λ all. let both = fits.1 all in grind (arith, ints, clamps))

pub returns-else-run-first : goal.returns-else-run-first
unfolding LiesIn
returns-else-run-first c =
    let runs = c.args.self.now in
    let some : 0 < length runs = slice_get_within runs 0 c.get-first.result c.get-first.ensures in
    let first = get_or_from_slice_get runs 0 c.get-first.result no_run c.get-first.ensures in
    let last = get_or_from_slice_get runs (length runs - 1) c.get-last.result no_run (rw (← c.len.ensures.value) c.get-last.ensures) in
    let fits = rw (first, last) at (within runs c.args.run c.len.ensures.canonical some) in
    (λ test. absurd (grind (arith, ints)), λ all. let both = fits.1 all in grind (arith, ints))
