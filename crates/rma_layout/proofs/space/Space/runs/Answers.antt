use Rattle.std.proofs.Common.{◌+◌, ◌++◌, take, sym, ap, subst, ◌∙◌}
use Rattle.std.specs.List.{All}
use Rattle.std.proofs.lemmas.List.Elements.{All-nil}
use Rattle.rma_bytes.specs.Runs.{IsInBounds}
use Rattle.rma_layout.proofs.Words.{Block, span, bytes_of}
use Rattle.rma_layout.proofs.BytesLemmas.{bytes_of_more}
use Rattle.rma_layout.proofs.RunsLemmas.{more_runs, no_runs}
use Rattle.rma_layout.proofs.space.Space.runs.Goals as goal

pub each-init : goal.each-init
each-init c = record {
  bounds = subst (λ rs. All IsInBounds rs) (sym c.new-runs.ensures.items) (All-nil IsInBounds);
  bytes = no_runs c.new-runs.result.items c.new-runs.ensures.items;
}

pub each-preserved : goal.each-preserved
each-preserved c =
    let blocks = c.args.blocks.now in
    let i = c.each.block-index in
    let b : Block = c.block-item.result in
    record {
      bounds = c.in_default.ensures.bounds c.each.invariant.bounds;
      bytes = more_runs c.each.runs.items c.push_run.new.runs.items (bytes_of (take i blocks)) (bytes_of (take (i + 1) blocks)) (span b.start b.len)
          (bytes_of_more blocks i b c.each-test.true ∙ ap (λ (x : Block). bytes_of (take i blocks) ++ span x.start x.len) (sym c.block-item.is)) c.each.invariant.bytes c.in_default.ensures.bytes;
    }
