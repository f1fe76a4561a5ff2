use Rattle.std.proofs.Common.{◌≡◌, ◌+◌, ◌*◌, ◌/◌, ℕ, length, refl, sym, ◌∙◌, arith}
use Rattle.rma_clock.specs.inside.Rows.{number_at}
use Rattle.rma_clock.proofs.StoredLemmas.{block_number, block_within, raised_block}
use Rattle.rma_clock.proofs.rows.raise_stored.Goals as goal

pub block-requires : goal.block-requires
block-requires c =
    let at = c.loop-at.at in
    let here : 16 * (at / 16) ≡ at = c.loop-at.invariant.here c.loop-at-test.true in
    let count = c.min-count.ensures in
    let size = c.loop-at.invariant.size in
    let wide = c.loop-at.invariant.wide in
    block_within c.args.numbers.now c.args.lower.now c.args.upper.now c.args.start at c.stored_start-first.result here c.stored_start-first.ensures (length c.args.row.now) c.min-count.result c.requires (omega arith) (omega arith) (omega arith)

pub loop-at-preserved : goal.loop-at-preserved
loop-at-preserved c =
    let at = c.loop-at.at in
    let here : 16 * (at / 16) ≡ at = c.loop-at.invariant.here c.loop-at-test.true in
    let count = c.min-count.ensures in
    let wide = c.loop-at.invariant.wide in
    let size = c.raise_part.ensures.size in
    let stored : ℕ → ℕ = number_at c.args.numbers.now c.args.lower.now c.args.upper.now c.args.start in
    let long = c.block.ensures.size in
    record {
      wide = wide ∙ sym size;
      size = size ∙ c.loop-at.invariant.size;
      within = omega arith;
      here = λ more. omega arith;
      raised = raised_block at c.min-count.result c.args.row.now c.loop-at.row c.raise_part.new.self c.block.result.now stored
          (λ k inside. c.raise_part.ensures.part k (omega arith)) c.raise_part.ensures.before
          (λ k inside. c.block.ensures.each k inside ∙ block_number c.args.numbers.now c.args.lower.now c.args.upper.now c.args.start at c.stored_start-first.result here c.stored_start-first.ensures (at + k) k refl (omega arith))
          c.loop-at.invariant.raised c.loop-at.invariant.rest;
      rest = λ i past. c.raise_part.ensures.after i (omega arith) ∙ c.loop-at.invariant.rest i (omega arith);
    }
