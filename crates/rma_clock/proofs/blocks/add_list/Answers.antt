use Rattle.std.proofs.Common.{◌≡◌, ℕ, ◌+◌, ◌*◌, ◌++◌, ◌∷◌, [], List, length, ap, ◌∙◌, sym, subst, arith}
use Rattle.std.proofs.lemmas.List.{length_push}
use Rattle.rma_clock.specs.inside.Blocks.{AreBlocks}
use Rattle.rma_clock.proofs.BlockLemmas.{grown_then, cut_block}
use Rattle.rma_clock.proofs.blocks.add_list.Goals as goal

pub loop-at-preserved : goal.loop-at-preserved
loop-at-preserved c =
    let size = c.args.size in
    let list = c.args.list.now in
    let starts = c.loop-at.starts.items in
    let start = c.in_ok-start.start in
    let at = c.loop-at.at in
    let end = c.block_end-end.result in
    let here : at ≡ length starts * size = c.loop-at.invariant.here c.loop-at-test.true in
    let pushed : c.push.new.self.items ≡ starts ++ start ∷ [] = c.in_ok-push.ensures.items in
    record {
      within = c.block_end-end.ensures.within;
      here = λ more.
          let whole : end ≡ at + size = c.block_end-end.ensures.whole more in
          let count : length c.push.new.self.items * size ≡ (length starts + 1) * size = ap (λ (xs : List ℕ). length xs * size) pushed ∙ ap (λ n. n * size) (length_push starts start) in
          omega arith;
      grown = grown_then c.args.table.now.items c.loop-at.table.items c.add_block.new.table.items c.loop-at.invariant.grown c.in_ok-start.ensures.grown;
      blocks = subst (λ (xs : List ℕ). AreBlocks size c.add_block.new.table.items xs list end) (sym pushed)
          (cut_block size c.loop-at.table.items c.add_block.new.table.items starts list at end start c.in_ok-start.ensures.grown c.loop-at.invariant.blocks c.block_end-end.ensures.within c.in_ok-start.ensures.block here c.block_end-end.ensures.size);
    }

pub returns-clause-blocks : goal.returns-clause-blocks
returns-clause-blocks c b j small below = c.loop-at.invariant.blocks b j small (omega arith)
