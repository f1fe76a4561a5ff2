use Rattle.std.proofs.Common.{List, ℕ, length, subst}
use Rattle.std.proofs.lemmas.Result.{IfOk-weaker}
use Rattle.rma_clock.specs.inside.Blocks.{AreBlocks, IsBlock}
use Rattle.rma_clock.proofs.StoredLemmas.{stored_in_blocks}
use Rattle.rma_clock.proofs.rows.store.Goals as goal

pub returns-clause-stored : goal.returns-clause-stored
returns-clause-stored c =
    let numbers = c.add_list.new.table.items in
    let lower = c.add_list-2.new.table.items in
    let upper = c.push_block.new.table.items in
    let starts = c.in_ok-starts.starts.items in
    let tops = c.in_ok-tops.tops.items in
    let second = subst (λ (xs : List ℕ). AreBlocks 8 lower tops xs (length xs)) c.deref-3.ensures.value c.in_ok-tops.ensures.blocks in
    IfOk-weaker c.push_block.result _ _
    (λ start is. stored_in_blocks numbers lower upper starts tops c.args.row.now start c.in_ok-starts.ensures.blocks second (subst (IsBlock upper start) c.deref-4.ensures.value is))
    c.push_block.ensures.block
