use Rattle.std.proofs.Common.{◌++◌, length, refl, ap, ◌∙◌}
use Rattle.std.proofs.lemmas.Option.{slice_get_read}
use Rattle.rma_run.specs.Run.{by_number}
use Rattle.rma_run.proofs.WalkLemmas.{flat_map_taken}
use Rattle.rma_call.specs.Call.{RankCalls}
use Rattle.rma_dyn.specs.Change.{changes_of}
use Rattle.rma_dyn.proofs.changes.changes_of.Goals as goal

pub loop-own-preserved : goal.loop-own-preserved
loop-own-preserved c =
    let ranks = c.args.ranks.now in
    let i = c.loop-own.own-index in
    let own = c.own-item.result in
    let found = λ (own : RankCalls). by_number (changes_of c.args.windows.now own.rank) 0 own.calls in
    let there = slice_get_read ranks (length ranks) i own refl c.loop-own-test.true c.own-item.is in
    c.in_ok-add_rank.ensures ∙ ap (λ l. l ++ found own) c.loop-own.invariant ∙ flat_map_taken found ranks i own there
