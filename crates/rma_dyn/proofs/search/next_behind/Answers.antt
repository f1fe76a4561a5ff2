use Rattle.std.proofs.Common.{sym}
use Rattle.std.proofs.lemmas.Option.{slice_get-get_or}
use Rattle.rma_dyn.proofs.SearchLemmas.{jumps_back, passed_over}
use Rattle.rma_dyn.proofs.search.next_behind.Goals as goal

pub returns-then-bound-change-clause-bound : goal.returns-then-bound-change-clause-bound
returns-then-bound-change-clause-bound c =
    jumps_back c.args.list.now c.requires.rise c.args.owner c.args.bound c.args.index _ (slice_get-get_or c.args.list.now c.args.index _ c.requires.index) c.behind_of.result c.if-bound-change.true (sym c.if-not-is_owned.ensures)
    c.behind_of.ensures.before

pub returns-then-bound-change-clause-none : goal.returns-then-bound-change-clause-none
returns-then-bound-change-clause-none c = λ k g le lt there rank window less reach.
    passed_over c.args.list.now c.requires.rise c.args.owner c.args.bound c.args.index _ (slice_get-get_or c.args.list.now c.args.index _ c.requires.index) c.behind_of.result (sym c.if-not-is_owned.ensures)
    c.behind_of.ensures.after k g le lt there rank window less
