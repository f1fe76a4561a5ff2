use Rattle.std.proofs.Common.{sym, subst, ◌∙◌}
use Rattle.std.proofs.lemmas.Option.{same_Some, slice_get-get_or}
use Rattle.rma_dyn.specs.Region.{IsAtSame}
use Rattle.rma_dyn.proofs.OverlapLemmas.{all_same}
use Rattle.rma_dyn.proofs.overlap.start_of.Goals as goal

pub returns-clause-same : goal.returns-clause-same
returns-clause-same c = λ k x own from to there at.
    let list = c.args.list.now in
    let here = slice_get-get_or list c.args.index _ c.requires.index in
    subst (IsAtSame x) (same_Some _ own (sym here ∙ at)) (all_same list c.requires.rise c.behind_of.result c.args.index _ here c.behind_of.ensures.after k x from to there)
