use Rattle.std.proofs.Common.{sym, ◌∙◌, rules}
use Rattle.std.proofs.lemmas.List.Sorted.{answers_always}
use Rattle.rma_epoch.specs.declared.epoch.Epoch.{Epoch}
use Rattle.rma_epoch.proofs.EpochLemmas.{opened_at, search_is}
use Rattle.rma_epoch.proofs.placements.index_from.Goals as goal

pub returns-then-is_at-clause-index : goal.returns-then-is_at-clause-index
returns-then-is_at-clause-index c = λ up. sym (opened_at c.args.epochs.now up c.args.last c.args.opener (sym c.is_at.ensures ∙ c.if-is_at.true))

pub returns-clause-index : goal.returns-clause-index
returns-clause-index c = λ up.
    let by_key = c.binary_search_by_key.ensures.position (λ (epoch : Epoch). epoch.opener) (answers_always _ _ _ (λ f a r g called. search rules)) in
    c.ok.ensures.value ∙ search_is c.args.epochs.now up c.args.opener c.binary_search_by_key.result c.binary_search_by_key.ensures.bound by_key
