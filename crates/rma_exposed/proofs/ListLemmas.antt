-- One more epoch in the lists.
use Rattle.std.proofs.Common.{◌≡◌, ℕ, ◌+◌, List, [], ◌∷◌, take, Some, slice_get}
use Rattle.rma_base.specs.declared.rank.Rank.{Rank}
use Rattle.rma_call.specs.Call.{Call}
use Rattle.rma_epoch.specs.declared.epoch.Epoch.{Epoch}
use Rattle.rma_rules.specs.Spans.{Spans}
use Rattle.rma_run.proofs.WalkLemmas.{filter_map_taken}
use Rattle.rma_exposed.specs.Exposed.{exposure_of, lock_span, post_of, with_epochs}

pub listed_more : (spans : Spans) (rank : Rank) (calls : List Call) (epochs : List Epoch) (i : ℕ) (epoch : Epoch) → slice_get epochs i ≡ Some epoch
    → with_epochs (with_epochs spans rank calls (take i epochs)) rank calls (epoch ∷ []) ≡ with_epochs spans rank calls (take (i + 1) epochs)
listed_more spans rank calls epochs i epoch there =
    let exposures = filter_map_taken (exposure_of rank calls) epochs i epoch spans.exposures there in
    let locks = filter_map_taken (lock_span rank calls) epochs i epoch spans.locks there in
    let posts = filter_map_taken (post_of rank calls) epochs i epoch spans.posts there in
    λ t. record spans { exposures = exposures t; locks = locks t; posts = posts t }
