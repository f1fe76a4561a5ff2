-- The calls by which epochs open and end at their targets, and by which they are closed, are calls of the run.
use Rattle.std.proofs.Common.{◌≡◌, ◌<◌, ℕ, List, length, Option, Some, option_map, slice_get, sym, ap, subst, ◌∙◌}
use Rattle.std.specs.Option.{option_and_then}
use Rattle.std.proofs.lemmas.Option.{slice_get_within}
use Rattle.rma_base.specs.declared.rank.Rank.{Rank}
use Rattle.rma_call.specs.Call.{Call, RankCalls}
use Rattle.rma_run.specs.Run.{IsRun, calls_of}
use Rattle.rma_run.proofs.CallLemmas.{calls_are_own}
use Rattle.rma_window.specs.Creation.{creations}
use Rattle.rma_window.specs.Windows.{Window, part_of, windows_by}
use Rattle.rma_window.specs.declared.part.Part.{Part}
use Rattle.rma_window.specs.declared.window_id.WindowId.{WindowId}
use Rattle.rma_open.specs.declared.opening.EpochKind.{EpochKind}
use Rattle.rma_open.specs.declared.opening.EpochKind.TheVariants.{Fence, Lock, LockAll, Post, Start}
use Rattle.rma_round.specs.Round as round
use Rattle.rma_exposure.specs.Closing.{closing_of}
use Rattle.rma_exposure.specs.Matching as exposure
use Rattle.rma_exposure.specs.declared.side.Side.TheVariants.{Exposure}
use Rattle.rma_epoch.specs.declared.epoch.Epoch.{Epoch}
use Rattle.rma_epoch.specs.Table.{epochs_of}
use Rattle.rma_epoch.proofs.CloseLemmas.{closed_as, closed_in}
use Rattle.rma_side.specs.Side.{ending_by, opening_by}
use Rattle.rma_points.proofs.CreationLemmas.{is_created}
use Rattle.rma_points.proofs.NumberLemmas.{AreWithin, closing_within, exposure_within, round_within}
use Rattle.rma_points.proofs.OptionLemmas.{and_then_some, each_some, map_some}

-- the call that closes an epoch is one of the calls
pub close_within : (windows : List Window) (calls : List Call) (index : ℕ) (epoch : Epoch) → slice_get (epochs_of windows calls) index ≡ Some epoch → AreWithin (length calls) epoch.close
close_within windows calls index epoch there =
    each_some (λ n. n < length calls) epoch.close (λ close is.
    let found = closed_in calls epoch.opener close (closed_as windows calls index epoch close there is) in
    slice_get_within calls close found.0 found.1)

module _ (ranks : List RankCalls) (run : IsRun ranks) where
  -- a rank creates its part of a window by one of its calls
  created_within : (id : WindowId) (target : Rank) → AreWithin (length (calls_of ranks target.0)) (option_map (λ (part : Part). part.created) (part_of (windows_by (creations ranks)) id target))
  created_within id target =
      let count = length (calls_of ranks target.0) in
      let found = part_of (windows_by (creations ranks)) id target in
      map_some (λ (part : Part). part.created < count) (λ n. n < count) (λ (part : Part). part.created) (λ part less. less) found
      (each_some (λ (part : Part). part.created < count) found (λ part is.
      let own = is_created ranks id target part is in
      let same : calls_of ranks target.0 ≡ own.own.calls = ap (calls_of ranks) (sym own.rank_is) ∙ calls_are_own ranks own.own run.in_order own.of_run in
      subst (λ (calls : List Call). part.created < length calls) (sym same) own.created))

  -- an epoch opens at a target by one of its calls
  pub opens_within : (kind : EpochKind) (rank : Rank) (epoch : Epoch) (target : Rank)
      → AreWithin (length (calls_of ranks target.0)) (opening_by kind (calls_of ranks) (windows_by (creations ranks)) rank epoch target)
  opens_within Fence rank epoch target = round_within (calls_of ranks) rank.0 epoch.opener target.0
  opens_within Start rank epoch target = exposure_within (calls_of ranks) rank.0 epoch.opener target.0
  opens_within (Lock exclusive) rank epoch target = created_within epoch.window target
  opens_within LockAll rank epoch target = created_within epoch.window target
  opens_within Post rank epoch target = tt

  -- and ends there by one of them
  pub ends_within : (kind : EpochKind) (rank : Rank) (epoch : Epoch) (target : Rank)
      → AreWithin (length (calls_of ranks target.0)) (ending_by kind (calls_of ranks) (windows_by (creations ranks)) rank epoch target)
  ends_within Fence rank epoch target =
      and_then_some (λ n. n < length (calls_of ranks target.0)) (λ close. round.partner_of (calls_of ranks) rank.0 close target.0) epoch.close (λ close. round_within (calls_of ranks) rank.0 close target.0)
  ends_within Start rank epoch target =
      let P : ℕ → Type 0 = λ n. n < length (calls_of ranks target.0) in
      let post : Option ℕ = exposure.partner_of (calls_of ranks) rank.0 epoch.opener target.0 in
      let closing : ℕ → Option ℕ = closing_of Exposure (calls_of ranks target.0) in
      and_then_some P (λ (close : ℕ). option_and_then closing post) epoch.close (λ close. and_then_some P closing post (closing_within Exposure (calls_of ranks target.0)))
  ends_within (Lock exclusive) rank epoch target = tt
  ends_within LockAll rank epoch target = tt
  ends_within Post rank epoch target = tt
