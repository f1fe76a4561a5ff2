-- Where the epochs of a rank open and end at their targets (MPI 4.0, "One-Sided Communications", the three mechanisms of
-- synchronisation).
use Rattle.std.specs.Prelude.{ℕ, List, Option, None, option_map}
use Rattle.std.specs.Option.{option_and_then}
use Rattle.rma_base.specs.declared.rank.Rank.{Rank}
use Rattle.rma_base.specs.declared.point.Point.{Point}
use Rattle.rma_call.specs.Call.{Call}
use Rattle.rma_link.specs.Point.{entry, return_of}
use Rattle.rma_window.specs.Windows.{Window, part_of}
use Rattle.rma_round.specs.Round as round
use Rattle.rma_exposure.specs.declared.side.Side.TheVariants.{Exposure}
use Rattle.rma_exposure.specs.Closing.{closing_of}
use Rattle.rma_exposure.specs.Matching as exposure
use Rattle.rma_open.specs.declared.opening.EpochKind.{EpochKind}
use Rattle.rma_open.specs.declared.opening.EpochKind.TheVariants.{Fence, Start, Lock, LockAll, Post}
use Rattle.rma_epoch.specs.declared.epoch.Epoch.{Epoch}
use Rattle.rma_side.specs.declared.side.Side.{Side}

-- the call of a target at whose entry an epoch of a rank opens there: its fence of the round of the one that opened the phase, its
-- post that the start matches, or its creation of the window for a lock; no access stands in an exposure epoch
abbrev pub opening_by : EpochKind → (ℕ → List Call) → List Window → Rank → Epoch → Rank → Option ℕ
opening_by Fence calls windows rank epoch target = round.partner_of calls rank.0 epoch.opener target.0
opening_by Start calls windows rank epoch target = exposure.partner_of calls rank.0 epoch.opener target.0
opening_by (Lock exclusive) calls windows rank epoch target = option_map (λ part. part.created) (part_of windows epoch.window target)
opening_by LockAll calls windows rank epoch target = option_map (λ part. part.created) (part_of windows epoch.window target)
opening_by Post calls windows rank epoch target = None

-- the call of a target with which what was accessed in an epoch of a rank is complete there: its fence of the round of the one that
-- closed the phase, or the expwait of its post once the rank has completed; a lock epoch ends at its origin alone
abbrev pub ending_by : EpochKind → (ℕ → List Call) → List Window → Rank → Epoch → Rank → Option ℕ
ending_by Fence calls windows rank epoch target = option_and_then (λ close. round.partner_of calls rank.0 close target.0) epoch.close
ending_by Start calls windows rank epoch target =
    option_and_then (λ close. option_and_then (closing_of Exposure (calls target.0)) (exposure.partner_of calls rank.0 epoch.opener target.0)) epoch.close
ending_by (Lock exclusive) calls windows rank epoch target = None
ending_by LockAll calls windows rank epoch target = None
ending_by Post calls windows rank epoch target = None

-- both
abbrev pub side_of : (ℕ → List Call) → List Window → Rank → Epoch → Rank → Side
side_of calls windows rank epoch target =
    record { opening = opening_by epoch.kind calls windows rank epoch target; ending = ending_by epoch.kind calls windows rank epoch target }

-- the point at which an epoch opens at a target
abbrev pub opening_point : Rank → Side → Option Point
opening_point target side = option_map (entry target) side.opening

-- the point at which what was accessed in an epoch is complete at a target: the entry of a fence, and the return of an expwait
abbrev pub ending_point : EpochKind → Rank → Side → Option Point
ending_point Start target side = option_map (return_of target) side.ending
ending_point _ target side = option_map (entry target) side.ending
