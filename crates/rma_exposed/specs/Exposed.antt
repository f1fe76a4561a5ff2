-- The lock epochs of a rank, its posts, and the exposure epochs that these open (MPI 4.0, "One-Sided Communications", general active
-- target synchronization and lock).
use Rattle.std.specs.Prelude.{ℕ, List, ◌++◌, Option, Some, None, slice_get}
use Rattle.std.specs.List.{filter_map}
use Rattle.std.specs.Option.{option_map_or}
use Rattle.rma_base.specs.declared.line.LineNo.{LineNo}
use Rattle.rma_base.specs.declared.rank.Rank.{Rank}
use Rattle.rma_call.specs.Call.{Call}
use Rattle.rma_open.specs.declared.opening.EpochKind.{EpochKind}
use Rattle.rma_open.specs.declared.opening.EpochKind.TheVariants as kind
use Rattle.rma_epoch.specs.declared.epoch.Epoch.{Epoch}
use Rattle.rma_epoch.specs.Targets.{one_target}
use Rattle.rma_rules.specs.declared.span.Exposure.{Exposure}
use Rattle.rma_rules.specs.declared.span.ExposureKind.TheVariants.{Posted}
use Rattle.rma_rules.specs.declared.span.LockSpan.{LockSpan}
use Rattle.rma_rules.specs.declared.span.Post.{Post}
use Rattle.rma_rules.specs.Spans.{Spans}

-- the line of the call of a number
abbrev pub line_of : List Call → ℕ → LineNo
line_of calls number = option_map_or (λ call. call.line) (slice_get calls number) (record { 0 = 0 })

-- an epoch of a rank as a lock epoch
abbrev pub lock_with : Rank → List Call → Epoch → LockSpan
lock_with rank calls epoch =
    record { window = epoch.window; rank = rank; target = one_target epoch.targets; opener = epoch.opener; close = epoch.close; line = line_of calls epoch.opener }

-- whether it is one
abbrev pub lock_of : EpochKind → LockSpan → Option LockSpan
lock_of (kind.Lock exclusive) lock = Some lock
lock_of kind.LockAll lock = Some lock
lock_of _ lock = None

-- the lock epoch that an epoch is
abbrev pub lock_span : Rank → List Call → Epoch → Option LockSpan
lock_span rank calls epoch = lock_of epoch.kind (lock_with rank calls epoch)

-- the post that opens an epoch
abbrev pub post_with : Rank → List Call → Epoch → Post
post_with rank calls epoch = record { window = epoch.window; rank = rank; call = epoch.opener; line = line_of calls epoch.opener }

-- an epoch as the exposure of a post, which a sound expwait closes, if one does
abbrev pub exposure_with : Rank → List Call → Epoch → Exposure
exposure_with rank calls epoch =
    record { window = epoch.window; target = rank; kind = Posted; opener = epoch.opener; close = epoch.close; opened = line_of calls epoch.opener }

-- something, where an epoch is one of a post
abbrev pub if_posted : {X : Type 0} → EpochKind → X → Option X
if_posted kind.Post x = Some x
if_posted _ x = None

-- the post of an epoch
abbrev pub post_of : Rank → List Call → Epoch → Option Post
post_of rank calls epoch = if_posted epoch.kind (post_with rank calls epoch)

-- the exposure that an epoch is
abbrev pub exposure_of : Rank → List Call → Epoch → Option Exposure
exposure_of rank calls epoch = if_posted epoch.kind (exposure_with rank calls epoch)

-- the lists with what the epochs of a rank are
abbrev pub with_epochs : Spans → Rank → List Call → List Epoch → Spans
with_epochs spans rank calls epochs = record spans {
  exposures = spans.exposures ++ filter_map (exposure_of rank calls) epochs;
  locks = spans.locks ++ filter_map (lock_span rank calls) epochs;
  posts = spans.posts ++ filter_map (post_of rank calls) epochs;
}
