-- Epochs at one target that MPI does not allow at once (MPI 4.0, "One-Sided Communications", lock: a window is not locked while it is
-- exposed; post: nor is it exposed twice at once).
use Rattle.std.specs.Prelude.{◌≡◌, ◌<◌, ◌^◌, ℕ, List, Option, Some, None, All, length, option_map}
use Rattle.std.specs.Ordering.{nat_cmp, ordering_then}
use Rattle.std.specs.Cmp.Lexicographic.{slice_cmp}
use Rattle.std.specs.declared.cmp.Ordering.{Ordering}
use Rattle.rma_base.specs.declared.rank.Rank.{Rank}
use Rattle.rma_base.specs.declared.point.Point.{Point}
use Rattle.rma_link.specs.declared.links.Links.{Links}
use Rattle.rma_link.specs.Point.{entry, return_of}
use Rattle.rma_link.specs.Order.{IsAtOrBefore}
use Rattle.rma_clock.specs.Reached.{IsReached}
use Rattle.rma_window.specs.Windows.{Window, name_of, window_of}
use Rattle.rma_rules.specs.declared.span.Exposure.{Exposure}
use Rattle.rma_rules.specs.declared.span.ExposureKind.{ExposureKind}
use Rattle.rma_rules.specs.declared.span.ExposureKind.TheVariants.{Fenced, Posted}
use Rattle.rma_rules.specs.declared.span.LockSpan.{LockSpan}
use Rattle.rma_rules.specs.declared.span.Post.{Post}
use Rattle.rma_rules.specs.Spans.{Spans}
use Rattle.rma_finding.specs.declared.finding.DoubledPost.{DoubledPost}
use Rattle.rma_finding.specs.declared.finding.ExposedLock.{ExposedLock}
use Rattle.rma_concurrent.specs.Listed.{AreAll, IsOfSome}

-- ---- a lock epoch and an exposure

-- a lock epoch is at a target: that one is locked, or all that have a part of the window, as each has that is exposed
abbrev pub IsAtTarget : Option Rank → Rank → Type 0
IsAtTarget None target = Unit {0}
IsAtTarget (Some locked) target = locked ≡ target

-- where an exposure is over, by the call of its target that closes it: at the entry of the next fence, or at the return of the wait
abbrev pub over_at : ExposureKind → Rank → ℕ → Point
over_at Posted target close = return_of target close
over_at Fenced target close = entry target close

-- the exposure is over when the rank enters its lock
unfoldable pub IsOverBefore : Links → LockSpan → Exposure → Type 0
IsOverBefore links lock exposure = (close : ℕ) × (exposure.close ≡ Some close) × IsAtOrBefore links (over_at exposure.kind exposure.target close) (entry lock.rank lock.opener)

-- the rank has returned from its unlock when the target returns from the call that opens the exposure
unfoldable pub IsUnlockedBefore : Links → LockSpan → Exposure → Type 0
IsUnlockedBefore links lock exposure = (close : ℕ) × (lock.close ≡ Some close) × IsAtOrBefore links (return_of lock.rank close) (return_of exposure.target exposure.opener)

-- a lock epoch and an exposure of one window are at one target, and neither is over before the other begins
pub record MayBeOpenAtOnce (links : Links) (lock : LockSpan) (exposure : Exposure) : Type 0 where
  pub window : exposure.window ≡ lock.window
  pub target : IsAtTarget lock.target exposure.target
  pub not_over : ¬ IsOverBefore links lock exposure
  pub not_unlocked : ¬ IsUnlockedBefore links lock exposure

-- a report is that of a lock epoch and an exposure that may be open at once
pub record IsExposedBy (links : Links) (windows : List Window) (lock : LockSpan) (exposure : Exposure) (found : ExposedLock) : Type 0 where
  pub at_once : MayBeOpenAtOnce links lock exposure
  pub window_is : option_map name_of (window_of windows lock.window) ≡ Some found.window
  pub rank_is : found.rank ≡ lock.rank
  pub lock_is : found.lock ≡ lock.line
  pub target_is : found.target ≡ exposure.target
  pub opened_is : found.opened ≡ exposure.opened

-- a report is that of one of the lock epochs of a run and one of its exposures
abbrev pub IsExposed : Links → List Window → Spans → ExposedLock → Type 0
IsExposed links windows spans found = IsOfSome (IsExposedBy links windows) spans.locks spans.exposures found

-- the order of these reports: by the rank that locks, by the line of its lock, by the target, by the line of the call that opens the
-- exposure, and by the bytes of the window's name
abbrev pub lock_order : ExposedLock → ExposedLock → Ordering
lock_order f g =
    ordering_then
    (ordering_then (ordering_then (ordering_then (nat_cmp f.rank.0 g.rank.0) (nat_cmp f.lock.0 g.lock.0)) (nat_cmp f.target.0 g.target.0)) (nat_cmp f.opened.0 g.opened.0))
    (slice_cmp nat_cmp f.window g.window)

-- a list is that of all lock epochs of a run that may be open while their target is exposed: each once with each exposure, in order
abbrev pub AreExposed : Links → List Window → Spans → List ExposedLock → Type 0
AreExposed links windows spans list = AreAll lock_order (IsExposed links windows spans) list

-- ---- a post and an exposure

-- a post stands between the two fences of an exposure of its rank and window
pub record StandsBetween (post : Post) (exposure : Exposure) : Type 0 where
  pub window : exposure.window ≡ post.window
  pub target : exposure.target ≡ post.rank
  pub kind : exposure.kind ≡ Fenced
  pub after : exposure.opener < post.call
  pub close : ℕ
  pub closed : exposure.close ≡ Some close
  pub before : post.call < close

-- a report is that of a post and an exposure between whose fences it stands
pub record IsDoubledBy (windows : List Window) (post : Post) (exposure : Exposure) (found : DoubledPost) : Type 0 where
  pub between : StandsBetween post exposure
  pub window_is : option_map name_of (window_of windows post.window) ≡ Some found.window
  pub target_is : found.target ≡ post.rank
  pub post_is : found.post ≡ post.line
  pub opened_is : found.opened ≡ exposure.opened

-- a report is that of one of the posts of a run and one of its exposures
abbrev pub IsDoubled : List Window → Spans → DoubledPost → Type 0
IsDoubled windows spans found = IsOfSome (IsDoubledBy windows) spans.posts spans.exposures found

-- the order of these reports: by the target, by the line of its post, by the line of the fence, and by the bytes of the window's name
abbrev pub post_order : DoubledPost → DoubledPost → Ordering
post_order f g =
    ordering_then (ordering_then (ordering_then (nat_cmp f.target.0 g.target.0) (nat_cmp f.post.0 g.post.0)) (nat_cmp f.opened.0 g.opened.0)) (slice_cmp nat_cmp f.window g.window)

-- a list is that of all posts of a run between the fences of an exposure: each once with each exposure, in order
abbrev pub AreDoubled : List Window → Spans → List DoubledPost → Type 0
AreDoubled windows spans list = AreAll post_order (IsDoubled windows spans) list

-- ---- what is asked

-- the windows of the lock epochs and of the posts are windows of the table
pub record AreOnWindows (windows : List Window) (spans : Spans) : Type 0 where
  pub locks : All (λ lock. lock.window.0 < length windows) spans.locks
  pub posts : All (λ post. post.window.0 < length windows) spans.posts

-- the points of a lock epoch that are asked are reached: the entry of its first call, and the return of its last
pub record IsLockAskable (points : List ℕ) (lock : LockSpan) : Type 0 where
  pub small : lock.opener < 2 ^ 31
  pub begun : IsReached points (entry lock.rank lock.opener)
  pub small_close : (close : ℕ) → lock.close ≡ Some close → close < 2 ^ 31
  pub ended : (close : ℕ) → lock.close ≡ Some close → IsReached points (return_of lock.rank close)

-- the points of an exposure that are asked are reached: the return of its first call, and where it is over
pub record IsExposureAskable (points : List ℕ) (exposure : Exposure) : Type 0 where
  pub small : exposure.opener < 2 ^ 31
  pub begun : IsReached points (return_of exposure.target exposure.opener)
  pub small_close : (close : ℕ) → exposure.close ≡ Some close → close < 2 ^ 31
  pub ended : (close : ℕ) → exposure.close ≡ Some close → IsReached points (over_at exposure.kind exposure.target close)

-- the points that are asked of the lists of a run are reached
pub record AreAskable (points : List ℕ) (spans : Spans) : Type 0 where
  pub locks : All (IsLockAskable points) spans.locks
  pub exposures : All (IsExposureAskable points) spans.exposures
