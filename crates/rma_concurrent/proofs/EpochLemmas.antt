-- Lock epochs and posts beside exposures that stand side by side.
use Rattle.std.proofs.Common.{◌≡◌, ◌+◌, ◌<◌, ◌≤◌, ℕ, true, List, Some, slice_get, sym, subst, ◌∙◌, arith}
use Rattle.std.proofs.lemmas.Option.{same_Some}
use Rattle.rma_base.specs.declared.rank.Rank.{Rank}
use Rattle.rma_base.specs.declared.point.Point.{Point}
use Rattle.rma_link.specs.declared.links.Links.{Links}
use Rattle.rma_link.specs.Point.{entry, return_of}
use Rattle.rma_link.specs.Order.{IsAtOrBefore}
use Rattle.rma_link.proofs.OrderLemmas.{at_or_before_trans}
use Rattle.rma_finding.specs.declared.finding.DoubledPost.{DoubledPost}
use Rattle.rma_finding.specs.declared.finding.ExposedLock.{ExposedLock}
use Rattle.rma_rules.specs.declared.span.Exposure.{Exposure}
use Rattle.rma_rules.specs.declared.span.ExposureKind.{ExposureKind}
use Rattle.rma_rules.specs.declared.span.ExposureKind.TheVariants.{Fenced, Posted}
use Rattle.rma_rules.specs.declared.span.LockSpan.{LockSpan}
use Rattle.rma_rules.specs.declared.span.Post.{Post}
use Rattle.rma_rules.proofs.BeforeLemmas.{entries_rise, returns_rise}
use Rattle.rma_window.specs.Windows.{Window}
use Rattle.rma_concurrent.specs.Concurrent.{IsDoubledBy, IsExposedBy, IsOverBefore, IsUnlockedBefore, over_at, StandsBetween}
use Rattle.rma_concurrent.specs.inside.Places.{AreBeside, ClosesRise, HasMore, is_by, IsBeside, IsFrom, Rise}
use Rattle.rma_concurrent.proofs.ExposureLemmas.{by_both, by_call, opened_later}
use Rattle.rma_concurrent.proofs.ListLemmas.{from_between}

over_rise : (links : Links) (kind : ExposureKind) (target : Rank) (u v : ℕ) → u ≤ v → IsAtOrBefore links (over_at kind target u) (over_at kind target v)
over_rise links Posted target u v le = returns_rise links target u v le
over_rise links Fenced target u v le = entries_rise links target u v le

module _ (links : Links) (lock : LockSpan) (a b : Exposure) (so : IsBeside a b) where
  -- an exposure that opens later than one opened after the unlock is so too
  unlocked_later : a.opener ≤ b.opener → IsUnlockedBefore links lock a → IsUnlockedBefore links lock b
  unfolding IsUnlockedBefore
  unlocked_later le before =
      let order = at_or_before_trans links before.2 (returns_rise links a.target a.opener b.opener le) in
      (before.0, before.1, subst (λ (target : Rank). IsAtOrBefore links (return_of lock.rank before.0) (return_of target b.opener)) so.target order)

  -- one that closes earlier than one that is over before the lock is so too
  over_earlier : is_by a.close b.close ≡ true → IsOverBefore links lock b → IsOverBefore links lock a
  unfolding IsOverBefore
  over_earlier test over =
      let early = by_call a.close over.0 (subst (λ close. is_by a.close close ≡ true) over.1 test) in
      let to : Point = entry lock.rank lock.opener in
      let order =
      subst (λ (kind : ExposureKind). IsAtOrBefore links (over_at kind a.target over.0) to) (sym so.kind)
      (subst (λ (target : Rank). IsAtOrBefore links (over_at b.kind target over.0) to) (sym so.target) over.2) in
      (early.0, early.1, at_or_before_trans links (over_rise links a.kind a.target early.0 over.0 early.2) order)

module _ (links : Links) (lock : LockSpan) (list : List Exposure) (rise : Rise list) (first behind : ℕ) (beside : AreBeside list first behind) where
  pub all_unlocked : (i k : ℕ) (a own : Exposure) → first ≤ i → i ≤ k → k < behind → slice_get list i ≡ Some a → slice_get list k ≡ Some own → IsUnlockedBefore links lock a → IsUnlockedBefore links lock own
  all_unlocked i k a own from le below here there before =
      let so = beside i k a own from (omega arith) (omega arith) below here there in
      unlocked_later links lock a own so (opened_later a own so (rise i k a own le here there)) before

  all_over : ClosesRise list → (i k : ℕ) (own b : Exposure) → first ≤ k → k ≤ i → i < behind → slice_get list k ≡ Some own → slice_get list i ≡ Some b → IsOverBefore links lock b → IsOverBefore links lock own
  all_over closes i k own b from le below here there over =
      let so = beside k i own b from (omega arith) (omega arith) below here there in
      over_earlier links lock own b so (closes k i own b le here there so) over

  module _ (windows : List Window) (middle : ℕ) (unlocked : (k : ℕ) (own : Exposure) → middle ≤ k → k < behind → slice_get list k ≡ Some own → IsUnlockedBefore links lock own) (old found : List ExposedLock) where
    -- all that are asked are all
    pub all_asked : (last : ℕ) → last ≤ first → first ≤ last → middle ≤ behind → HasMore (IsFrom (IsExposedBy links windows lock) list last middle) old found
        → HasMore (IsFrom (IsExposedBy links windows lock) list first behind) old found
    all_asked last le ge bound more =
        from_between (IsExposedBy links windows lock) list last middle first behind old found ge bound
        (λ x k own from before at is. absurd (omega arith))
        (λ x k own after below at is. is.at_once.not_unlocked (unlocked k own after below at))
        more

    -- so are those behind one that is over before the lock
    pub rest_over : ClosesRise list → (last i : ℕ) (b : Exposure) → last ≡ i + 1 → first ≤ i → middle ≤ behind → last ≤ middle → slice_get list i ≡ Some b → IsOverBefore links lock b
        → HasMore (IsFrom (IsExposedBy links windows lock) list last middle) old found → HasMore (IsFrom (IsExposedBy links windows lock) list first behind) old found
    rest_over closes last i b next from bound le there over more =
        from_between (IsExposedBy links windows lock) list last middle first behind old found (omega arith) bound
        (λ x k own from_k before at is. is.at_once.not_over (all_over closes i k own b from_k (omega arith) (omega arith) at there over))
        (λ x k own after below at is. is.at_once.not_unlocked (unlocked k own after below at))
        more

-- ---- posts

module _ (post : Post) (list : List Exposure) (rise : Rise list) (first behind : ℕ) (beside : AreBeside list first behind) where
  pub all_later : (i k : ℕ) (a own : Exposure) → first ≤ i → i ≤ k → k < behind → slice_get list i ≡ Some a → slice_get list k ≡ Some own → post.call ≤ a.opener → post.call ≤ own.opener
  all_later i k a own from le below here there before =
      let so = beside i k a own from (omega arith) (omega arith) below here there in
      let later = opened_later a own so (rise i k a own le here there) in
      omega arith

  closed_by : (i k : ℕ) (own b : Exposure) → ClosesRise list → first ≤ k → k ≤ i → i < behind → slice_get list k ≡ Some own → slice_get list i ≡ Some b → is_by b.close (Some post.call) ≡ true
      → StandsBetween post own → ⊥
  closed_by i k own b closes from le below here there over is =
      let so = beside k i own b from (omega arith) (omega arith) below here there in
      let early = by_call own.close post.call (by_both own.close b.close (Some post.call) (closes k i own b le here there so) over) in
      let same : early.0 ≡ is.close = same_Some _ _ (sym early.1 ∙ is.closed) in
      let early_le = early.2 in
      let late = is.before in
      omega arith

  module _ (windows : List Window) (middle : ℕ) (later : (k : ℕ) (own : Exposure) → middle ≤ k → k < behind → slice_get list k ≡ Some own → post.call ≤ own.opener) (old found : List DoubledPost) where
    opened_behind : (k : ℕ) (own : Exposure) → middle ≤ k → k < behind → slice_get list k ≡ Some own → StandsBetween post own → ⊥
    opened_behind k own after below at is = let late = later k own after below at in let early = is.after in omega arith

    -- all that are asked are all
    pub all_posts_asked : (last : ℕ) → last ≤ first → first ≤ last → middle ≤ behind → HasMore (IsFrom (IsDoubledBy windows post) list last middle) old found
        → HasMore (IsFrom (IsDoubledBy windows post) list first behind) old found
    all_posts_asked last le ge bound more =
        from_between (IsDoubledBy windows post) list last middle first behind old found ge bound
        (λ x k own from before at is. absurd (omega arith))
        (λ x k own after below at is. opened_behind k own after below at is.between)
        more

    -- so are those behind one that is over before the post
    pub rest_closed : ClosesRise list → (last i : ℕ) (b : Exposure) → last ≡ i + 1 → first ≤ i → middle ≤ behind → last ≤ middle → slice_get list i ≡ Some b → is_by b.close (Some post.call) ≡ true
        → HasMore (IsFrom (IsDoubledBy windows post) list last middle) old found → HasMore (IsFrom (IsDoubledBy windows post) list first behind) old found
    rest_closed closes last i b next from bound le there over more =
        from_between (IsDoubledBy windows post) list last middle first behind old found (omega arith) bound
        (λ x k own from_k before at is. closed_by i k own b closes from_k (omega arith) (omega arith) at there over is.between)
        (λ x k own after below at is. opened_behind k own after below at is.between)
        more
