-- The lock epochs and the posts of a run are on windows of the run, and its lock epochs and its exposures open and close at points of it.
use Rattle.std.proofs.Common.{◌≡◌, ◌<◌, ◌^◌, ◌+◌, ℕ, zero, suc, Bool, true, false, cond, List, [], ◌∷◌, length, Option, Some, None, slice_get, refl, sym, ap, subst, ◌∙◌, arith, ⊎_elim}
use Rattle.std.specs.Prelude.{Contains, position}
use Rattle.std.specs.List.{cons_option, flat_map}
use Rattle.std.specs.Option.{option_and_then}
use Rattle.std.proofs.lemmas.List.Elements.{Contains-append_cases}
use Rattle.std.proofs.lemmas.List.Quantifiers.{position-Some}
use Rattle.std.proofs.lemmas.Option.{none-some, same_Some, slice_get_read, slice_get_within}
use Rattle.rma_base.specs.declared.line.LineNo.{LineNo}
use Rattle.rma_call.specs.Call.{Call, RankCalls}
use Rattle.rma_call.specs.declared.what.What.{What}
use Rattle.rma_call.specs.declared.what.What.TheVariants.{Sync}
use Rattle.rma_call.specs.declared.what.SyncCall.TheVariants as sync
use Rattle.rma_call.specs.declared.epoch.EpochCall.TheVariants.{Fence, Post, Start, Lock, LockAll}
use Rattle.rma_run.specs.Run.{IsRun, lens_of}
use Rattle.rma_run.proofs.CallLemmas.{calls_are_few}
use Rattle.rma_run.proofs.ContainLemmas.{all_from_contains, in_filter_map, in_flat_map}
use Rattle.rma_clock.specs.Reached.{points_of}
use Rattle.rma_window.specs.declared.window_id.WindowId.{WindowId}
use Rattle.rma_window.specs.Creation.{creations}
use Rattle.rma_window.specs.Windows.{Window, is_named, number_of, windows_by}
use Rattle.rma_open.specs.Calls.{window_on}
use Rattle.rma_open.specs.Open.{is_exclusive}
use Rattle.rma_open.specs.declared.opening.EpochKind.{EpochKind}
use Rattle.rma_open.specs.declared.opening.EpochKind.TheVariants as kind
use Rattle.rma_epoch.specs.declared.epoch.Epoch.{Epoch}
use Rattle.rma_epoch.specs.declared.epoch.Targets.TheVariants as targets
use Rattle.rma_epoch.specs.Table.{close_of, epoch_with, epochs_of, opened_by, opened_from, opened_on, sound_calls}
use Rattle.rma_epoch.proofs.TableLemmas.{mapped, opened_is}
use Rattle.rma_rules.specs.declared.span.Exposure.{Exposure}
use Rattle.rma_rules.specs.declared.span.ExposureKind.TheVariants.{Fenced}
use Rattle.rma_rules.specs.declared.span.LockSpan.{LockSpan}
use Rattle.rma_rules.specs.declared.span.Post as span
use Rattle.rma_rules.specs.Spans.{Spans}
use Rattle.rma_exposed.specs.Exposed.{exposure_of, exposure_with, if_posted, lock_of, lock_span, lock_with, post_of, post_with}
use Rattle.rma_fenced.specs.Fenced.{accessed_in}
use Rattle.rma_fenced.proofs.ExposureLemmas.{fenced_is}
use Rattle.rma_points.proofs.EpochLemmas.{close_within}
use Rattle.rma_points.proofs.OptionLemmas.{some_is}
use Rattle.rma_points.proofs.SpanLemmas.{count, entered, returned, sound_count}
use Rattle.rma_accesses.specs.Run.{AreListsOf, own_epochs, own_exposures, own_fenced, own_locks, own_posts}
use Rattle.rma_concurrent.specs.Concurrent.{AreAskable, AreOnWindows, IsExposureAskable, IsLockAskable}

-- ---- the epochs of some calls

-- the number of a name is that of a window of the table
number_within : (windows : List Window) (name : List ℕ) (id : WindowId) → number_of windows name ≡ Some id → id.0 < length windows
number_within [] name id is = absurd (let no : ⊥ = cc in no)
number_within (window ∷ windows) name id is = by (position (is_named name) (window ∷ windows)) refl is
  where
    by : (o : Option ℕ) → position (is_named name) (window ∷ windows) ≡ o → number_of (window ∷ windows) name ≡ Some id → id.0 < length (window ∷ windows)
    by None none is = absurd (let no : ⊥ = cc in no)
    by (Some n) some is =
        let within = (position-Some (is_named name) (window ∷ windows) n window some).0 in
        let made : Some (let w : WindowId = record { 0 = n } in w) ≡ Some id = cc in
        let same : n ≡ id.0 = ap (λ (w : WindowId). w.0) (same_Some (let w : WindowId = record { 0 = n } in w) id made) in
        subst (λ k. k < length (window ∷ windows)) same within

stated : (r e : Epoch) (id : WindowId) → r.window ≡ id → Some r ≡ Some e → e.window ≡ id
stated r e id on same = ap (λ (e : Epoch). e.window) (sym (same_Some r e same)) ∙ on

-- what a call opens on a window is of that window
of_window : (n : ℕ) (what : What) (id : WindowId) (e : Epoch) → opened_on n what id ≡ Some e → e.window ≡ id
of_window n (Sync (sync.Epoch (Fence w assertions))) id e is = by assertions.nosucceed is
  where
    by : (b : Bool) → cond b None (Some (record { kind = kind.Fence; window = id; targets = targets.All; opener = n; close = None })) ≡ Some e → e.window ≡ id
    by true none = absurd (none-some e none)
    by false some = stated (record { kind = kind.Fence; window = id; targets = targets.All; opener = n; close = None }) e id refl some
of_window n (Sync (sync.Epoch (Post w group assertions))) id e is = stated (record { kind = kind.Post; window = id; targets = targets.Group group; opener = n; close = None }) e id refl is
of_window n (Sync (sync.Epoch (Start w group assertions))) id e is = stated (record { kind = kind.Start; window = id; targets = targets.Group group; opener = n; close = None }) e id refl is
of_window n (Sync (sync.Epoch (Lock w target lock assertions))) id e is = stated (record { kind = kind.Lock (is_exclusive lock); window = id; targets = targets.One target; opener = n; close = None }) e id refl is
of_window n (Sync (sync.Epoch (LockAll w assertions))) id e is = stated (record { kind = kind.LockAll; window = id; targets = targets.All; opener = n; close = None }) e id refl is
of_window n _ id e is = absurd (none-some e is)

-- what a call opens is on a window of the table, and has the number of the call
opened_within : (windows : List Window) (n : ℕ) (what : What) (e : Epoch) → opened_by windows n what ≡ Some e → (e.opener ≡ n) × (e.window.0 < length windows)
opened_within windows n what e is = by_name (window_on what) is
  where
    by_number : (name : List ℕ) (o : Option WindowId) → number_of windows name ≡ o → option_and_then (opened_on n what) o ≡ Some e → (e.opener ≡ n) × (e.window.0 < length windows)
    by_number name None none opens = absurd (none-some e opens)
    by_number name (Some id) some opens =
        ((opened_is n what id e opens).0, subst (λ (w : WindowId). w.0 < length windows) (sym (of_window n what id e opens)) (number_within windows name id some))

    by_name : (o : Option (List ℕ)) → option_and_then (opened_on n what) (option_and_then (number_of windows) o) ≡ Some e → (e.opener ≡ n) × (e.window.0 < length windows)
    by_name None opens = absurd (none-some e opens)
    by_name (Some name) opens = by_number name (number_of windows name) refl opens

opened_in : (windows : List Window) (n : ℕ) (calls : List Call) (i : ℕ) (e : Epoch) → slice_get (opened_from windows n calls) i ≡ Some e → (e.opener < n + length calls) × (e.window.0 < length windows)
opened_in windows n [] i e at = absurd (none-some e at)
opened_in windows n (x ∷ xs) i e at = by (opened_by windows n x.what) refl i at (λ k there. opened_in windows (n + 1) xs k e there)
  where
    by : (o : Option Epoch) → opened_by windows n x.what ≡ o → (i : ℕ) → slice_get (cons_option o (opened_from windows (n + 1) xs)) i ≡ Some e
        → ((k : ℕ) → slice_get (opened_from windows (n + 1) xs) k ≡ Some e → (e.opener < n + 1 + length xs) × (e.window.0 < length windows)) → (e.opener < n + length (x ∷ xs)) × (e.window.0 < length windows)
    by None none i at later = let both = later i at in let less = both.0 in (omega arith, both.1)
    by (Some f) some zero at later =
        let own = opened_within windows n x.what e (some ∙ at) in
        let same = own.0 in
        (omega arith, own.1)
    by (Some f) some (suc k) at later = let both = later k at in let less = both.0 in (omega arith, both.1)

-- an epoch is on a window of the table, and so many calls have those that open and close it
record IsWithin (windows : List Window) (many : ℕ) (epoch : Epoch) : Type 0 where
  window : epoch.window.0 < length windows
  opener : epoch.opener < many
  close : (close : ℕ) → epoch.close ≡ Some close → close < many

there_in : {X : Type 0} (xs : List X) (x : X) → Contains xs x → (i : ℕ) × (slice_get xs i ≡ Some x)
there_in xs x (k, lt, at) = (k, slice_get_read xs (length xs) k x refl lt (sym at))

-- the epochs of calls are
epoch_within : (windows : List Window) (calls : List Call) (e : Epoch) → Contains (epochs_of windows calls) e → IsWithin windows (length calls) e
epoch_within windows calls e has =
    let (i, there) = there_in (epochs_of windows calls) e has in
    let (x, at, same) = mapped (epoch_with (close_of calls)) (opened_from windows 0 calls) i e there in
    let (less, on) = opened_in windows 0 calls i x at in
    let opener : x.opener ≡ e.opener = ap (λ (e : Epoch). e.opener) same in
    record {
      window = subst (λ (w : WindowId). w.0 < length windows) (ap (λ (e : Epoch). e.window) same) on;
      opener = omega arith;
      close = some_is (λ n. n < length calls) e.close (close_within windows calls i e there);
    }

-- ---- what epochs are

lock_is : (own : EpochKind) (l lock : LockSpan) → lock_of own l ≡ Some lock → l ≡ lock
lock_is (kind.Lock exclusive) l lock is = same_Some l lock is
lock_is kind.LockAll l lock is = same_Some l lock is
lock_is kind.Fence l lock is = absurd (none-some lock is)
lock_is kind.Start l lock is = absurd (none-some lock is)
lock_is kind.Post l lock is = absurd (none-some lock is)

posted_is : {X : Type 0} (own : EpochKind) (x y : X) → if_posted own x ≡ Some y → x ≡ y
posted_is kind.Post x y is = same_Some x y is
posted_is (kind.Lock exclusive) x y is = absurd (none-some y is)
posted_is kind.LockAll x y is = absurd (none-some y is)
posted_is kind.Fence x y is = absurd (none-some y is)
posted_is kind.Start x y is = absurd (none-some y is)

-- ---- the lists of a run

module _ (ranks : List RankCalls) (run : IsRun ranks) where
  abbrev windows : List Window
  windows = windows_by (creations ranks)

  abbrev points : List ℕ
  points = points_of (lens_of ranks)

  module _ (own : RankCalls) (of_run : Contains ranks own) where
    abbrev sound : List Call
    sound = sound_calls (windows_by (creations ranks)) own.calls

    -- a sound call is one of the run
    of_rank : (number : ℕ) → number < length sound → number < count ranks own.rank
    of_rank number less = let few = sound_count ranks run own of_run in omega arith

    small : (number : ℕ) → number < length sound → number < 2 ^ 31
    small number less = let few = sound_count ranks run own of_run in let all = calls_are_few ranks own.rank.0 run in omega arith

    -- an epoch of the rank
    of_own : (e : Epoch) → Contains (own_epochs windows own) e → IsWithin windows (length sound) e
    of_own e has = epoch_within windows sound e has

    lock_askable : (e : Epoch) → IsWithin windows (length sound) e → IsLockAskable points (lock_with own.rank own.calls e)
    lock_askable e within = record {
      small = small e.opener within.opener;
      begun = entered ranks own.rank e.opener (of_rank e.opener within.opener);
      small_close = λ close is. small close (within.close close is);
      ended = λ close is. returned ranks own.rank close (of_rank close (within.close close is));
    }

    exposure_askable : (e : Epoch) → IsWithin windows (length sound) e → IsExposureAskable points (exposure_with own.rank own.calls e)
    exposure_askable e within = record {
      small = small e.opener within.opener;
      begun = returned ranks own.rank e.opener (of_rank e.opener within.opener);
      small_close = λ close is. small close (within.close close is);
      ended = λ close is. returned ranks own.rank close (of_rank close (within.close close is));
    }

    -- a lock epoch of the rank
    own_lock : (lock : LockSpan) → Contains (own_locks windows own) lock → (lock.window.0 < length windows) × IsLockAskable points lock
    own_lock lock has =
        let (e, among, is) = in_filter_map (lock_span own.rank own.calls) (own_epochs windows own) lock has in
        let within = of_own e among in
        subst (λ (l : LockSpan). (l.window.0 < length windows) × IsLockAskable points l) (lock_is e.kind (lock_with own.rank own.calls e) lock is) (within.window, lock_askable e within)

    -- a post of the rank
    own_post : (post : span.Post) → Contains (own_posts windows own) post → post.window.0 < length windows
    own_post post has =
        let (e, among, is) = in_filter_map (post_of own.rank own.calls) (own_epochs windows own) post has in
        subst (λ (p : span.Post). p.window.0 < length windows) (posted_is e.kind (post_with own.rank own.calls e) post is) (of_own e among).window

    -- an exposure of the rank that a post opens
    own_exposure : (exposure : Exposure) → Contains (own_exposures windows own) exposure → IsExposureAskable points exposure
    own_exposure exposure has =
        let (e, among, is) = in_filter_map (exposure_of own.rank own.calls) (own_epochs windows own) exposure has in
        subst (IsExposureAskable points) (posted_is e.kind (exposure_with own.rank own.calls e) exposure is) (exposure_askable e (of_own e among))

    -- one between two fences
    fences_askable : (window : WindowId) (first second : ℕ) (line : LineNo) → first < length sound → second < length sound
        → IsExposureAskable points (record { window = window; target = own.rank; kind = Fenced; opener = first; close = Some second; opened = line })
    fences_askable window first second line less last = record {
      small = small first less;
      begun = returned ranks own.rank first (of_rank first less);
      small_close = λ close is. small close (subst (λ n. n < length sound) (same_Some second close is) last);
      ended = λ close is. entered ranks own.rank close (of_rank close (subst (λ n. n < length sound) (same_Some second close is) last));
    }

    own_fence : (exposure : Exposure) → Contains (own_fenced (accessed_in ranks) windows own) exposure → IsExposureAskable points exposure
    own_fence exposure has =
        let is = fenced_is (accessed_in ranks) windows own.rank sound exposure has in
        let first = slice_get_within sound exposure.opener is.first is.opens in
        let second = slice_get_within sound is.number is.second is.closes in
        subst (IsExposureAskable points)
        (λ t. record { window = exposure.window; target = sym is.target t; kind = sym is.kind t; opener = exposure.opener; close = sym is.close t; opened = exposure.opened })
        (fences_askable exposure.window exposure.opener is.number exposure.opened first second)

  module _ (spans : Spans) (are : AreListsOf ranks spans) where
    lock_of_run : (lock : LockSpan) → Contains spans.locks lock → (lock.window.0 < length windows) × IsLockAskable points lock
    lock_of_run lock has =
        let (own, of_run, among) = in_flat_map (own_locks windows) ranks lock (subst (λ l. Contains l lock) are.locks has) in
        own_lock own of_run lock among

    post_of_run : (post : span.Post) → Contains spans.posts post → post.window.0 < length windows
    post_of_run post has =
        let (own, of_run, among) = in_flat_map (own_posts windows) ranks post (subst (λ l. Contains l post) are.posts has) in
        own_post own of_run post among

    posted_of_run : (exposure : Exposure) → Contains (flat_map (own_exposures windows) ranks) exposure → IsExposureAskable points exposure
    posted_of_run exposure has = let (own, of_run, among) = in_flat_map (own_exposures windows) ranks exposure has in own_exposure own of_run exposure among

    fenced_of_run : (exposure : Exposure) → Contains (flat_map (own_fenced (accessed_in ranks) windows) ranks) exposure → IsExposureAskable points exposure
    fenced_of_run exposure has = let (own, of_run, among) = in_flat_map (own_fenced (accessed_in ranks) windows) ranks exposure has in own_fence own of_run exposure among

    exposure_of_run : (exposure : Exposure) → Contains spans.exposures exposure → IsExposureAskable points exposure
    exposure_of_run exposure has =
        ⊎_elim (posted_of_run exposure) (fenced_of_run exposure)
        (Contains-append_cases (flat_map (own_exposures windows) ranks) (flat_map (own_fenced (accessed_in ranks) windows) ranks) exposure (subst (λ l. Contains l exposure) are.exposures has))

-- lock epochs and exposures of a run may be asked
pub may_be_asked : (ranks : List RankCalls) (spans : Spans) → IsRun ranks → AreListsOf ranks spans
    → AreOnWindows (windows_by (creations ranks)) spans × AreAskable (points_of (lens_of ranks)) spans
may_be_asked ranks spans run are = (
  record {
    locks = all_from_contains (λ (lock : LockSpan). lock.window.0 < length (windows_by (creations ranks))) spans.locks (λ lock has. (lock_of_run ranks run spans are lock has).0);
    posts = all_from_contains (λ (post : span.Post). post.window.0 < length (windows_by (creations ranks))) spans.posts (post_of_run ranks run spans are);
  },
  record {
    locks = all_from_contains (IsLockAskable (points_of (lens_of ranks))) spans.locks (λ lock has. (lock_of_run ranks run spans are lock has).1);
    exposures = all_from_contains (IsExposureAskable (points_of (lens_of ranks))) spans.exposures (exposure_of_run ranks run spans are);
  },
)
