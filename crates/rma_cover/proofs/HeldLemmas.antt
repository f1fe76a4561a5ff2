-- The lock epochs of a rank on itself that are held at a call.
use Rattle.std.proofs.Common.{◌≡◌, ℕ, zero, suc, ◌<◌, ◌≤◌, ◌&&◌, Bool, true, false, cond, ltb, List, [], ◌∷◌, length, filter, take, get_or, Option, Some, None, refl, sym, ap, subst, ◌∙◌, arith, ◌⊎◌, inl, inr}
use Rattle.std.specs.Prelude.{All, option_map, if◌then◌else◌}
use Rattle.std.specs.List.{AllWithin, cons_option, filter_map}
use Rattle.std.specs.List.Sorted.{IsNonDecreasingBy}
use Rattle.std.proofs.lemmas.Bool.{cases_lt}
use Rattle.std.proofs.lemmas.Bool.Decides.{nat_tests}
use Rattle.std.proofs.lemmas.List.Elements.{All-cons, All-head, All-nil, All-tail}
use Rattle.rma_base.specs.declared.rank.Rank.{Rank}
use Rattle.rma_window.specs.Windows.{Window}
use Rattle.rma_epoch.specs.declared.epoch.Epoch.{Epoch}
use Rattle.rma_rules.specs.declared.lock.LockKey.{LockKey}
use Rattle.rma_cover.specs.declared.own_locks.OwnLock.{OwnLock}
use Rattle.rma_cover.specs.declared.own_locks.OwnLocks.{OwnLocks}
use Rattle.rma_cover.specs.Cover.{covers, lasts, locks, own_key, own_locks, reaches, IsFrom}
use Rattle.rma_cover.specs.inside.Held.{Represents, all_own, covers_own, keys_of, lasts_until, opener_of, own_lock}

-- ---- filters

module _ {X : Type 0} (p q : X → Bool) where
  -- a filter after one that keeps more
  filter_again : ((x : X) → q x ≡ true → p x ≡ true) → (xs : List X) → filter q (filter p xs) ≡ filter q xs
  filter_again above [] = refl
  filter_again above (x ∷ xs) = by (p x) (q x) refl refl (filter_again above xs)
    where
      by : (a b : Bool) → p x ≡ a → q x ≡ b → filter q (filter p xs) ≡ filter q xs → filter q (cond a (x ∷ filter p xs) (filter p xs)) ≡ cond b (x ∷ filter q xs) (filter q xs)
      by true b is too rest = rw too (ap (λ l. cond b (x ∷ l) l) rest)
      by false true is too rest = let not = above x too in absurd (cc)
      by false false is too rest = rest

  -- a filter of those that meet one more test, where these come first
  filter_front : (k : ℕ) (xs : List X) → AllWithin (λ x. p x ≡ true) xs 0 k → AllWithin (λ x. p x ≡ false) xs k (length xs) → filter (λ x. p x && q x) xs ≡ filter q (take k xs)
  filter_front zero [] before after = refl
  filter_front (suc k) [] before after = refl
  filter_front zero (x ∷ xs) before after = rw (after 0 x (omega arith) (omega arith)) (filter_front zero xs (λ i d le lt. absurd (omega arith)) (λ i d le lt. after (suc i) d (omega arith) (omega arith)))
  filter_front (suc k) (x ∷ xs) before after =
      rw
      (before 0 x (omega arith) (omega arith))
      (ap
      (λ l. cond (q x) (x ∷ l) l)
      (filter_front k xs (λ i d le lt. before (suc i) d (omega arith) (omega arith)) (λ i d le lt. after (suc i) d (omega arith) (omega arith))))

-- ---- in the order of their opening

module _ {X Y : Type 0} (h : X → Option Y) (n : X → ℕ) (m : Y → ℕ) (same : (x : X) (y : Y) → h x ≡ Some y → m y ≡ n x) where
  all_above : (least : ℕ) (xs : List X) → All (λ x. least ≤ n x) xs → All (λ y. least ≤ m y) (filter_map h xs)
  all_above least [] above = All-nil (λ y. least ≤ m y)
  all_above least (x ∷ xs) above = by (h x) refl (all_above least xs (All-tail (λ x. least ≤ n x) x xs above))
    where
      by : (o : Option Y) → h x ≡ o → All (λ y. least ≤ m y) (filter_map h xs) → All (λ y. least ≤ m y) (cons_option o (filter_map h xs))
      by None is rest = rest
      by (Some y) is rest = All-cons (λ y. least ≤ m y) y (filter_map h xs) (rw (same x y is) (All-head (λ x. least ≤ n x) x xs above)) rest

  order_stays : (xs : List X) → IsNonDecreasingBy n xs → IsNonDecreasingBy m (filter_map h xs)
  order_stays [] up = λ i j d le lt. absurd (omega arith)
  order_stays (x ∷ xs) up = by (h x) refl (order_stays xs (λ i j d le lt. up (suc i) (suc j) d (omega arith) (omega arith)))
    where
      more : (y : Y) (ys : List Y) → All (λ z. m y ≤ m z) ys → IsNonDecreasingBy m ys → IsNonDecreasingBy m (y ∷ ys)
      more y ys above rest zero zero d le lt = omega arith
      more y ys above rest zero (suc j) d le lt = above j d (omega arith)
      more y ys above rest (suc i) zero d le lt = absurd (omega arith)
      more y ys above rest (suc i) (suc j) d le lt = rest i j d (omega arith) (omega arith)

      by : (o : Option Y) → h x ≡ o → IsNonDecreasingBy m (filter_map h xs) → IsNonDecreasingBy m (cons_option o (filter_map h xs))
      by None is rest = rest
      by (Some y) is rest =
          more
          y
          (filter_map h xs)
          (rw (same x y is) (all_above (n x) xs (λ k d lt. up 0 (suc k) d (omega arith) (omega arith))))
          rest

-- a key has the call that opens its epoch
key_opener : (windows : List Window) (rank : Rank) (epoch : Epoch) (key : LockKey) → own_key windows rank epoch ≡ Some key → key.opener ≡ epoch.opener
key_opener windows rank epoch key is = by (reaches windows epoch epoch.targets rank) (locks epoch.kind) is
  where
    by : (b : Bool) (l : Option Bool) →
        (if b then option_map (λ exclusive. record { window = epoch.window; target = rank; rank = rank; opener = epoch.opener; exclusive = exclusive }) l else None) ≡ Some key →
        key.opener ≡ epoch.opener
    by true (Some exclusive) is = cc
    by true None is = absurd (cc)
    by false l is = absurd (cc)

same_opener : (windows : List Window) (rank : Rank) (epoch : Epoch) (own : OwnLock) → own_lock windows rank epoch ≡ Some own → opener_of own ≡ epoch.opener
same_opener windows rank epoch own is = by (own_key windows rank epoch) refl is
  where
    by : (o : Option LockKey) → own_key windows rank epoch ≡ o → option_map (λ (key : LockKey). record { key = key; close = epoch.close }) o ≡ Some own → opener_of own ≡ epoch.opener
    by (Some key) from is = let same = key_opener windows rank epoch key from in cc
    by None from is = absurd (cc)

-- they are in the order of the epochs
pub own_ascend : (windows : List Window) (rank : Rank) (epochs : List Epoch) → IsNonDecreasingBy (λ (epoch : Epoch). epoch.opener) epochs → IsNonDecreasingBy opener_of (all_own windows rank epochs)
own_ascend windows rank epochs up = order_stays (own_lock windows rank) (λ (epoch : Epoch). epoch.opener) opener_of (same_opener windows rank) epochs up

-- ---- those that last

-- what lasts until a later call lasts until an earlier one
lasts_from : (close done : Option ℕ) (number : ℕ) → IsFrom number done → lasts close done ≡ true → lasts close (Some number) ≡ true
lasts_from None _ number from is = refl
lasts_from (Some close) None number from is = absurd (cc)
lasts_from (Some close) (Some done) number from is = grind (arith, nat_tests)

held_until : (number : ℕ) (done : Option ℕ) → IsFrom number done → (all : List OwnLock) → filter (lasts_until done) (filter (lasts_until (Some number)) all) ≡ filter (lasts_until done) all
held_until number done from all = filter_again (lasts_until (Some number)) (lasts_until done) (λ own. lasts_from own.close done number from) all

-- what is done to go on to a call: those from an index on that are opened before it are held too, where they last until it
pub record Opens (all : List OwnLock) (number next end : ℕ) (old new : List OwnLock) : Type 0 where
  pub within : next ≤ length all → (next ≤ end) × (end ≤ length all)
  pub held : old ≡ filter (lasts_until (Some number)) (take next all) → new ≡ filter (lasts_until (Some number)) (take end all)
  pub opened : (i : ℕ) (d : OwnLock) → next ≤ i → i < end → opener_of (get_or all i d) < number
  pub unopened : (d : OwnLock) → end < length all → number ≤ opener_of (get_or all end d)

pub gone_on : (windows : List Window) (rank : Rank) (epochs : List Epoch) (before number : ℕ) (own new : OwnLocks) (mid : List OwnLock) → before ≤ number →
    Represents windows rank epochs before own → new.all ≡ own.all → mid ≡ filter (lasts_until (Some number)) own.held.items → Opens own.all.items number own.next new.next mid new.held.items →
    Represents windows rank epochs number new
gone_on windows rank epochs before number own new mid le was same kept seen =
    let opens = subst (λ l. Opens l number own.next new.next mid new.held.items) was.all_are seen in
    let within = opens.within was.within in record {
      all_are = ap (λ v. v.items) same ∙ was.all_are;
      ascend = was.ascend;
      within = within.1;
      opened = λ i d lt. by_place opens i d lt (cases_lt i own.next);
      unopened = λ i d up lt.
          let first = opens.unopened d (omega arith) in
          let later = was.ascend new.next i d up lt in omega arith;
      held_are = opens.held (kept ∙ ap (filter (lasts_until (Some number))) was.held_are ∙ held_until before (Some number) le (take own.next (all_own windows rank epochs)));
    }
  where
    by_place : Opens (all_own windows rank epochs) number own.next new.next mid new.held.items → (i : ℕ) (d : OwnLock) → i < new.next → (i < own.next) ⊎ (own.next ≤ i) →
        opener_of (get_or (all_own windows rank epochs) i d) < number
    by_place opens i d lt (inl early) = let is = was.opened i d early in omega arith
    by_place opens i d lt (inr late) = opens.opened i d late lt

-- ---- those in which an access lies

keys_are : (windows : List Window) (rank : Rank) (number : ℕ) (until : Option ℕ) (epochs : List Epoch) →
    keys_of (filter (covers_own number until) (all_own windows rank epochs)) ≡ own_locks windows rank epochs number until
keys_are windows rank number until [] = refl
keys_are windows rank number until (epoch ∷ epochs) = by (own_key windows rank epoch) refl (keys_are windows rank number until epochs)
  where
    with_key : (t c : Bool) → t ≡ c → (key : LockKey) (owns : List OwnLock) (keys : List LockKey) → keys_of owns ≡ keys →
        keys_of (cond t (record { key = key; close = epoch.close } ∷ owns) owns) ≡ cons_option (if c then Some key else None) keys
    with_key true true same key owns keys later = ap (λ ks. key ∷ ks) later
    with_key false false same key owns keys later = later
    with_key true false same key owns keys later = absurd (cc)
    with_key false true same key owns keys later = absurd (cc)

    without : (c : Bool) (keys : List LockKey) → keys ≡ cons_option (if c then None else None) keys
    without true keys = refl
    without false keys = refl

    by : (o : Option LockKey) → own_key windows rank epoch ≡ o → keys_of (filter (covers_own number until) (all_own windows rank epochs)) ≡ own_locks windows rank epochs number until →
        keys_of (filter (covers_own number until) (cons_option (option_map (λ (key : LockKey). record { key = key; close = epoch.close }) o) (all_own windows rank epochs)))
        ≡ cons_option (if covers number until epoch then o else None) (own_locks windows rank epochs number until)
    by None is later = later ∙ without (covers number until epoch) (own_locks windows rank epochs number until)
    by (Some key) is later =
        with_key
        (covers_own number until (record { key = key; close = epoch.close }))
        (covers number until epoch)
        (ap (λ n. ltb n number && lasts epoch.close until) (key_opener windows rank epoch key is))
        key
        (filter (covers_own number until) (all_own windows rank epochs))
        (own_locks windows rank epochs number until)
        later

-- the keys of those that are held and last until an access is done are those in which it lies
pub held_cover : (windows : List Window) (rank : Rank) (epochs : List Epoch) (number : ℕ) (done : Option ℕ) (own : OwnLocks) → IsFrom number done → Represents windows rank epochs number own →
    keys_of (filter (lasts_until done) own.held.items) ≡ own_locks windows rank epochs number done
held_cover windows rank epochs number done own from holds =
    let all = all_own windows rank epochs in
    ap (λ l. keys_of (filter (lasts_until done) l)) holds.held_are
    ∙ ap keys_of
    (held_until number done from (take own.next all)
    ∙ sym
    (filter_front
    (λ own. ltb (opener_of own) number)
    (lasts_until done)
    own.next
    all
    (λ i d le lt. let early = holds.opened i d lt in grind (arith, nat_tests))
    (λ i d le lt. let late = holds.unopened i d le lt in grind (arith, nat_tests))))
    ∙ keys_are windows rank number done epochs
