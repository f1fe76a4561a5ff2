-- The epochs of one more call.
use Rattle.std.proofs.Common.{◌≡◌, ℕ, zero, suc, ◌+◌, ◌<◌, ◌≤◌, Bool, true, false, cond, ◌∷◌, ◌++◌, List, [], length, length-append, map, Option, Some, None, slice_get, refl, sym, ap, ◌∙◌, arith, append_assoc}
use Rattle.std.specs.Prelude.{option_map}
use Rattle.std.specs.List.{cons_option}
use Rattle.std.specs.Option.{option_and_then, option_or}
use Rattle.std.proofs.lemmas.Bool.Decides.{nat_tests}
use Rattle.std.proofs.lemmas.List.{append-nil, map-append}
use Rattle.std.proofs.lemmas.Option.{none-some, slice_get_within}
use Rattle.rma_call.specs.Call.{Call}
use Rattle.rma_call.specs.declared.what.What.{What}
use Rattle.rma_call.specs.declared.what.What.TheVariants.{Sync}
use Rattle.rma_call.specs.declared.what.SyncCall.TheVariants as sync
use Rattle.rma_call.specs.declared.epoch.EpochCall.TheVariants.{Fence, Post, Start, Lock, LockAll}
use Rattle.rma_window.specs.declared.window_id.WindowId.{WindowId}
use Rattle.rma_window.specs.Windows.{Window}
use Rattle.rma_open.specs.Calls.{number_on, window_on}
use Rattle.rma_open.specs.Open.{is_exclusive, open_on}
use Rattle.rma_open.specs.Reaching.{closed_by}
use Rattle.rma_open.specs.declared.opening.EpochKind.TheVariants as kind
use Rattle.rma_epoch.specs.declared.epoch.Epoch.{Epoch}
use Rattle.rma_epoch.specs.declared.epoch.Targets.TheVariants as targets
use Rattle.rma_epoch.specs.declared.epoch.Placed.{Placed}
use Rattle.rma_epoch.specs.Table.{Ascend, InOrder, close_from, close_of, closed_at, epoch_with, epochs_of, index_at, is_opener, opened_by, opened_from, opened_on, placed_from, placed_of}
use Rattle.rma_epoch.specs.inside.Epochs.{closed_with, epochs_with, placed_with}
use Rattle.rma_epoch.proofs.OpenerLemmas.{closed_opener}

-- an element before some of two lists
cons_append : {X : Type 0} (o : Option X) (xs ys : List X) → cons_option o (xs ++ ys) ≡ cons_option o xs ++ ys
cons_append None xs ys = refl
cons_append (Some x) xs ys = refl

-- ---- how epochs are closed

-- the latest that closes
latest : (b : Bool) (n : ℕ) (rest : Option ℕ) (last : Option ℕ) → option_or (cond b (Some n) rest) last ≡ cond b (Some n) (option_or rest last)
latest true n rest last = refl
latest false n rest last = refl

close_more : (opener : ℕ) (before calls : List Call) (call : Call) →
    close_from opener before (calls ++ call ∷ []) ≡ cond (is_opener opener (closed_at (before ++ calls) call)) (Some (length (before ++ calls))) (close_from opener before calls)
close_more opener before [] call = ap (λ b. cond (is_opener opener (closed_at b call)) (Some (length b)) None) (sym (append-nil before))
close_more opener before (x ∷ xs) call =
    let last = cond (is_opener opener (closed_at before x)) (Some (length before)) None in
    ap (λ rest. option_or rest last) (close_more opener (before ++ x ∷ []) xs call)
    ∙ ap (λ b. option_or (cond (is_opener opener (closed_at b call)) (Some (length b)) (close_from opener (before ++ x ∷ []) xs)) last) (append_assoc before (x ∷ []) xs)
    ∙ latest (is_opener opener (closed_at (before ++ x ∷ xs) call)) (length (before ++ x ∷ xs)) (close_from opener (before ++ x ∷ []) xs) last

-- what one more call closes
pub close_push : (opener : ℕ) (calls : List Call) (call : Call) → close_of (calls ++ call ∷ []) opener ≡ cond (is_opener opener (closed_at calls call)) (Some (length calls)) (close_of calls opener)
close_push opener calls call = close_more opener [] calls call

-- a call closes what an earlier one opened
pub closed_below : (before : List Call) (call : Call) (n : ℕ) → closed_at before call ≡ Some n → n < length before
closed_below before call n closes = by (window_on call.what) closes
  where
    by : (o : Option (List ℕ)) → option_and_then (λ window. closed_by (open_on before window) call.what) o ≡ Some n → n < length before
    by None none = absurd (none-some n none)
    by (Some window) some = let opener = closed_opener before window call.what n some in slice_get_within before n opener.1.call opener.1.there

-- it closes none of those from here on
never_opener : (before : List Call) (call : Call) (opener : ℕ) → length before ≤ opener → is_opener opener (closed_at before call) ≡ false
never_opener before call opener from = by (closed_at before call) refl
  where
    by : (o : Option ℕ) → closed_at before call ≡ o → is_opener opener o ≡ false
    by None none = refl
    by (Some n) is = let lt = closed_below before call n is in grind (arith, nat_tests)

never_closed : (opener : ℕ) (before calls : List Call) → length before + length calls ≤ opener → close_from opener before calls ≡ None
never_closed opener before [] from = refl
never_closed opener before (x ∷ xs) from =
    rw (never_opener before x opener (omega arith))
    (ap (λ o. option_or o None) (never_closed opener (before ++ x ∷ []) xs (let long = length-append before (x ∷ []) in omega arith)))

-- nothing closes what the next call opens
pub open_yet : (calls : List Call) → close_of calls (length calls) ≡ None
open_yet calls = never_closed (length calls) [] calls (omega arith)

-- ---- the epochs

-- what is stated of an epoch
stated : (r e : Epoch) (n : ℕ) → r.opener ≡ n → r.close ≡ None → Some r ≡ Some e → (e.opener ≡ n) × (e.close ≡ None)
stated r e n opener close is = let same : r ≡ e = cc in (ap (λ (e : Epoch). e.opener) (sym same) ∙ opener, ap (λ (e : Epoch). e.close) (sym same) ∙ close)

opened_more : (windows : List Window) (n : ℕ) (calls : List Call) (call : Call) → opened_from windows n (calls ++ call ∷ []) ≡ opened_from windows n calls ++ cons_option (opened_by windows (n + length calls) call.what) []
opened_more windows n [] call = ap (λ k. cons_option (opened_by windows k call.what) []) (let e : n ≡ n + 0 = omega arith in e)
opened_more windows n (x ∷ xs) call =
    let last = λ (k : ℕ). cons_option (opened_by windows k call.what) [] in
    let first = opened_by windows n x.what in
    ap (cons_option first) (opened_more windows (n + 1) xs call)
    ∙ cons_append first (opened_from windows (n + 1) xs) (last (n + 1 + length xs))
    ∙ ap (λ k. cons_option first (opened_from windows (n + 1) xs) ++ last k) (let e : n + 1 + length xs ≡ n + suc (length xs) = omega arith in e)

opened_push : (windows : List Window) (calls : List Call) (call : Call) → opened_from windows 0 (calls ++ call ∷ []) ≡ opened_from windows 0 calls ++ cons_option (opened_by windows (length calls) call.what) []
opened_push windows calls call =
    opened_more windows 0 calls call
    ∙ ap (λ k. opened_from windows 0 calls ++ cons_option (opened_by windows k call.what) []) (let e : 0 + length calls ≡ length calls = omega arith in e)

-- what a call opens has its number, and is not closed
pub opened_is : (n : ℕ) (what : What) (id : WindowId) (e : Epoch) → opened_on n what id ≡ Some e → (e.opener ≡ n) × (e.close ≡ None)
opened_is n (Sync (sync.Epoch (Fence w assertions))) id e is = by assertions.nosucceed is
  where
    by : (b : Bool) → cond b None (Some (record { kind = kind.Fence; window = id; targets = targets.All; opener = n; close = None })) ≡ Some e → (e.opener ≡ n) × (e.close ≡ None)
    by true none = absurd (none-some e none)
    by false some = stated (record { kind = kind.Fence; window = id; targets = targets.All; opener = n; close = None }) e n refl refl some
opened_is n (Sync (sync.Epoch (Post w group assertions))) id e is = stated (record { kind = kind.Post; window = id; targets = targets.Group group; opener = n; close = None }) e n refl refl is
opened_is n (Sync (sync.Epoch (Start w group assertions))) id e is = stated (record { kind = kind.Start; window = id; targets = targets.Group group; opener = n; close = None }) e n refl refl is
opened_is n (Sync (sync.Epoch (Lock w target lock assertions))) id e is = stated (record { kind = kind.Lock (is_exclusive lock); window = id; targets = targets.One target; opener = n; close = None }) e n refl refl is
opened_is n (Sync (sync.Epoch (LockAll w assertions))) id e is = stated (record { kind = kind.LockAll; window = id; targets = targets.All; opener = n; close = None }) e n refl refl is
opened_is n _ id e is = absurd (none-some e is)

-- the same on the window that a call is on
opened_has : (windows : List Window) (n : ℕ) (what : What) (e : Epoch) → opened_by windows n what ≡ Some e → (e.opener ≡ n) × (e.close ≡ None)
opened_has windows n what e is = by (number_on windows what) is
  where
    by : (o : Option WindowId) → option_and_then (opened_on n what) o ≡ Some e → (e.opener ≡ n) × (e.close ≡ None)
    by None none = absurd (none-some e none)
    by (Some id) some = opened_is n what id e some

-- ---- the order of the epochs

above : (windows : List Window) (n : ℕ) (calls : List Call) (i : ℕ) (e : Epoch) → slice_get (opened_from windows n calls) i ≡ Some e → n ≤ e.opener
above windows n [] i e at = absurd (none-some e at)
above windows n (x ∷ xs) i e at = by (opened_by windows n x.what) refl i at (λ k there. above windows (n + 1) xs k e there)
  where
    by : (o : Option Epoch) → opened_by windows n x.what ≡ o → (i : ℕ) → slice_get (cons_option o (opened_from windows (n + 1) xs)) i ≡ Some e → ((k : ℕ) → slice_get (opened_from windows (n + 1) xs) k ≡ Some e → n + 1 ≤ e.opener) → n ≤ e.opener
    by None none i at later = let le = later i at in omega arith
    by (Some f) some zero at later = let same : f ≡ e = cc in let number = (opened_has windows n x.what f some).0 in let one : f.opener ≡ e.opener = ap (λ (e : Epoch). e.opener) same in omega arith
    by (Some f) some (suc k) at later = let le = later k at in omega arith

opened_ascend : (windows : List Window) (n : ℕ) (calls : List Call) → Ascend (opened_from windows n calls)
opened_ascend windows n [] i j a b lt one two = absurd (none-some a one)
opened_ascend windows n (x ∷ xs) i j a b lt one two = by (opened_by windows n x.what) refl i j lt one two (λ i j lt one two. opened_ascend windows (n + 1) xs i j a b lt one two)
  where
    by : (o : Option Epoch) → opened_by windows n x.what ≡ o → (i j : ℕ) → i < j → slice_get (cons_option o (opened_from windows (n + 1) xs)) i ≡ Some a → slice_get (cons_option o (opened_from windows (n + 1) xs)) j ≡ Some b
        → ((i j : ℕ) → i < j → slice_get (opened_from windows (n + 1) xs) i ≡ Some a → slice_get (opened_from windows (n + 1) xs) j ≡ Some b → a.opener < b.opener) → a.opener < b.opener
    by None none i j lt one two later = later i j lt one two
    by (Some f) some i zero lt one two later = absurd (omega arith)
    by (Some f) some zero (suc j) lt one two later =
        let same : f ≡ a = cc in
        let number = (opened_has windows n x.what f some).0 in
        let first : f.opener ≡ a.opener = ap (λ (e : Epoch). e.opener) same in
        let le = above windows (n + 1) xs j b two in
        omega arith
    by (Some f) some (suc i) (suc j) lt one two later = later i j (omega arith) one two

-- an element of a map
pub mapped : {X Y : Type 0} (f : X → Y) (xs : List X) (i : ℕ) (y : Y) → slice_get (map f xs) i ≡ Some y → (x : X) × (slice_get xs i ≡ Some x) × (f x ≡ y)
mapped f [] i y at = absurd (none-some y at)
mapped f (x ∷ xs) zero y at = (x, refl, let same : f x ≡ y = cc in same)
mapped f (x ∷ xs) (suc i) y at = mapped f xs i y at

-- the epochs ascend
pub epochs_ascend : (windows : List Window) (calls : List Call) → Ascend (epochs_of windows calls)
epochs_ascend windows calls i j a b lt one two =
    let x = mapped (epoch_with (close_of calls)) (opened_from windows 0 calls) i a one in
    let y = mapped (epoch_with (close_of calls)) (opened_from windows 0 calls) j b two in
    let less = opened_ascend windows 0 calls i j x.0 y.0 lt x.1 y.1 in
    let first : x.0.opener ≡ a.opener = ap (λ (e : Epoch). e.opener) x.2 in
    let second : y.0.opener ≡ b.opener = ap (λ (e : Epoch). e.opener) y.2 in
    omega arith

-- ---- the epochs of one more call

map_map : {X Y Z : Type 0} (f : Y → Z) (g : X → Y) (h : X → Z) → ((x : X) → f (g x) ≡ h x) → (xs : List X) → map f (map g xs) ≡ map h xs
map_map f g h same [] = refl
map_map f g h same (x ∷ xs) = let first = same x in let rest = map_map f g h same xs in cc

module _ (windows : List Window) (calls : List Call) (call : Call) where
  closed_one : (e : Epoch) → closed_with (closed_at calls call) (length calls) (epoch_with (close_of calls) e) ≡ epoch_with (close_of (calls ++ call ∷ [])) e
  closed_one e = by (is_opener e.opener (closed_at calls call)) ∙ ap (λ (o : Option ℕ). record e { close = o }) (sym (close_push e.opener calls call))
    where
      by : (b : Bool) → cond b (record e { close = Some (length calls) }) (record e { close = close_of calls e.opener }) ≡ record e { close = cond b (Some (length calls)) (close_of calls e.opener) }
      by true = refl
      by false = refl

  opened_one : map (epoch_with (close_of (calls ++ call ∷ []))) (cons_option (opened_by windows (length calls) call.what) []) ≡ cons_option (opened_by windows (length calls) call.what) []
  opened_one = by (opened_by windows (length calls) call.what) refl
    where
      by : (o : Option Epoch) → opened_by windows (length calls) call.what ≡ o → map (epoch_with (close_of (calls ++ call ∷ []))) (cons_option o []) ≡ cons_option o []
      by None none = refl
      by (Some e) some =
          let has = opened_has windows (length calls) call.what e some in
          let none : close_of (calls ++ call ∷ []) e.opener ≡ None =
          ap (close_of (calls ++ call ∷ [])) has.0
          ∙ close_push (length calls) calls call
          ∙ ap (λ b. cond b (Some (length calls)) (close_of calls (length calls))) (never_opener calls call (length calls) (omega arith))
          ∙ open_yet calls in
          let same : close_of (calls ++ call ∷ []) e.opener ≡ e.close = none ∙ sym has.1 in
          λ j. record e { close = same j } ∷ []

  pub epochs_push : epochs_with (length calls) call.what (number_on windows call.what) (closed_at calls call) (epochs_of windows calls) ≡ epochs_of windows (calls ++ call ∷ [])
  epochs_push =
      let new = epoch_with (close_of (calls ++ call ∷ [])) in
      let opened = cons_option (opened_by windows (length calls) call.what) [] in
      ap (λ (es : List Epoch). es ++ opened) (map_map (closed_with (closed_at calls call) (length calls)) (epoch_with (close_of calls)) new closed_one (opened_from windows 0 calls))
      ∙ ap (λ (es : List Epoch). map new (opened_from windows 0 calls) ++ es) (sym opened_one)
      ∙ sym (map-append new (opened_from windows 0 calls) opened)
      ∙ ap (map new) (sym (opened_push windows calls call))

-- ---- the accesses

placed_more : (windows : List Window) (before calls : List Call) (call : Call) → placed_from windows before (calls ++ call ∷ []) ≡ placed_with (length (before ++ calls)) (index_at windows (before ++ calls) call) (placed_from windows before calls)
placed_more windows before [] call = ap (λ (b : List Call). cons_option (option_map (λ i. record { call = length b; epoch = i }) (index_at windows b call)) []) (sym (append-nil before))
placed_more windows before (x ∷ xs) call =
    let first = option_map (λ i. record { call = length before; epoch = i }) (index_at windows before x) in
    let last = λ (b : List Call). cons_option (option_map (λ i. record { call = length b; epoch = i }) (index_at windows b call)) [] in
    ap (cons_option first) (placed_more windows (before ++ x ∷ []) xs call)
    ∙ cons_append first (placed_from windows (before ++ x ∷ []) xs) (last ((before ++ x ∷ []) ++ xs))
    ∙ ap (λ (b : List Call). cons_option first (placed_from windows (before ++ x ∷ []) xs) ++ last b) (append_assoc before (x ∷ []) xs)

-- the accesses of one more call
pub placed_push : (windows : List Window) (calls : List Call) (call : Call) → placed_with (length calls) (index_at windows calls call) (placed_of windows calls) ≡ placed_of windows (calls ++ call ∷ [])
placed_push windows calls call = sym (placed_more windows [] calls call)

pub placed_above : (windows : List Window) (before calls : List Call) (i : ℕ) (p : Placed) → slice_get (placed_from windows before calls) i ≡ Some p → length before ≤ p.call
placed_above windows before [] i p at = absurd (none-some p at)
placed_above windows before (x ∷ xs) i p at = by (index_at windows before x) i at (λ k there. placed_above windows (before ++ x ∷ []) xs k p there)
  where
    long : length (before ++ x ∷ []) ≡ length before + 1
    long = length-append before (x ∷ [])

    by : (o : Option ℕ) (i : ℕ) → slice_get (cons_option (option_map (λ index. record { call = length before; epoch = index }) o) (placed_from windows (before ++ x ∷ []) xs)) i ≡ Some p
        → ((k : ℕ) → slice_get (placed_from windows (before ++ x ∷ []) xs) k ≡ Some p → length (before ++ x ∷ []) ≤ p.call) → length before ≤ p.call
    by None i at later = let le = later i at in omega (arith, long)
    by (Some index) zero at later = let same : record { call = length before; epoch = index } ≡ p = cc in let one : length before ≡ p.call = ap (λ (p : Placed). p.call) same in omega arith
    by (Some index) (suc k) at later = let le = later k at in omega (arith, long)

placed_ascend : (windows : List Window) (before calls : List Call) → InOrder (placed_from windows before calls)
placed_ascend windows before [] i j a b lt one two = absurd (none-some a one)
placed_ascend windows before (x ∷ xs) i j a b lt one two = by (index_at windows before x) i j lt one two (λ i j lt one two. placed_ascend windows (before ++ x ∷ []) xs i j a b lt one two)
  where
    by : (o : Option ℕ) (i j : ℕ) → i < j → slice_get (cons_option (option_map (λ index. record { call = length before; epoch = index }) o) (placed_from windows (before ++ x ∷ []) xs)) i ≡ Some a
        → slice_get (cons_option (option_map (λ index. record { call = length before; epoch = index }) o) (placed_from windows (before ++ x ∷ []) xs)) j ≡ Some b
        → ((i j : ℕ) → i < j → slice_get (placed_from windows (before ++ x ∷ []) xs) i ≡ Some a → slice_get (placed_from windows (before ++ x ∷ []) xs) j ≡ Some b → a.call < b.call) → a.call < b.call
    by None i j lt one two later = later i j lt one two
    by (Some index) i zero lt one two later = absurd (omega arith)
    by (Some index) zero (suc j) lt one two later =
        let same : record { call = length before; epoch = index } ≡ a = cc in
        let first : length before ≡ a.call = ap (λ (p : Placed). p.call) same in
        let le = placed_above windows (before ++ x ∷ []) xs j b two in
        let long = length-append before (x ∷ []) in
        omega arith
    by (Some index) (suc i) (suc j) lt one two later = later i j (omega arith) one two

pub placed_in_order : (windows : List Window) (calls : List Call) → InOrder (placed_of windows calls)
placed_in_order windows calls = placed_ascend windows [] calls
