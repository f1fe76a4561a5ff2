-- The one epoch that reaches the target of a sound access, and stands in the list.
use Rattle.std.proofs.Common.{◌≡◌, ℕ, zero, suc, ◌+◌, Bool, true, false, cond, not, ◌||◌, ◌∷◌, ◌++◌, List, [], length, length-append, take, eqb, nat_eq, Option, Some, None, slice_get, inl, inr, refl, sym, ap, subst, ◌∙◌, arith, append_assoc}
use Rattle.std.proofs.lemmas.Bool.{true≢false, false≢true}
use Rattle.std.proofs.lemmas.Bool.Decides.{nat_tests}
use Rattle.std.proofs.lemmas.List.{append-nil}
use Rattle.std.proofs.lemmas.Option.{none-some, slice_get-map}
use Rattle.std.specs.Prelude.{find, is_none, is_some, option_map}
use Rattle.std.specs.List.{cons_option, list_any}
use Rattle.std.specs.Option.{option_and_then, option_map_or, option_or}
use Rattle.std.specs.Cmp.Lexicographic.{pointwise, same_text}
use Rattle.rma_base.specs.RankSet.{has_number}
use Rattle.rma_base.specs.declared.rank.Rank.{Rank}
use Rattle.rma_base.specs.declared.epoch_reason.EpochReason.TheVariants.{NoEpoch, NotMember}
use Rattle.rma_call.specs.Call.{Call}
use Rattle.rma_call.specs.declared.rma.RmaCall.{RmaCall}
use Rattle.rma_call.specs.declared.what.What.{What}
use Rattle.rma_call.specs.declared.what.What.TheVariants.{Sync, Rma, Local}
use Rattle.rma_window.specs.declared.window_id.WindowId.{WindowId}
use Rattle.rma_window.specs.Windows.{Window, number_of, part_of}
use Rattle.rma_open.specs.declared.opening.FencePhase.{FencePhase}
use Rattle.rma_open.specs.declared.opening.HeldLock.{HeldLock}
use Rattle.rma_open.specs.declared.opening.OpenStart.{OpenStart}
use Rattle.rma_open.specs.declared.opening.Opening.{Opening}
use Rattle.rma_open.specs.declared.opening.EpochKind.{EpochKind}
use Rattle.rma_open.specs.declared.opening.EpochKind.TheVariants as kind
use Rattle.rma_open.specs.Calls.{is_on, number_on, window_on}
use Rattle.rma_open.specs.Open.{Open, open_on}
use Rattle.rma_open.specs.Reason.{all_reasons, holds, lacks_part, not_member, reaches, reason_in}
use Rattle.rma_open.specs.Reaching.{opening_in, by_lock, by_lock_all, by_phase, by_start, reaching}
use Rattle.rma_open.proofs.MemberLemmas.{part_at_number}
use Rattle.rma_open.proofs.TestLemmas.{or_left}
use Rattle.rma_epoch.specs.declared.epoch.Epoch.{Epoch}
use Rattle.rma_epoch.specs.declared.epoch.Placed.{Placed}
use Rattle.rma_epoch.specs.Table.{close_of, epoch_at, epoch_with, epochs_of, index_at, index_in, is_access, opened_by, opened_from, opened_on, opening_at, placed_from, placed_of, sound_calls}
use Rattle.rma_epoch.specs.Laws.{AccessesHaveEpochs, IsEpochAt, OneReaches, has_target}
use Rattle.rma_epoch.proofs.ApartLemmas.{Apart, find_none, is_apart}
use Rattle.rma_epoch.proofs.OpenerLemmas.{IsOpener, all_opener, lock_opener, phase_opener, start_opener}
use Rattle.rma_epoch.proofs.TableLemmas.{epochs_ascend, placed_above}
use Rattle.rma_epoch.proofs.UpLemmas.{find_missing, position_up}

-- ---- one reaches

-- what reaches a target, of these that are open
abbrev listed : Rank → Option HeldLock → Option ℕ → Option OpenStart → Option FencePhase → List Opening
listed target lock all start phase =
    cons_option (option_map (λ (l : HeldLock). record { kind = kind.Lock l.exclusive; opener = l.opener }) lock)
    (cons_option (option_map (λ (n : ℕ). record { kind = kind.LockAll; opener = n }) all)
    (cons_option (option_and_then (λ (s : OpenStart). cond (has_number target.0 s.targets) (Some (record { kind = kind.Start; opener = s.opener })) None) start)
    (cons_option (option_map (λ (p : FencePhase). record { kind = kind.Fence; opener = p.opener }) phase) [])))

-- whether some does
abbrev some_reaches : Rank → Option HeldLock → Option ℕ → Option OpenStart → Option FencePhase → Bool
some_reaches target lock all start phase = is_some phase || option_map_or (λ (s : OpenStart). has_number target.0 s.targets) start false || (is_some all || is_some lock)

-- where some does, one alone does
abbrev One : Rank → Option HeldLock → Option ℕ → Option OpenStart → Option FencePhase → Type 0
One target lock all start phase = some_reaches target lock all start phase ≡ true → (opening : Opening) × (listed target lock all start phase ≡ opening ∷ [])

one_phase : (target : Rank) (phase : Option FencePhase) → One target None None None phase
one_phase target None some = absurd (false≢true some)
one_phase target (Some p) some = (record { kind = kind.Fence; opener = p.opener }, refl)

one_start : (target : Rank) (start : Option OpenStart) → One target None None start None
one_start target None some = absurd (false≢true some)
one_start target (Some s) some = by (has_number target.0 s.targets) some
  where
    by : (b : Bool) → (b || false) ≡ true → (opening : Opening) × (cons_option (cond b (Some (record { kind = kind.Start; opener = s.opener })) None) [] ≡ opening ∷ [])
    by true some = (record { kind = kind.Start; opener = s.opener }, refl)
    by false some = absurd (false≢true some)

one_all : (target : Rank) (all : Option ℕ) → One target None all None None
one_all target None some = absurd (false≢true some)
one_all target (Some n) some = (record { kind = kind.LockAll; opener = n }, refl)

one_lock : (target : Rank) (lock : Option HeldLock) → One target lock None None None
one_lock target None some = absurd (false≢true some)
one_lock target (Some l) some = (record { kind = kind.Lock l.exclusive; opener = l.opener }, refl)

one_open : (own : Open) (target : Rank) → Apart own → One target (own.lock_on target.0) own.lock_all own.start own.phase
one_open own target (inl (start, all, lock)) =
    subst (λ x. One target x own.lock_all own.start own.phase) (sym (lock target.0))
    (subst (λ x. One target None x own.start own.phase) (sym all)
    (subst (λ x. One target None None x own.phase) (sym start) (one_phase target own.phase)))
one_open own target (inr (inl (phase, all, lock))) =
    subst (λ x. One target x own.lock_all own.start own.phase) (sym (lock target.0))
    (subst (λ x. One target None x own.start own.phase) (sym all)
    (subst (λ x. One target None None own.start x) (sym phase) (one_start target own.start)))
one_open own target (inr (inr (inl (phase, start, lock)))) =
    subst (λ x. One target x own.lock_all own.start own.phase) (sym (lock target.0))
    (subst (λ x. One target None own.lock_all x own.phase) (sym start)
    (subst (λ x. One target None own.lock_all None x) (sym phase) (one_all target own.lock_all)))
one_open own target (inr (inr (inr (phase, start, all)))) =
    subst (λ x. One target (own.lock_on target.0) x own.start own.phase) (sym all)
    (subst (λ x. One target (own.lock_on target.0) None x own.phase) (sym start)
    (subst (λ x. One target (own.lock_on target.0) None None x) (sym phase) (one_lock target (own.lock_on target.0))))

holds_then : (b : Bool) → not b ≡ false → b ≡ true
holds_then true h = refl
holds_then false h = absurd (true≢false h)

-- ---- the calls that open what reaches a target

module _ (calls : List Call) (window : List ℕ) where
  -- what reaches a target was opened by one of the calls
  pub reaching_opener : (target : Rank) (o : Opening) → reaching (open_on calls window) target ≡ Some o → IsOpener window calls o.kind o.opener
  reaching_opener target o is = by_lock_or ((open_on calls window).lock_on target.0) refl is
    where
      is_stated : (k : EpochKind) (n : ℕ) → Some (record { kind = k; opener = n }) ≡ Some o → IsOpener window calls k n → IsOpener window calls o.kind o.opener
      is_stated k n same opener = let one : record { kind = k; opener = n } ≡ o = cc in subst (λ (o : Opening). IsOpener window calls o.kind o.opener) one opener

      by_phase_or : (p : Option FencePhase) → (open_on calls window).phase ≡ p → option_map (λ (p : FencePhase). record { kind = kind.Fence; opener = p.opener }) p ≡ Some o → IsOpener window calls o.kind o.opener
      by_phase_or None at is = absurd (none-some o is)
      by_phase_or (Some p) at is = is_stated kind.Fence p.opener is (phase_opener calls window p at)

      by_start_or : (s : Option OpenStart) → (open_on calls window).start ≡ s
          → option_or (option_and_then (λ (s : OpenStart). cond (has_number target.0 s.targets) (Some (record { kind = kind.Start; opener = s.opener })) None) s) (by_phase (open_on calls window)) ≡ Some o → IsOpener window calls o.kind o.opener
      by_start_or None at is = by_phase_or (open_on calls window).phase refl is
      by_start_or (Some s) at is = has (has_number target.0 s.targets) is
        where
          has : (b : Bool) → option_or (cond b (Some (record { kind = kind.Start; opener = s.opener })) None) (by_phase (open_on calls window)) ≡ Some o → IsOpener window calls o.kind o.opener
          has true is = is_stated kind.Start s.opener is (start_opener calls window s at)
          has false is = by_phase_or (open_on calls window).phase refl is

      by_all_or : (n : Option ℕ) → (open_on calls window).lock_all ≡ n
          → option_or (option_map (λ opener. record { kind = kind.LockAll; opener = opener }) n) (option_or (by_start (open_on calls window) target) (by_phase (open_on calls window))) ≡ Some o → IsOpener window calls o.kind o.opener
      by_all_or None at is = by_start_or (open_on calls window).start refl is
      by_all_or (Some n) at is = is_stated kind.LockAll n is (all_opener calls window n at)

      by_lock_or : (l : Option HeldLock) → (open_on calls window).lock_on target.0 ≡ l
          → option_or (option_map (λ (l : HeldLock). record { kind = kind.Lock l.exclusive; opener = l.opener }) l) (option_or (by_lock_all (open_on calls window)) (option_or (by_start (open_on calls window) target) (by_phase (open_on calls window)))) ≡ Some o
          → IsOpener window calls o.kind o.opener
      by_lock_or None at is = by_all_or (open_on calls window).lock_all refl is
      by_lock_or (Some l) at is = is_stated (kind.Lock l.exclusive) l.opener is (lock_opener calls window target.0 l at)

-- ---- the list of epochs

-- the epoch that a call opens is listed
listed_from : (windows : List Window) (base : ℕ) (calls : List Call) (m : ℕ) (call : Call) (e : Epoch) → slice_get calls m ≡ Some call → opened_by windows (base + m) call.what ≡ Some e → (i : ℕ) × (slice_get (opened_from windows base calls) i ≡ Some e)
listed_from windows base [] m call e at is = absurd (none-some call at)
listed_from windows base (x ∷ xs) zero call e at is =
    let same : x ≡ call = cc in
    let first : opened_by windows base x.what ≡ Some e = ap (λ (c : Call). opened_by windows base c.what) same ∙ ap (λ k. opened_by windows k call.what) (let n : base ≡ base + 0 = omega arith in n) ∙ is in
    (0, ap (λ (o : Option Epoch). slice_get (cons_option o (opened_from windows (base + 1) xs)) 0) first)
listed_from windows base (x ∷ xs) (suc m) call e at is =
    later (opened_by windows base x.what) (listed_from windows (base + 1) xs m call e at (ap (λ k. opened_by windows k call.what) (let n : base + 1 + m ≡ base + suc m = omega arith in n) ∙ is))
  where
    later : (o : Option Epoch) → (i : ℕ) × (slice_get (opened_from windows (base + 1) xs) i ≡ Some e) → (i : ℕ) × (slice_get (cons_option o (opened_from windows (base + 1) xs)) i ≡ Some e)
    later None found = found
    later (Some f) found = (suc found.0, found.1)

-- those of the first calls are the first ones
pub prefix_from : (windows : List Window) (base : ℕ) (calls : List Call) (k i : ℕ) (e : Epoch) → slice_get (opened_from windows base (take k calls)) i ≡ Some e → slice_get (opened_from windows base calls) i ≡ Some e
prefix_from windows base [] zero i e at = at
prefix_from windows base [] (suc k) i e at = at
prefix_from windows base (x ∷ xs) zero i e at = absurd (none-some e at)
prefix_from windows base (x ∷ xs) (suc k) i e at = by (opened_by windows base x.what) i at (λ j there. prefix_from windows (base + 1) xs k j e there)
  where
    by : (o : Option Epoch) (i : ℕ) → slice_get (cons_option o (opened_from windows (base + 1) (take k xs))) i ≡ Some e → ((j : ℕ) → slice_get (opened_from windows (base + 1) (take k xs)) j ≡ Some e → slice_get (opened_from windows (base + 1) xs) j ≡ Some e)
        → slice_get (cons_option o (opened_from windows (base + 1) xs)) i ≡ Some e
    by None i at later = later i at
    by (Some f) zero at later = at
    by (Some f) (suc j) at later = later j at

-- a call that is on a window has its number
number_there : (windows : List Window) (window : List ℕ) (what : What) → is_on window what ≡ true → number_on windows what ≡ number_of windows window
number_there windows window what on = by (window_on what) on
  where
    by : (o : Option (List ℕ)) → option_map_or (pointwise nat_eq window) o false ≡ true → option_and_then (number_of windows) o ≡ number_of windows window
    by None wrong = absurd (false≢true wrong)
    by (Some w) same = ap (number_of windows) (sym (same_text window w (sym same)))

-- an epoch of these calls is at its index, also among those of more calls
stands_listed : (windows : List Window) (calls : List Call) (k : ℕ) (window : List ℕ) (id : WindowId) (o : Opening) → number_of windows window ≡ Some id → IsOpener window (take k calls) o.kind o.opener
    → (i : ℕ) × (index_in (epochs_of windows (take k calls)) o.opener ≡ Some i) × IsEpochAt windows calls window o i
stands_listed windows calls k window id o number opener =
    let before = take k calls in
    let e : Epoch = record { kind = o.kind; window = id; targets = opener.opens.0; opener = o.opener; close = None } in
    let opened : opened_by windows (0 + o.opener) opener.call.what ≡ Some e =
    ap (λ n. opened_by windows n opener.call.what) (let n : 0 + o.opener ≡ o.opener = omega arith in n)
    ∙ ap (option_and_then (opened_on o.opener opener.call.what)) (number_there windows window opener.call.what opener.on ∙ number)
    ∙ opener.opens.1 id in
    let found = listed_from windows 0 before o.opener opener.call e opener.there opened in
    let own : slice_get (epochs_of windows before) found.0 ≡ Some (epoch_with (close_of before) e) = slice_get-map (epoch_with (close_of before)) (opened_from windows 0 before) found.0 ∙ ap (option_map (epoch_with (close_of before))) found.1 in
    let all : slice_get (epochs_of windows calls) found.0 ≡ Some (epoch_with (close_of calls) e) =
    slice_get-map (epoch_with (close_of calls)) (opened_from windows 0 calls) found.0 ∙ ap (option_map (epoch_with (close_of calls))) (prefix_from windows 0 calls k found.0 e found.1) in (
      found.0,
      position_up (λ (e : Epoch). e.opener) (epochs_of windows before) (epochs_ascend windows before) found.0 (epoch_with (close_of before) e) o.opener own refl,
      (epoch_with (close_of calls) e, all, record { kind = refl; window = sym number; opener = refl }),
    )

-- ---- the epoch of a call

placed_at_number : (windows : List Window) (before calls : List Call) (m : ℕ) → epoch_at (placed_from windows before calls) (length before + m) ≡ option_and_then (λ call. index_at windows (before ++ take m calls) call) (slice_get calls m)
placed_at_number windows before [] m = refl
placed_at_number windows before (x ∷ xs) zero = by (index_at windows before x) refl ∙ ap (λ b. index_at windows b x) (sym (append-nil before))
  where
    here : eqb (length before) (length before + 0) ≡ true
    here = grind (arith, nat_tests)

    by : (o : Option ℕ) → index_at windows before x ≡ o → epoch_at (cons_option (option_map (λ i. record { call = length before; epoch = i }) o) (placed_from windows (before ++ x ∷ []) xs)) (length before + 0) ≡ o
    by (Some i) is = ap (λ b. option_map (λ (p : Placed). p.epoch) (cond b (Some (record { call = length before; epoch = i })) (find (is_access (length before + 0)) (placed_from windows (before ++ x ∷ []) xs)))) here
    by None is =
        ap (option_map (λ (p : Placed). p.epoch)) (find_missing (λ (p : Placed). p.call) (placed_from windows (before ++ x ∷ []) xs) (length before + 0) (λ j p there same.
        let le = placed_above windows (before ++ x ∷ []) xs j p there in let long = length-append before (x ∷ []) in omega (arith, le, long, same)))
placed_at_number windows before (x ∷ xs) (suc m) =
    by (index_at windows before x)
    ∙ ap (epoch_at (placed_from windows (before ++ x ∷ []) xs)) (let long = length-append before (x ∷ []) in let e : length before + suc m ≡ length (before ++ x ∷ []) + m = omega (arith, long) in e)
    ∙ placed_at_number windows (before ++ x ∷ []) xs m
    ∙ ap (λ b. option_and_then (λ call. index_at windows b call) (slice_get xs m)) (append_assoc before (x ∷ []) (take m xs))
  where
    other : eqb (length before) (length before + suc m) ≡ false
    other = grind (arith, nat_tests)

    by : (o : Option ℕ) → epoch_at (cons_option (option_map (λ i. record { call = length before; epoch = i }) o) (placed_from windows (before ++ x ∷ []) xs)) (length before + suc m) ≡ epoch_at (placed_from windows (before ++ x ∷ []) xs) (length before + suc m)
    by None = refl
    by (Some i) = ap (λ b. option_map (λ (p : Placed). p.epoch) (cond b (Some (record { call = length before; epoch = i })) (find (is_access (length before + suc m)) (placed_from windows (before ++ x ∷ []) xs)))) other

-- the call of a number stands in what is open before it
pub epoch_there : (windows : List Window) (calls : List Call) (k : ℕ) → epoch_at (placed_of windows calls) k ≡ option_and_then (λ call. index_at windows (take k calls) call) (slice_get calls k)
epoch_there windows calls k = ap (epoch_at (placed_of windows calls)) (let e : k ≡ 0 + k = omega arith in e) ∙ placed_at_number windows [] calls k

-- the first of four is the first of their list
first_of : (a b c d : Option Opening) → slice_get (cons_option a (cons_option b (cons_option c (cons_option d [])))) 0 ≡ option_or a (option_or b (option_or c d))
first_of (Some x) b c d = refl
first_of None (Some x) c d = refl
first_of None None (Some x) d = refl
first_of None None None (Some x) = refl
first_of None None None None = refl

-- an access stands in what reaches its target
accessed : (before : List Call) (call : Call) (access : RmaCall) (target : Option Rank) → call.what ≡ Rma access → access.target ≡ target
    → opening_at before call ≡ option_and_then (reaching (open_on before access.window)) target
accessed before call access target is to =
    ap (λ what. option_and_then (λ w. opening_in (open_on before w) what) (window_on what)) is
    ∙ ap (option_and_then (reaching (open_on before access.window))) to

-- ---- a sound access

-- the window of an access that names no rank without a part is one of the run
window_known : (windows : List Window) (access : RmaCall) (target : Rank) → access.target ≡ Some target → not_member windows (Rma access) ≡ false → (id : WindowId) × (number_of windows access.window ≡ Some id)
window_known windows access target to member = by (number_of windows access.window) refl
  where
    has : lacks_part windows access.window target.0 ≡ false
    has = or_left (lacks_part windows access.window target.0) false (ap (λ o. list_any (lacks_part windows access.window) (option_map_or (λ (t : Rank). t.0 ∷ []) o [])) (sym to) ∙ member)

    by : (o : Option WindowId) → number_of windows access.window ≡ o → (id : WindowId) × (number_of windows access.window ≡ Some id)
    by (Some id) is = (id, is)
    by None is = absurd (true≢false (ap is_none (ap (option_and_then (λ (id : WindowId). part_of windows id target)) (sym is) ∙ part_at_number windows access.window target) ∙ has))

-- one epoch reaches its target, and it stands in that one
pub one_reaches : (windows : List Window) (calls : List Call) → OneReaches windows calls
one_reaches windows calls number call access target there is to =
    let sound = sound_calls windows calls in
    let before = take number sound in
    let opened = open_on before access.window in
    let apart = is_apart windows calls number call there in
    let none : reason_in windows opened (Rma access) call.request ≡ None =
    subst (λ what. option_and_then (λ w. reason_in windows (open_on before w) what call.request) (window_on what) ≡ None) is apart.sound in
    let some : reaches opened access.target ≡ true = holds_then (reaches opened access.target) (find_none (holds windows opened (Rma access) call.request) all_reasons 1 NoEpoch refl none) in
    let one = one_open opened target (apart.apart access.window) (subst (λ o. reaches opened o ≡ true) to some) in
    let reached : reaching opened target ≡ Some one.0 =
    sym (first_of (by_lock opened target) (by_lock_all opened) (by_start opened target) (by_phase opened))
    ∙ ap (λ (all : List Opening). slice_get all 0) one.1 in
    let stands : opening_at before call ≡ Some one.0 = accessed before call access (Some target) is to ∙ reached in
    let known = window_known windows access target to (find_none (holds windows opened (Rma access) call.request) all_reasons 0 NotMember refl none) in
    let found = stands_listed windows sound number access.window known.0 one.0 known.1 (reaching_opener before access.window target one.0 reached) in
    let index : epoch_at (placed_of windows sound) number ≡ Some found.0 =
    epoch_there windows sound number
    ∙ ap (option_and_then (λ call. index_at windows before call)) there
    ∙ ap (option_and_then (λ (o : Opening). index_in (epochs_of windows before) o.opener)) stands
    ∙ found.1 in (
      one.0,
      one.1,
      (found.0, index, found.2),
    )

-- ---- the calls that stand in an epoch

no_opening : (o : Option (List ℕ)) → option_and_then {U = Opening} (λ (w : List ℕ). None) o ≡ None
no_opening None = refl
no_opening (Some w) = refl

module _ (windows : List Window) (calls : List Call) (number : ℕ) (call : Call) (there : slice_get (sound_calls windows calls) number ≡ Some call) where
  -- a call that stands in nothing
  without : opening_at (take number (sound_calls windows calls)) call ≡ None → is_some (epoch_at (placed_of windows (sound_calls windows calls)) number) ≡ false
  without none =
      ap is_some
      (epoch_there windows (sound_calls windows calls) number
      ∙ ap (option_and_then (λ call. index_at windows (take number (sound_calls windows calls)) call)) there
      ∙ ap (option_and_then (λ (o : Opening). index_in (epochs_of windows (take number (sound_calls windows calls))) o.opener)) none)

  by_target : (access : RmaCall) → call.what ≡ Rma access → (target : Option Rank) → access.target ≡ target → is_some (epoch_at (placed_of windows (sound_calls windows calls)) number) ≡ is_some target
  by_target access is None to = without (accessed (take number (sound_calls windows calls)) call access None is to)
  by_target access is (Some target) to = ap is_some (one_reaches windows calls number call access target there is to).2.1

  by_what : (what : What) → call.what ≡ what → is_some (epoch_at (placed_of windows (sound_calls windows calls)) number) ≡ has_target what
  by_what (Rma access) is = by_target access is access.target refl
  by_what (Sync sync) is = without (ap (λ what. option_and_then (λ w. opening_in (open_on (take number (sound_calls windows calls)) w) what) (window_on what)) is ∙ no_opening (window_on (Sync sync)))
  by_what (Local local) is = without (ap (λ what. option_and_then (λ w. opening_in (open_on (take number (sound_calls windows calls)) w) what) (window_on what)) is)

pub accesses_have_epochs : (windows : List Window) (calls : List Call) → AccessesHaveEpochs windows calls
accesses_have_epochs windows calls number = by (slice_get (sound_calls windows calls) number) refl
  where
    by : (o : Option Call) → slice_get (sound_calls windows calls) number ≡ o → is_some (epoch_at (placed_of windows (sound_calls windows calls)) number) ≡ option_map_or (λ (call : Call). has_target call.what) o false
    by None none = ap is_some (epoch_there windows (sound_calls windows calls) number ∙ ap (option_and_then (λ call. index_at windows (take number (sound_calls windows calls)) call)) none)
    by (Some call) there = by_what windows calls number call there call.what refl
