-- Sound accesses lie within their epochs.
use Rattle.std.proofs.Common.{◌≡◌, ℕ, zero, suc, ◌<◌, Bool, true, false, cond, List, [], ◌∷◌, length, length-take, take, get_or, eqb, eqb-true, nat_eq, nat_lt, Option, Some, None, slice_get, refl, sym, ap, subst, ◌∙◌, arith}
use Rattle.std.specs.Prelude.{is_some, option_map, unwrap_or}
use Rattle.std.specs.Option.{option_and_then, option_map_or, option_or}
use Rattle.std.specs.Cmp.Lexicographic.{pointwise, same_text}
use Rattle.std.proofs.lemmas.Bool.{false≢true, true≢false}
use Rattle.std.proofs.lemmas.Bool.Decides.{nat_tests}
use Rattle.std.proofs.lemmas.Cmp.{nat_list_eq_equiv}
use Rattle.std.proofs.lemmas.List.Quantifiers.{position-Some}
use Rattle.std.proofs.lemmas.Option.{none-some, slice_get-get_or, slice_get_within}
use Rattle.rma_base.specs.RankSet.{has_number}
use Rattle.rma_base.specs.declared.rank.Rank.{Rank}
use Rattle.rma_call.specs.Call.{Call}
use Rattle.rma_call.specs.declared.rma.RmaCall.{RmaCall}
use Rattle.rma_call.specs.declared.what.What.{What}
use Rattle.rma_call.specs.declared.what.What.TheVariants.{Sync, Rma, Local}
use Rattle.rma_call.specs.declared.what.SyncCall.TheVariants.{Epoch}
use Rattle.rma_call.specs.declared.epoch.EpochCall.TheVariants.{Fence, Complete, Expwait, Lock, Unlock, UnlockAll}
use Rattle.rma_window.specs.declared.window_id.WindowId.{WindowId}
use Rattle.rma_window.specs.Windows.{Window}
use Rattle.rma_open.specs.declared.opening.EpochKind.{EpochKind}
use Rattle.rma_open.specs.declared.opening.EpochKind.TheVariants as kind
use Rattle.rma_open.specs.declared.opening.FencePhase.{FencePhase}
use Rattle.rma_open.specs.declared.opening.HeldLock.{HeldLock}
use Rattle.rma_open.specs.declared.opening.OpenStart.{OpenStart}
use Rattle.rma_open.specs.declared.opening.Opening.{Opening}
use Rattle.rma_open.specs.Calls.{is_on, past_on, window_on}
use Rattle.rma_open.specs.Open.{is_exclusive, left_by, locked_by, of_fence, of_lock, of_lock_all, of_post, of_start, open_on}
use Rattle.rma_open.specs.Reaching.{by_lock_all, by_phase, by_start, closed_by, opening_in, reaching}
use Rattle.rma_epoch.specs.declared.epoch.Epoch.{Epoch as OneEpoch}
use Rattle.rma_epoch.specs.Table.{close_of, closed_at, epoch_with, epochs_of, index_at, index_in, is_opened_by, opened_from, opening_at, sound_calls}
use Rattle.rma_epoch.specs.Laws.{AccessesLieWithin}
use Rattle.rma_epoch.proofs.CloseLemmas.{closed_as, closed_in}
use Rattle.rma_epoch.proofs.OneLemmas.{epoch_there, prefix_from, reaching_opener}
use Rattle.rma_epoch.proofs.OpenerLemmas.{IsOpener, Opens, all_opener, all_says, fence_left, fence_says, lock_opener, lock_says, phase_opener, post_opener, start_opener, start_says}
use Rattle.rma_epoch.proofs.PastLemmas.{ArePast, IsLatest, are_past, latest}
use Rattle.rma_epoch.proofs.TableLemmas.{closed_below, mapped}

-- ---- calls that say something of what is open

-- the target that a call locks
abbrev locked : What → ℕ
locked what = unwrap_or (locked_by what) 0

-- whether the call of a number opens or closes something of this kind, of which this call opened one
abbrev speaks : EpochKind → What → ℕ → What → Bool
speaks kind.Fence opened n what = is_some (of_fence n what)
speaks kind.Start opened n what = is_some (of_start n what)
speaks kind.LockAll opened n what = is_some (of_lock_all n what)
speaks kind.Post opened n what = is_some (of_post n what)
speaks (kind.Lock exclusive) opened n what = is_some (of_lock (locked opened) n what)

-- what an unlock says of a target, where it is its own
abbrev unlocked : Bool → Option (Option HeldLock)
unlocked own = cond own (Some None) None

-- the target of a lock that is held
locked_there : (t n : ℕ) (what : What) (l : HeldLock) → of_lock t n what ≡ Some (Some l) → locked what ≡ t
locked_there t n (Sync (Epoch (Lock w own lock assertions))) l said = by (nat_eq own.0 t) refl said
  where
    by : (b : Bool) → nat_eq own.0 t ≡ b → cond b (Some (Some (record { opener = n; exclusive = is_exclusive lock }))) None ≡ Some (Some l) → own.0 ≡ t
    by true same said = eqb-true own.0 t same
    by false other said = absurd (none-some (Some l) said)
locked_there t n (Sync (Epoch (Unlock w own))) l said = by (nat_eq own.0 t) said
  where
    by : (b : Bool) → cond b (Some None) None ≡ Some (Some l) → 0 ≡ t
    by true said = absurd (let no : ⊥ = cc in no)
    by false said = absurd (none-some (Some l) said)
locked_there t n _ l said = absurd (none-some (Some l) said)

module _ (calls : List Call) (window : List ℕ) where
  -- after what is left was opened, no call says anything of it
  quiet : {X : Type 0} (says : ℕ → What → Option (Option X)) (x : X) (opener : ℕ) → ((n : ℕ) (what : What) → says n what ≡ Some (Some x) → opener ≡ n) → left_by says (past_on window calls) ≡ Some x
      → (m : ℕ) (call : Call) → opener < m → slice_get calls m ≡ Some call → is_on window call.what ≡ true → says m call.what ≡ None
  quiet {X = X} says x opener number left m call after there on = by (nat_lt at.0 last.place) refl (nat_lt last.place at.0) refl
    where
      last : IsLatest says (past_on window calls) x
      last = latest says (past_on window calls) x left

      past : ArePast window calls (length calls) (past_on window calls)
      past = are_past window calls

      at : (k : ℕ) × (slice_get (past_on window calls) k ≡ Some (m, call.what))
      at = past.complete m call (slice_get_within calls m call there) there on

      is : opener ≡ last.call.0
      is = number last.call.0 last.call.1 last.said

      by : (p : Bool) → nat_lt at.0 last.place ≡ p → (q : Bool) → nat_lt last.place at.0 ≡ q → says m call.what ≡ None
      by true lt q none = last.silent at.0 (m, call.what) (let l : at.0 < last.place = grind (arith, nat_tests) in l) at.1
      by false le true lt = let less = past.descend last.place at.0 last.call (m, call.what) (let l : last.place < at.0 = grind (arith, nat_tests) in l) last.there at.1 in let e = is in absurd (omega (arith, e, less))
      by false le false ge =
          let place : last.place ≡ at.0 = grind (arith, nat_tests) in
          let both : Some last.call ≡ Some (m, call.what) = sym last.there ∙ ap (slice_get (past_on window calls)) place ∙ at.1 in
          let one : last.call ≡ (m, call.what) = cc in
          let two : last.call.0 ≡ m = ap (λ (c : ℕ × What). c.0) one in
          let e = is in
          absurd (omega (arith, e, two))

  -- the call that locked a target
  locker : (t : ℕ) (l : HeldLock) → (open_on calls window).lock_on t ≡ Some l → (opened : Call) → slice_get calls l.opener ≡ Some opened → locked opened.what ≡ t
  locker t l left opened there =
      let last = latest (of_lock t) (past_on window calls) l left in
      let own = (are_past window calls).numbered last.place last.call last.there in
      let n = (lock_says t last.call.0 last.call.1 l last.said).0 in
      let both : Some opened ≡ Some own.0 = sym there ∙ ap (slice_get calls) n ∙ own.1 in
      let one : opened ≡ own.0 = cc in
      ap (λ (c : Call). locked c.what) one ∙ ap locked own.2 ∙ locked_there t last.call.0 last.call.1 l last.said

  -- after what reaches a target was opened, no call closes it
  abbrev IsQuiet : EpochKind → ℕ → Type 0
  IsQuiet k n = (m : ℕ) (call opened : Call) → n < m → slice_get calls m ≡ Some call → is_on window call.what ≡ true → slice_get calls n ≡ Some opened → speaks k opened.what m call.what ≡ false

  reaching_quiet : (target : Rank) (o : Opening) → reaching (open_on calls window) target ≡ Some o → IsQuiet o.kind o.opener
  reaching_quiet target o is = by_lock_or ((open_on calls window).lock_on target.0) refl is
    where
      stated : (k : EpochKind) (n : ℕ) → Some (record { kind = k; opener = n }) ≡ Some o → IsQuiet k n → IsQuiet o.kind o.opener
      stated k n same silent = let one : record { kind = k; opener = n } ≡ o = cc in subst (λ (o : Opening). IsQuiet o.kind o.opener) one silent

      by_phase_or : (p : Option FencePhase) → (open_on calls window).phase ≡ p → option_map (λ (p : FencePhase). record { kind = kind.Fence; opener = p.opener }) p ≡ Some o → IsQuiet o.kind o.opener
      by_phase_or None at is = absurd (none-some o is)
      by_phase_or (Some p) at is = stated kind.Fence p.opener is (λ m call opened after there on found. ap is_some (quiet of_fence p.opener p.opener (λ n what said. (fence_says n what p.opener said).0) (fence_left calls window p at) m call after there on))

      by_start_or : (s : Option OpenStart) → (open_on calls window).start ≡ s
          → option_or (option_and_then (λ (s : OpenStart). cond (has_number target.0 s.targets) (Some (record { kind = kind.Start; opener = s.opener })) None) s) (by_phase (open_on calls window)) ≡ Some o → IsQuiet o.kind o.opener
      by_start_or None at is = by_phase_or (open_on calls window).phase refl is
      by_start_or (Some s) at is = has (has_number target.0 s.targets) is
        where
          has : (b : Bool) → option_or (cond b (Some (record { kind = kind.Start; opener = s.opener })) None) (by_phase (open_on calls window)) ≡ Some o → IsQuiet o.kind o.opener
          has true is = stated kind.Start s.opener is (λ m call opened after there on found. ap is_some (quiet of_start s s.opener (λ n what said. (start_says n what s said).0) at m call after there on))
          has false is = by_phase_or (open_on calls window).phase refl is

      by_all_or : (n : Option ℕ) → (open_on calls window).lock_all ≡ n
          → option_or (option_map (λ opener. record { kind = kind.LockAll; opener = opener }) n) (option_or (by_start (open_on calls window) target) (by_phase (open_on calls window))) ≡ Some o → IsQuiet o.kind o.opener
      by_all_or None at is = by_start_or (open_on calls window).start refl is
      by_all_or (Some n) at is = stated kind.LockAll n is (λ m call opened after there on found. ap is_some (quiet of_lock_all n n (λ k what said. (all_says k what n said).0) at m call after there on))

      by_lock_or : (l : Option HeldLock) → (open_on calls window).lock_on target.0 ≡ l
          → option_or (option_map (λ (l : HeldLock). record { kind = kind.Lock l.exclusive; opener = l.opener }) l) (option_or (by_lock_all (open_on calls window)) (option_or (by_start (open_on calls window) target) (by_phase (open_on calls window)))) ≡ Some o
          → IsQuiet o.kind o.opener
      by_lock_or None at is = by_all_or (open_on calls window).lock_all refl is
      by_lock_or (Some l) at is =
          stated (kind.Lock l.exclusive) l.opener is (λ m call opened after there on found.
          ap (λ t. is_some (of_lock t m call.what)) (locker target.0 l at opened found)
          ∙ ap is_some (quiet (of_lock target.0) l l.opener (λ n what said. (lock_says target.0 n what l said).0) at m call after there on))

  -- what closes something speaks of it
  abbrev Closes : What → ℕ → Type 0
  Closes what n = (k : EpochKind) × IsOpener window calls k n × ((m : ℕ) (opened : Call) → slice_get calls n ≡ Some opened → speaks k opened.what m what ≡ true)

  closed_spoken : (what : What) (n : ℕ) → closed_by (open_on calls window) what ≡ Some n → Closes what n
  closed_spoken (Sync (Epoch (Fence w assertions))) n closes = by (open_on calls window).phase refl closes
    where
      by : (o : Option FencePhase) → (open_on calls window).phase ≡ o → option_map (λ (p : FencePhase). p.opener) o ≡ Some n → Closes (Sync (Epoch (Fence w assertions))) n
      by None is none = absurd (none-some n none)
      by (Some p) is some = (kind.Fence, subst (IsOpener window calls kind.Fence) (let e : p.opener ≡ n = cc in e) (phase_opener calls window p is), λ m opened found. refl)
  closed_spoken (Sync (Epoch (Complete w))) n closes = by (open_on calls window).start refl closes
    where
      by : (o : Option OpenStart) → (open_on calls window).start ≡ o → option_map (λ (s : OpenStart). s.opener) o ≡ Some n → Closes (Sync (Epoch (Complete w))) n
      by None is none = absurd (none-some n none)
      by (Some s) is some = (kind.Start, subst (IsOpener window calls kind.Start) (let e : s.opener ≡ n = cc in e) (start_opener calls window s is), λ m opened found. refl)
  closed_spoken (Sync (Epoch (Unlock w target))) n closes = by ((open_on calls window).lock_on target.0) refl closes
    where
      by : (o : Option HeldLock) → (open_on calls window).lock_on target.0 ≡ o → option_map (λ (l : HeldLock). l.opener) o ≡ Some n → Closes (Sync (Epoch (Unlock w target))) n
      by None is none = absurd (none-some n none)
      by (Some l) is some =
          let e : l.opener ≡ n = cc in (
            kind.Lock l.exclusive,
            subst (IsOpener window calls (kind.Lock l.exclusive)) e (lock_opener calls window target.0 l is),
            λ m opened found.
                let t : locked opened.what ≡ target.0 = locker target.0 l is opened (ap (slice_get calls) e ∙ found) in
                let test : nat_eq target.0 (locked opened.what) ≡ true = grind (arith, nat_tests) in
                ap (λ b. is_some (unlocked b)) test,
          )
  closed_spoken (Sync (Epoch (UnlockAll w))) n closes = (kind.LockAll, all_opener calls window n closes, λ m opened found. refl)
  closed_spoken (Sync (Epoch (Expwait w))) n closes = (kind.Post, post_opener calls window n closes, λ m opened found. refl)
  closed_spoken _ n closes = absurd (none-some n closes)

-- ---- a sound access

-- an access stands in what reaches its target
access_is : (before : List Call) (call : Call) (o : Opening) → opening_at before call ≡ Some o → (access : RmaCall) × (call.what ≡ Rma access) × ((target : Rank) × (reaching (open_on before access.window) target ≡ Some o))
access_is before call o stands = by call.what refl
  where
    nowhere : (w : Option (List ℕ)) → option_and_then {U = Opening} (λ (w : List ℕ). None) w ≡ Some o → ⊥
    nowhere None is = none-some o is
    nowhere (Some w) is = none-some o is

    to : (access : RmaCall) (t : Option Rank) → option_and_then (reaching (open_on before access.window)) t ≡ Some o → (target : Rank) × (reaching (open_on before access.window) target ≡ Some o)
    to access None is = absurd (none-some o is)
    to access (Some t) is = (t, is)

    by : (what : What) → call.what ≡ what → (access : RmaCall) × (call.what ≡ Rma access) × ((target : Rank) × (reaching (open_on before access.window) target ≡ Some o))
    by (Rma access) is = (access, is, to access access.target (sym (ap (λ what. option_and_then (λ w. opening_in (open_on before w) what) (window_on what)) is) ∙ stands))
    by (Sync sync) is = absurd (nowhere (window_on (Sync sync)) (sym (ap (λ what. option_and_then (λ w. opening_in (open_on before w) what) (window_on what)) is) ∙ stands))
    by (Local local) is = absurd (none-some o (sym (ap (λ what. option_and_then (λ w. opening_in (open_on before w) what) (window_on what)) is) ∙ stands))

-- elements of the first part of a list
take_get : {X : Type 0} (xs : List X) (k i : ℕ) (x : X) → slice_get (take k xs) i ≡ Some x → slice_get xs i ≡ Some x
take_get [] zero i x at = at
take_get [] (suc k) i x at = at
take_get (y ∷ ys) zero i x at = absurd (none-some x at)
take_get (y ∷ ys) (suc k) zero x at = at
take_get (y ∷ ys) (suc k) (suc i) x at = take_get ys k i x at

get_take : {X : Type 0} (xs : List X) (k i : ℕ) (x : X) → i < k → slice_get xs i ≡ Some x → slice_get (take k xs) i ≡ Some x
get_take [] k i x lt at = absurd (none-some x at)
get_take (y ∷ ys) zero i x lt at = absurd (omega arith)
get_take (y ∷ ys) (suc k) zero x lt at = at
get_take (y ∷ ys) (suc k) (suc i) x lt at = get_take ys k i x (omega arith) at

-- a call is on one window
one_window : (v w : List ℕ) (what : What) → is_on v what ≡ true → is_on w what ≡ true → v ≡ w
one_window v w what one two = by (window_on what) one two
  where
    by : (o : Option (List ℕ)) → option_map_or (pointwise nat_eq v) o false ≡ true → option_map_or (pointwise nat_eq w) o false ≡ true → v ≡ w
    by None one two = absurd (false≢true one)
    by (Some u) one two = same_text v u (sym one) ∙ sym (same_text w u (sym two))

-- a call opens one kind of epoch
one_kind : (k other : EpochKind) (n : ℕ) (what : What) → Opens k n what → Opens other n what → k ≡ other
one_kind k other n what (a, one) (b, two) =
    let id : WindowId = record { 0 = 0 } in
    let both : Some (record { kind = k; window = id; targets = a; opener = n; close = None }) ≡ Some (record { kind = other; window = id; targets = b; opener = n; close = None }) = sym (one id) ∙ two id in
    ap (λ (o : Option OneEpoch). option_map_or (λ (e : OneEpoch). e.kind) o k) both

module _ (sound : List Call) (number : ℕ) (call : Call) (o : Opening) (there : slice_get sound number ≡ Some call) (stands : opening_at (take number sound) call ≡ Some o) where
  is_access_to : (access : RmaCall) × (call.what ≡ Rma access) × ((target : Rank) × (reaching (open_on (take number sound) access.window) target ≡ Some o))
  is_access_to = access_is (take number sound) call o stands

  opener : IsOpener is_access_to.0.window (take number sound) o.kind o.opener
  opener = reaching_opener (take number sound) is_access_to.0.window is_access_to.2.0 o is_access_to.2.1

  -- what is closed before is not open
  not_before : (close : ℕ) (closing : Call) → slice_get sound close ≡ Some closing → closed_at (take close sound) closing ≡ Some o.opener → close < number → ⊥
  not_before close closing at closes lt = by (window_on closing.what) refl closes
    where
      by : (w : Option (List ℕ)) → window_on closing.what ≡ w → option_and_then (λ window. closed_by (open_on (take close sound) window) closing.what) w ≡ Some o.opener → ⊥
      by None on none = none-some o.opener none
      by (Some w) on some =
          let access = is_access_to in
          let mine = opener in
          let its = closed_spoken (take close sound) w closing.what o.opener some in
          let same : mine.call ≡ its.1.call = (let both : Some mine.call ≡ Some its.1.call = sym (take_get sound number o.opener mine.call mine.there) ∙ take_get sound close o.opener its.1.call its.1.there in cc) in
          let window : access.0.window ≡ w = one_window access.0.window w mine.call.what mine.on (ap (λ (c : Call). is_on w c.what) same ∙ its.1.on) in
          let kind : o.kind ≡ its.0 = one_kind o.kind its.0 o.opener mine.call.what mine.opens (subst (λ (c : Call). Opens its.0 o.opener c.what) (sym same) its.1.opens) in
          let on_it : is_on access.0.window closing.what ≡ true = ap (λ (x : Option (List ℕ)). option_map_or (pointwise nat_eq access.0.window) x false) on ∙ ap (λ v. pointwise nat_eq v w) window ∙ nat_list_eq_equiv.refl w in
          let silent : speaks o.kind mine.call.what close closing.what ≡ false =
          reaching_quiet (take number sound) access.0.window access.2.0 o access.2.1 close closing mine.call
          (let less = closed_below (take close sound) closing o.opener closes in omega (arith, less, length-take close sound)) (get_take sound number close closing lt at) on_it mine.there in
          let spoken : speaks its.0 its.1.call.what close closing.what ≡ true = its.2 close its.1.call its.1.there in
          true≢false (sym spoken ∙ ap (λ (k : EpochKind). speaks k its.1.call.what close closing.what) (sym kind) ∙ ap (λ (c : Call). speaks o.kind c.what close closing.what) (sym same) ∙ silent)

  -- an access closes nothing
  not_itself : (closing : Call) → slice_get sound number ≡ Some closing → closed_at (take number sound) closing ≡ Some o.opener → ⊥
  not_itself closing at closes =
      let same : call ≡ closing = (let both : Some call ≡ Some closing = sym there ∙ at in cc) in
      let what : closing.what ≡ Rma is_access_to.0 = ap (λ (c : Call). c.what) (sym same) ∙ is_access_to.1 in
      none-some o.opener (sym (ap (λ what. option_and_then (λ window. closed_by (open_on (take number sound) window) what) (window_on what)) what) ∙ closes)

  lies : (close : ℕ) → close_of sound o.opener ≡ Some close → number < close
  lies close is = by (nat_lt close number) refl (eqb close number) refl
    where
      found : (closing : Call) × (slice_get sound close ≡ Some closing) × (closed_at (take close sound) closing ≡ Some o.opener)
      found = closed_in sound o.opener close is

      by : (p : Bool) → nat_lt close number ≡ p → (q : Bool) → eqb close number ≡ q → number < close
      by true lt q other = absurd (not_before close found.0 found.1 found.2 (let l : close < number = grind (arith, nat_tests) in l))
      by false le true same =
          let e : close ≡ number = eqb-true close number same in
          absurd (not_itself found.0 (ap (slice_get sound) (sym e) ∙ found.1) (ap (λ k. closed_at (take k sound) found.0) (sym e) ∙ found.2))
      by false le false other = grind (arith, nat_tests)

  comes_after : o.opener < number
  comes_after = let own = opener in let lt = slice_get_within (take number sound) o.opener own.call own.there in omega (arith, lt, length-take number sound)

-- the epoch at an index that is that of an opener
opener_at : (windows : List Window) (sound : List Call) (number index opener : ℕ) (epoch : OneEpoch) → index_in (epochs_of windows (take number sound)) opener ≡ Some index → slice_get (epochs_of windows sound) index ≡ Some epoch → epoch.opener ≡ opener
opener_at windows sound number index opener epoch is there =
    let before = take number sound in
    let at = position-Some (is_opened_by opener) (epochs_of windows before) index epoch is in
    let e = get_or (epochs_of windows before) index epoch in
    let number_is : e.opener ≡ opener = eqb-true e.opener opener at.1 in
    let x = mapped (epoch_with (close_of before)) (opened_from windows 0 before) index e (slice_get-get_or (epochs_of windows before) index epoch at.0) in
    let y = mapped (epoch_with (close_of sound)) (opened_from windows 0 sound) index epoch there in
    let same : y.0 ≡ x.0 = (let both : Some y.0 ≡ Some x.0 = sym y.1 ∙ prefix_from windows 0 sound number index x.0 x.1 in cc) in
    ap (λ (e : OneEpoch). e.opener) (sym y.2) ∙ ap (λ (e : OneEpoch). e.opener) same ∙ ap (λ (e : OneEpoch). e.opener) x.2 ∙ number_is

-- an access comes after the call that opens its epoch, and before the one that closes it
pub lie_within : (windows : List Window) (calls : List Call) → AccessesLieWithin windows calls
lie_within windows calls number index epoch at there = by (slice_get sound number) refl (sym (epoch_there windows sound number) ∙ at)
  where
    sound : List Call
    sound = sound_calls windows calls

    by : (c : Option Call) → slice_get sound number ≡ c → option_and_then (λ call. index_at windows (take number sound) call) c ≡ Some index → (epoch.opener < number) × ((close : ℕ) → epoch.close ≡ Some close → number < close)
    by None none is = absurd (none-some index is)
    by (Some call) found is = stands (opening_at (take number sound) call) refl is
      where
        stands : (x : Option Opening) → opening_at (take number sound) call ≡ x → option_and_then (λ (o : Opening). index_in (epochs_of windows (take number sound)) o.opener) x ≡ Some index
            → (epoch.opener < number) × ((close : ℕ) → epoch.close ≡ Some close → number < close)
        stands None none is = absurd (none-some index is)
        stands (Some o) some is =
            let same = opener_at windows sound number index o.opener epoch is there in (
              subst (λ n. n < number) (sym same) (comes_after sound number call o found some),
              λ close closed. lies sound number call o found some close (ap (close_of sound) (sym same) ∙ closed_as windows sound index epoch close there closed),
            )
