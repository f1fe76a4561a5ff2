-- The calls that opened what is open on a window.
use Rattle.std.proofs.Common.{◌≡◌, ℕ, Bool, true, false, cond, List, nat_eq, Option, Some, None, slice_get, refl, sym, ap, subst, ◌∙◌}
use Rattle.std.specs.Prelude.{option_map}
use Rattle.std.specs.Option.{option_and_then}
use Rattle.std.proofs.lemmas.Option.{none-some}
use Rattle.rma_call.specs.Call.{Call}
use Rattle.rma_call.specs.declared.what.What.{What}
use Rattle.rma_call.specs.declared.what.What.TheVariants.{Sync}
use Rattle.rma_call.specs.declared.what.SyncCall.TheVariants.{Epoch}
use Rattle.rma_call.specs.declared.epoch.EpochCall.TheVariants.{Fence, Post, Start, Complete, Expwait, Lock, Unlock, LockAll, UnlockAll}
use Rattle.rma_window.specs.declared.window_id.WindowId.{WindowId}
use Rattle.rma_open.specs.declared.opening.EpochKind.{EpochKind}
use Rattle.rma_open.specs.declared.opening.EpochKind.TheVariants as kind
use Rattle.rma_open.specs.declared.opening.FencePhase.{FencePhase}
use Rattle.rma_open.specs.declared.opening.HeldLock.{HeldLock}
use Rattle.rma_open.specs.declared.opening.OpenStart.{OpenStart}
use Rattle.rma_open.specs.Calls.{is_on, past_on}
use Rattle.rma_open.specs.Open.{first_use, is_exclusive, left_by, of_fence, of_lock, of_lock_all, of_post, of_start, open_on, phase_of}
use Rattle.rma_open.specs.Reaching.{closed_by}
use Rattle.rma_epoch.specs.declared.epoch.Targets.{Targets}
use Rattle.rma_epoch.specs.declared.epoch.Targets.TheVariants as targets
use Rattle.rma_epoch.specs.Table.{opened_on}
use Rattle.rma_epoch.proofs.PastLemmas.{are_past, latest}

-- the call of a number opens an epoch of this kind
abbrev pub Opens : EpochKind → ℕ → What → Type 0
Opens kind n what = (targets : Targets) × ((id : WindowId) → opened_on n what id ≡ Some (record { kind = kind; window = id; targets = targets; opener = n; close = None }))

-- the call of a number among these is on a window, and opens an epoch of this kind there
pub record IsOpener (window : List ℕ) (calls : List Call) (kind : EpochKind) (n : ℕ) : Type 0 where
  pub call : Call
  pub there : slice_get calls n ≡ Some call
  pub on : is_on window call.what ≡ true
  pub opens : Opens kind n call.what

-- ---- what a call says that opens something

pub start_says : (n : ℕ) (what : What) (s : OpenStart) → of_start n what ≡ Some (Some s) → (s.opener ≡ n) × Opens kind.Start n what
start_says n (Sync (Epoch (Start w group assertions))) s said = (let same : record { opener = n; targets = group } ≡ s = cc in ap (λ (s : OpenStart). s.opener) (sym same), (targets.Group group, λ id. refl))
start_says n (Sync (Epoch (Complete w))) s said = absurd (let no : ⊥ = cc in no)
start_says n _ s said = absurd (none-some (Some s) said)

post_says : (n : ℕ) (what : What) (m : ℕ) → of_post n what ≡ Some (Some m) → (m ≡ n) × Opens kind.Post n what
post_says n (Sync (Epoch (Post w group assertions))) m said = (let same : n ≡ m = cc in sym same, (targets.Group group, λ id. refl))
post_says n (Sync (Epoch (Expwait w))) m said = absurd (let no : ⊥ = cc in no)
post_says n _ m said = absurd (none-some (Some m) said)

pub all_says : (n : ℕ) (what : What) (m : ℕ) → of_lock_all n what ≡ Some (Some m) → (m ≡ n) × Opens kind.LockAll n what
all_says n (Sync (Epoch (LockAll w assertions))) m said = (let same : n ≡ m = cc in sym same, (targets.All, λ id. refl))
all_says n (Sync (Epoch (UnlockAll w))) m said = absurd (let no : ⊥ = cc in no)
all_says n _ m said = absurd (none-some (Some m) said)

pub fence_says : (n : ℕ) (what : What) (m : ℕ) → of_fence n what ≡ Some (Some m) → (m ≡ n) × Opens kind.Fence n what
fence_says n (Sync (Epoch (Fence w assertions))) m said = by assertions.nosucceed refl said
  where
    by : (b : Bool) → assertions.nosucceed ≡ b → Some (cond b None (Some n)) ≡ Some (Some m) → (m ≡ n) × Opens kind.Fence n (Sync (Epoch (Fence w assertions)))
    by true is said = absurd (let no : ⊥ = cc in no)
    by false is said = (let same : n ≡ m = cc in sym same, (targets.All, λ id. rw is refl))
fence_says n _ m said = absurd (none-some (Some m) said)

pub lock_says : (t n : ℕ) (what : What) (l : HeldLock) → of_lock t n what ≡ Some (Some l) → (l.opener ≡ n) × Opens (kind.Lock l.exclusive) n what
lock_says t n (Sync (Epoch (Lock w own lock assertions))) l said = by (nat_eq own.0 t) said
  where
    by : (b : Bool) → cond b (Some (Some (record { opener = n; exclusive = is_exclusive lock }))) None ≡ Some (Some l) → (l.opener ≡ n) × Opens (kind.Lock l.exclusive) n (Sync (Epoch (Lock w own lock assertions)))
    by true said =
        let same : record { opener = n; exclusive = is_exclusive lock } ≡ l = cc in
        subst (λ (l : HeldLock). (l.opener ≡ n) × Opens (kind.Lock l.exclusive) n (Sync (Epoch (Lock w own lock assertions)))) same (refl, (targets.One own, λ id. refl))
    by false said = absurd (none-some (Some l) said)
lock_says t n (Sync (Epoch (Unlock w own))) l said = by (nat_eq own.0 t) said
  where
    by : (b : Bool) → cond b (Some None) None ≡ Some (Some l) → (l.opener ≡ n) × Opens (kind.Lock l.exclusive) n (Sync (Epoch (Unlock w own)))
    by true said = absurd (let no : ⊥ = cc in no)
    by false said = absurd (none-some (Some l) said)
lock_says t n _ l said = absurd (none-some (Some l) said)

-- ---- what is open

module _ (calls : List Call) (window : List ℕ) where
  -- the call that said it is among the calls
  pub said_by : {X : Type 0} (says : ℕ → What → Option (Option X)) (x : X) (k : EpochKind) (opener : ℕ) → ((n : ℕ) (what : What) → says n what ≡ Some (Some x) → (opener ≡ n) × Opens k n what)
      → left_by says (past_on window calls) ≡ Some x → IsOpener window calls k opener
  said_by says x k opener opens left =
      let last = latest says (past_on window calls) x left in
      let own = (are_past window calls).numbered last.place last.call last.there in
      let is = opens last.call.0 last.call.1 last.said in
      record {
        call = own.0;
        there = ap (slice_get calls) is.0 ∙ own.1;
        on = ap (is_on window) own.2 ∙ own.3;
        opens = subst (λ n. Opens k n own.0.what) (sym is.0) (subst (Opens k last.call.0) (sym own.2) is.1);
      }

  pub start_opener : (s : OpenStart) → (open_on calls window).start ≡ Some s → IsOpener window calls kind.Start s.opener
  start_opener s left = said_by of_start s kind.Start s.opener (λ n what said. start_says n what s said) left

  pub post_opener : (m : ℕ) → (open_on calls window).post ≡ Some m → IsOpener window calls kind.Post m
  post_opener m left = said_by of_post m kind.Post m (λ n what said. post_says n what m said) left

  pub all_opener : (m : ℕ) → (open_on calls window).lock_all ≡ Some m → IsOpener window calls kind.LockAll m
  all_opener m left = said_by of_lock_all m kind.LockAll m (λ n what said. all_says n what m said) left

  pub lock_opener : (t : ℕ) (l : HeldLock) → (open_on calls window).lock_on t ≡ Some l → IsOpener window calls (kind.Lock l.exclusive) l.opener
  lock_opener t l left = said_by (of_lock t) l (kind.Lock l.exclusive) l.opener (λ n what said. lock_says t n what l said) left

  -- the fence of a phase
  pub fence_left : (p : FencePhase) → (open_on calls window).phase ≡ Some p → left_by of_fence (past_on window calls) ≡ Some p.opener
  fence_left p is = by (first_use (past_on window calls)) (left_by of_fence (past_on window calls)) is
    where
      by : (u : Option Bool) (o : Option ℕ) → option_and_then (phase_of u) o ≡ Some p → o ≡ Some p.opener
      by u None is = absurd (none-some p is)
      by None (Some n) is = let same : record { opener = n; used = false } ≡ p = cc in ap (λ (p : FencePhase). Some p.opener) same
      by (Some true) (Some n) is = let same : record { opener = n; used = true } ≡ p = cc in ap (λ (p : FencePhase). Some p.opener) same
      by (Some false) (Some n) is = absurd (none-some p is)

  pub phase_opener : (p : FencePhase) → (open_on calls window).phase ≡ Some p → IsOpener window calls kind.Fence p.opener
  phase_opener p is = said_by of_fence p.opener kind.Fence p.opener (λ n what said. fence_says n what p.opener said) (fence_left p is)

  -- ---- what a call closes

  -- what is closed was opened by one of the calls
  pub closed_opener : (what : What) (n : ℕ) → closed_by (open_on calls window) what ≡ Some n → (k : EpochKind) × IsOpener window calls k n
  closed_opener (Sync (Epoch (Fence w assertions))) n closes = by (open_on calls window).phase refl closes
    where
      by : (o : Option FencePhase) → (open_on calls window).phase ≡ o → option_map (λ (p : FencePhase). p.opener) o ≡ Some n → (k : EpochKind) × IsOpener window calls k n
      by None is none = absurd (none-some n none)
      by (Some p) is some = (kind.Fence, subst (IsOpener window calls kind.Fence) (let e : p.opener ≡ n = cc in e) (phase_opener p is))
  closed_opener (Sync (Epoch (Complete w))) n closes = by (open_on calls window).start refl closes
    where
      by : (o : Option OpenStart) → (open_on calls window).start ≡ o → option_map (λ (s : OpenStart). s.opener) o ≡ Some n → (k : EpochKind) × IsOpener window calls k n
      by None is none = absurd (none-some n none)
      by (Some s) is some = (kind.Start, subst (IsOpener window calls kind.Start) (let e : s.opener ≡ n = cc in e) (start_opener s is))
  closed_opener (Sync (Epoch (Unlock w target))) n closes = by ((open_on calls window).lock_on target.0) refl closes
    where
      by : (o : Option HeldLock) → (open_on calls window).lock_on target.0 ≡ o → option_map (λ (l : HeldLock). l.opener) o ≡ Some n → (k : EpochKind) × IsOpener window calls k n
      by None is none = absurd (none-some n none)
      by (Some l) is some = (kind.Lock l.exclusive, subst (IsOpener window calls (kind.Lock l.exclusive)) (let e : l.opener ≡ n = cc in e) (lock_opener target.0 l is))
  closed_opener (Sync (Epoch (UnlockAll w))) n closes = (kind.LockAll, all_opener n closes)
  closed_opener (Sync (Epoch (Expwait w))) n closes = (kind.Post, post_opener n closes)
  closed_opener _ n closes = absurd (none-some n closes)
