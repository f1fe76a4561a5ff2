-- Good logs: by which call the use of a buffer is done, and what buffers are.
use Rattle.std.proofs.Common.{◌≡◌, ◌<◌, true≢false, ℕ, suc, ◌+◌, List, [], ◌∷◌, ◌++◌, length, take, All, Bool, true, false, ◌&&◌, ◌==◌, nat_lt, Option, Some, None, is_some, slice_get, option_to_list, refl, sym, ap, ◌∙◌, arith, if◌then◌else◌}
use Rattle.std.specs.Option.{option_and_then, option_map_or}
use Rattle.std.proofs.lemmas.Bool.Decides.{nat_tests}
use Rattle.std.proofs.lemmas.List.{length-take}
use Rattle.std.proofs.lemmas.List.Elements.{All-head, All-tail}
use Rattle.std.proofs.lemmas.Option.{none-some, option_and_then_some, same_Some, slice_get-get_or}
use Rattle.rma_base.specs.declared.rank.Rank.{Rank}
use Rattle.rma_bytes.specs.Layout.{Layout}
use Rattle.rma_call.specs.Call.{Call}
use Rattle.rma_call.specs.declared.what.What.{What}
use Rattle.rma_call.specs.declared.what.What.TheVariants.{Local, Rma, Sync}
use Rattle.rma_call.specs.declared.what.SyncCall.TheVariants as sync
use Rattle.rma_call.specs.declared.message.MessageCall.TheVariants as message
use Rattle.rma_completion.specs.Done.{awaits, earlier, first_after, first_behind, first_from, is_wait, local_completion, wait_of}
use Rattle.rma_completion.specs.Completing.{completes_locally}
use Rattle.rma_cover.specs.Cover.{IsFrom}
use Rattle.rma_epoch.specs.declared.epoch.Epoch.{Epoch}
use Rattle.rma_epoch.specs.Laws.{has_target}
use Rattle.rma_epoch.specs.Table.{epoch_at, epochs_of, placed_of, sound_calls}
use Rattle.rma_epoch.proofs.OneLemmas.{accesses_have_epochs}
use Rattle.rma_epoch.proofs.SoundLemmas.{sound_first}
use Rattle.rma_epoch.proofs.WithinLemmas.{lie_within}
use Rattle.rma_kept.specs.Kept.{AreKept}
use Rattle.rma_kept.specs.Requests.{Awaits, waits}
use Rattle.rma_kept.specs.Touched.{HasCanonicalRuns, buffers_of}
use Rattle.rma_kept.proofs.ListLemmas.{made_once}
use Rattle.rma_open.specs.declared.opening.EpochKind.{EpochKind}
use Rattle.rma_open.specs.declared.opening.EpochKind.TheVariants as kind
use Rattle.rma_touch.specs.Touches.{HasBuffers, IsBuffer}
use Rattle.rma_span.specs.Span.{AreFreedLater, Origin, freeing_call}
use Rattle.rma_span.proofs.AccessLemmas.{taken_in}

-- ---- buffers

first_buffer : (o : Option Layout) (rest : List Layout) → All HasCanonicalRuns (option_to_list o ++ rest) → IsBuffer o × All HasCanonicalRuns rest
first_buffer None rest all = (tt, all)
first_buffer (Some layout) rest all = (All-head HasCanonicalRuns layout rest all, All-tail HasCanonicalRuns layout rest all)

last_buffer : (o : Option Layout) → All HasCanonicalRuns (option_to_list o) → IsBuffer o
last_buffer None all = tt
last_buffer (Some layout) all = All-head HasCanonicalRuns layout [] all

pub has_buffers : (does : What) → All HasCanonicalRuns (buffers_of does) → HasBuffers does
has_buffers (Rma access) all =
    let origin = first_buffer access.origin (option_to_list access.result ++ option_to_list access.compare) all in
    let result = first_buffer access.result (option_to_list access.compare) origin.1 in
    (origin.0, result.0, last_buffer access.compare result.1)
has_buffers (Local access) all = tt
has_buffers (Sync call) all = tt

-- ---- the first call behind another one

from_behind : (test : Call → Bool) (number from : ℕ) (calls : List Call) → IsFrom number (first_behind test number from calls)
from_behind test number from [] = tt
from_behind test number from (call ∷ calls) = by (nat_lt number from) (test call) refl (from_behind test number (from + 1) calls)
  where
    by : (b d : Bool) → nat_lt number from ≡ b → IsFrom number (first_behind test number (from + 1) calls) → IsFrom number (if b && d then Some from else first_behind test number (from + 1) calls)
    by true true h rest = let later : number < from = grind (arith, nat_tests) in omega arith
    by true false h rest = rest
    by false d h rest = rest

from_earlier : (number : ℕ) (a b : Option ℕ) → IsFrom number a → IsFrom number b → IsFrom number (earlier a b)
from_earlier number None b from also = also
from_earlier number (Some n) None from also = from
from_earlier number (Some n) (Some m) from also = omega arith

-- ---- the wait of a request

first_there : (test : Call → Bool) (from : ℕ) (calls : List Call) (w : ℕ) → first_from test from calls ≡ Some w
    → (k : ℕ) × (w ≡ from + k) × (call : Call) × (slice_get calls k ≡ Some call) × (test call ≡ true)
first_there test from [] w e = absurd (none-some w e)
first_there test from (call ∷ calls) w e = by (test call) refl (first_there test (from + 1) calls w)
  where
    by : (b : Bool) → test call ≡ b
        → (first_from test (from + 1) calls ≡ Some w → (k : ℕ) × (w ≡ from + 1 + k) × (c : Call) × (slice_get calls k ≡ Some c) × (test c ≡ true))
        → (k : ℕ) × (w ≡ from + k) × (c : Call) × (slice_get (call ∷ calls) k ≡ Some c) × (test c ≡ true)
    by true h rest = (0, (let same : Some from ≡ Some w = sym (rw h refl) ∙ e in let one : from ≡ w = same_Some from w same in omega arith), call, refl, h)
    by false h rest =
        let (k, at, other, there, meets) = rest (sym (rw h refl) ∙ e) in
        (suc k, omega arith, other, there, meets)

waits_same : (does : What) → is_wait does ≡ waits does
waits_same (Sync (sync.Message (message.Wait received))) = refl
waits_same (Sync (sync.Message (message.Send to tag comm))) = refl
waits_same (Sync (sync.Message (message.Recv from tag comm))) = refl
waits_same (Sync (sync.Message (message.Isend to tag comm))) = refl
waits_same (Sync (sync.Message (message.Irecv comm))) = refl
waits_same (Sync (sync.Frame call)) = refl
waits_same (Sync (sync.Window call)) = refl
waits_same (Sync (sync.Epoch call)) = refl
waits_same (Sync (sync.Moving call)) = refl
waits_same (Rma access) = refl
waits_same (Local access) = refl

-- an access to a target is no wait
no_wait : (does : What) → has_target does ≡ true → waits does ≡ false
no_wait (Rma access) h = refl
no_wait (Local access) h = absurd (true≢false (sym h))
no_wait (Sync call) h = absurd (true≢false (sym h))

both_true : (a b : Bool) → a && b ≡ true → (a ≡ true) × (b ≡ true)
both_true true b h = (refl, h)
both_true false b h = absurd (true≢false (sym h))

is_request : (own : Option ℕ) (request : ℕ) → option_map_or (λ n. n == request) own false ≡ true → own ≡ Some request
is_request None request h = absurd (true≢false (sym h))
is_request (Some n) request h = ap Some (let same : n ≡ request = grind (arith, nat_tests) in same)

module _ (rank logs : ℕ) (calls : List Call) (own : Origin) (kept : AreKept rank logs calls) (is : own.sound ≡ sound_calls own.windows calls) where
  among : (number : ℕ) (call : Call) → slice_get own.sound number ≡ Some call → slice_get calls number ≡ Some call
  among number call there =
      taken_in (length (sound_calls own.windows calls)) number calls call (ap (λ l. slice_get l number) (sym (is ∙ sound_first own.windows calls)) ∙ there)

  wait_later : (number : ℕ) (call : Call) (request : ℕ) → slice_get own.sound number ≡ Some call → has_target call.what ≡ true → call.request ≡ Some request → IsFrom number (wait_of own.sound request)
  wait_later number call request here aims makes = by (wait_of own.sound request) refl
    where
      by : (o : Option ℕ) → wait_of own.sound request ≡ o → IsFrom number o
      by None h = tt
      by (Some w) h =
          let (k, at, other, there, meets) = first_there (awaits request) 0 own.sound w h in
          let parts = both_true (is_wait other.what) (option_map_or (λ n. n == request) other.request false) meets in
          let waiting : Awaits request other = (sym (waits_same other.what) ∙ parts.0, is_request other.request request parts.1) in
          let (made, (j, within, is_made), does) = ((kept k other (among k other there)).request_is_there request waiting).0 in
          let stands : slice_get (take k calls) j ≡ Some made = slice_get-get_or (take k calls) j made within ∙ ap Some is_made in
          let long = length-take k calls in
          let same : number ≡ j = made_once rank logs calls kept number j call made (among number call here) (taken_in k j calls made stands) request (no_wait call.what aims, makes) does in
          omega arith

  waits_later : (number : ℕ) (call : Call) (request : Option ℕ) → slice_get own.sound number ≡ Some call → has_target call.what ≡ true → call.request ≡ request
      → IsFrom number (option_and_then (wait_of own.sound) request)
  waits_later number call None here aims makes = tt
  waits_later number call (Some request) here aims makes = wait_later number call request here aims makes

  completed_later : (number : ℕ) (call : Call) (epoch : Epoch) (target : Rank) → slice_get own.sound number ≡ Some call → has_target call.what ≡ true
      → IsFrom number (local_completion own.windows own.sound epoch.window target call.request number)
  completed_later number call epoch target here aims =
      from_earlier number (first_after (completes_locally own.windows epoch.window target) own.sound number) (option_and_then (wait_of own.sound) call.request)
      (from_behind (completes_locally own.windows epoch.window target) number 0 own.sound)
      (waits_later number call call.request here aims refl)

  closed_later : (number index : ℕ) (epoch : Epoch) → epoch_at (placed_of own.windows own.sound) number ≡ Some index → slice_get (epochs_of own.windows own.sound) index ≡ Some epoch
      → (close : Option ℕ) → epoch.close ≡ close → IsFrom number close
  closed_later number index epoch at there None e = tt
  closed_later number index epoch at there (Some close) e =
      let within = lie_within own.windows calls number index epoch (ap (λ l. epoch_at (placed_of own.windows l) number) (sym is) ∙ at) (ap (λ l. slice_get (epochs_of own.windows l) index) (sym is) ∙ there) in
      let later = within.1 close e in
      omega arith

  freed : (number : ℕ) (call : Call) (epoch : Epoch) (target : Rank) (kind : EpochKind) → IsFrom number epoch.close → IsFrom number (local_completion own.windows own.sound epoch.window target call.request number)
      → IsFrom number (freeing_call kind epoch.close (local_completion own.windows own.sound epoch.window target call.request number))
  freed number call epoch target kind.Fence close done = close
  freed number call epoch target kind.Start close done = done
  freed number call epoch target (kind.Lock exclusive) close done = done
  freed number call epoch target kind.LockAll close done = done
  freed number call epoch target kind.Post close done = done

  pub freed_later : AreFreedLater own
  freed_later number call epoch target here found =
      option_and_then_some (slice_get (epochs_of own.windows own.sound)) (epoch_at (placed_of own.windows own.sound) number) epoch found
      (λ index at there.
      let aims : has_target call.what ≡ true =
      ap (λ o. option_map_or (λ (c : Call). has_target c.what) o false) (sym here ∙ ap (λ l. slice_get l number) is)
      ∙ sym (accesses_have_epochs own.windows calls number)
      ∙ ap is_some (ap (λ l. epoch_at (placed_of own.windows l) number) (sym is) ∙ at) in
      freed number call epoch target epoch.kind (closed_later number index epoch at there epoch.close refl) (completed_later number call epoch target here aims))
