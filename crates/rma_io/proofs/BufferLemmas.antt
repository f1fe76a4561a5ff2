-- What a buffer keeps of the bytes passed on to it.
use Rattle.std.proofs.Common.{◌≡◌, ℕ, ◌+◌, ◌-◌, ◌<◌, ◌≤◌, ◌^◌, List, ◌++◌, length, min, take, drop, refl, sym, subst, arith, rules}
use Rattle.std.specs.Prelude.{nat_le, Some, None, Result, Ok, Err, true, false, Bool, cond}
use Rattle.std.proofs.lemmas.Bool.{false≢true, leb-true, le-leb}
use Rattle.rma_io.proofs.CountLemmas.{Rose_raised}
use Rattle.rma_io.specs.Count.{raised}
use Rattle.rma_io.specs.Known.{StillKnown}
use Rattle.rma_io.specs.Buffer.{Buffer, IsBuffer, after_passing}
use Rattle.rma_io.specs.Sink.{IsPut, AppendsPrefixOf}
use Rattle.rma_io.specs.SureSink as sure
use Rattle.rma_io.specs.MemorySink as memory
use Rattle.rma_io.specs.MemorySink.{MemoryOutput, IsMemoryPut}
use Rattle.rma_io.specs.declared.source.Failed.{Failed}
use Rattle.std.proofs.lemmas.List.{take-append-drop, places, same_lists, take_all, length-append}

-- the prefix of a list that reaches past a first part
take_append_past : (n : ℕ) (xs ys : List ℕ) → length xs ≤ n → take n (xs ++ ys) ≡ xs ++ take (n - length xs) ys
take_append_past n xs ys h =
    same_lists _ _ (search (rules, places)) (λ k d l. grind (arith, places))

-- a buffer with n bytes of its room filled keeps the first of the bytes passed on
pub take_filled : (room piece : List ℕ) (filled fitting passed now : ℕ)
    → filled ≡ min passed (length room) → fitting ≡ min (length piece) (length room - filled)
    → now ≡ min (passed + length piece) (2 ^ 64 - 1) → length room < 2 ^ 64
    → take now (take filled room ++ (take fitting piece ++ drop (filled + fitting) room)) ≡ take (length room) (take passed room ++ piece)
take_filled room piece filled fitting passed now f g n h =
    same_lists _ _ (search (rules, places)) (λ k d l. grind (arith, places))

-- what is known of a buffer was known before a piece was passed on to it, and the piece stands after it
known_passed : (buffer : Buffer) (piece : List ℕ) → IsBuffer buffer → nat_le (raised buffer.passed (length piece)) buffer.size ≡ true
    → (nat_le buffer.passed buffer.size ≡ true) × (take buffer.size (buffer.kept ++ piece) ≡ buffer.kept ++ piece)
known_passed buffer piece is_buffer t =
    let fits = is_buffer.fits in
    let small = is_buffer.small in
    let l = leb-true (raised buffer.passed (length piece)) buffer.size t in
    let n = length-append buffer.kept piece in
    (le-leb buffer.passed buffer.size (omega arith), take_all buffer.size (buffer.kept ++ piece) (omega arith))

still_known : (P : List ℕ → List ℕ → Type 0) (p q : Bool) (before after : List ℕ)
    → (q ≡ true → (p ≡ true) × P before after)
    → StillKnown P (cond p (Some before) None) (cond q (Some after) None)
still_known P true true before after h = (h refl).1
still_known P true false before after h = tt
still_known P false true before after h = absurd (false≢true (h refl).0)
still_known P false false before after h = tt

-- a put that passes the whole piece on to the buffer
pub IsPut_sure : (buffer : Buffer) (piece : List ℕ) → IsBuffer buffer
    → IsPut (sure.output_of buffer) piece (Ok tt) (sure.output_of (after_passing piece buffer))
IsPut_sure buffer piece is_buffer = record {
  written = still_known (λ before after. after ≡ before ++ piece) _ _ _ _ (known_passed buffer piece is_buffer);
  never_falls = omega arith;
  failed = tt;
}

-- a put that may fail
pub IsPut_memory : (old : MemoryOutput) (piece : List ℕ) (answer : Result Unit Failed) (new : MemoryOutput)
    → IsBuffer old.buffer → old.faults < 2 ^ 64 → IsMemoryPut old piece answer new
    → IsPut (memory.output_of old) piece answer (memory.output_of new)
IsPut_memory old piece (Ok x) new is_buffer small h =
    subst (λ (m : MemoryOutput). IsPut (memory.output_of old) piece (Ok x) (memory.output_of m)) (sym h.1)
    (record {
      written = still_known (λ before after. after ≡ before ++ piece) _ _ _ _ (known_passed old.buffer piece is_buffer);
      never_falls = omega arith;
      failed = tt;
    })
IsPut_memory old piece (Err e) new is_buffer small h =
    subst (λ (m : MemoryOutput). IsPut (memory.output_of old) piece (Err e) (memory.output_of m)) (sym h.2)
    (record {
      written = still_known (AppendsPrefixOf piece) _ _ _ _ (λ t.
          let known = known_passed old.buffer (take h.0 piece) is_buffer t in
          (known.0, (take h.0 piece, drop h.0 piece, sym (take-append-drop h.0 piece), known.1)));
      never_falls = omega arith;
      failed = Rose_raised old.faults small;
    })
