-- Runs, by the bytes that they have.
use Rattle.std.proofs.Common.{◌≡◌, ℕ, ◌≤◌, ◌^◌, ℤ, pos, ◌+ℤ◌, List, [], ◌∷◌, ◌++◌, flat_map, length, sum_by, ◌⊎◌, inl, inr, ⊎_elim, ◌↔◌, refl, sym, ap, subst, ◌∙◌, arith}
use Rattle.std.specs.Prelude.{◌≤ℤ◌, ◌<ℤ◌, ◌-ℤ◌}
use Rattle.rma_layout.specs.inside.Bytes.{IsAmong, Repeats}
use Rattle.rma_layout.proofs.Words.{ints, span, bytes_of, length-append}
use Rattle.rma_layout.proofs.BytesLemmas.{length_span, bytes_of_nil}
use Rattle.rma_layout.proofs.AmongLemmas.{among_append, among_span, span_once}
use Rattle.rma_typemap.proofs.Words.{sum_by-cons}
use Rattle.rma_bytes.specs.declared.run.Run.{Run}
use Rattle.rma_bytes.specs.Runs.{end_of, IsByteOf, HasByte, BeginsAfter, IsCanonical}
use Rattle.rma_bytes.proofs.RunLemmas.{byte_after}

abbrev pub lengths : List Run → ℕ
lengths runs = sum_by (λ (r : Run). r.len) runs

-- the bytes of runs, one after another
abbrev pub bytes_of_runs : List Run → List ℤ
bytes_of_runs runs = flat_map (λ (r : Run). span r.start r.len) runs

pub length_of_runs : (runs : List Run) → length (bytes_of_runs runs) ≡ lengths runs
length_of_runs [] = refl
length_of_runs (r ∷ runs) =
    length-append (span r.start r.len) (bytes_of_runs runs) ∙ omega (arith, length_span r.start r.len, length_of_runs runs, sum_by-cons (λ (x : Run). x.len) r runs)

pub among_runs : (runs : List Run) (b : ℤ) → IsAmong (bytes_of_runs runs) b ↔ HasByte runs b
among_runs [] b = (λ h. h, λ h. h)
among_runs (r ∷ runs) b =
    let both = among_append (span r.start r.len) (bytes_of_runs runs) b in
    let here = among_span r.start r.len b in
    let rest = among_runs runs b in
    (λ h. ⊎_elim (λ p. inl (here.0 p)) (λ q. inr (rest.0 q)) (both.0 h), λ h. both.1 (⊎_elim (λ p. inl (here.1 p)) (λ q. inr (rest.1 q)) h))

-- no byte of a canonical list stands twice
pub runs_once : (runs : List Run) → IsCanonical runs → Repeats (bytes_of_runs runs) → ⊥
runs_once [] good h = h
runs_once (r ∷ runs) good h =
    ⊎_elim
    (λ p.
    let here = (among_span r.start r.len p.0).0 p.1 in
    let high = here.1 in
    let beyond = byte_after (end_of r) runs p.0 good.2 good.3 ((among_runs runs p.0).0 p.2) in
    omega (arith, ints))
    (λ q. runs_once runs good.3 q)
    ((span_once r.start r.len (bytes_of_runs runs)).0 h)

-- the bytes of a canonical list are not more than the bounds have
room_after : (e : ℤ) (runs : List Run) → e ≤ℤ pos (2 ^ 49) → BeginsAfter e runs → IsCanonical runs → pos (lengths runs) ≤ℤ (pos (2 ^ 49) -ℤ e)
room_after e [] within after good = omega (arith, ints)
room_after e (r ∷ runs) within after good =
    let high = good.0.1 in
    let rest = room_after (end_of r) runs high good.2 good.3 in
    let all = sum_by-cons (λ (x : Run). x.len) r runs in
    omega (arith, ints)

pub few_bytes : (runs : List Run) → IsCanonical runs → lengths runs ≤ 2 ^ 50
few_bytes [] good = omega arith
few_bytes (r ∷ runs) good =
    let low = good.0.0 in
    let high = good.0.1 in
    let rest = room_after (end_of r) runs high good.2 good.3 in
    let all = sum_by-cons (λ (x : Run). x.len) r runs in
    omega (arith, ints)

pub has_byte_push : (runs : List Run) (run : Run) (b : ℤ) → HasByte (runs ++ run ∷ []) b ↔ (HasByte runs b ⊎ IsByteOf run b)
has_byte_push [] run b = grind arith
has_byte_push (x ∷ xs) run b = let rest = has_byte_push xs run b in grind arith

pub no_run_more : (runs : List Run) (at : ℤ) (n : ℕ) → n ≡ 0 → (b : ℤ) → HasByte runs b ↔ (HasByte runs b ⊎ IsAmong (span at n) b)
no_run_more runs at n none b =
    let here = among_span at n b in
    (λ h. inl h, λ h. ⊎_elim (λ p. p) (λ q. let r = here.0 q in let low = r.0 in let high = r.1 in absurd (omega (arith, ints))) h)

pub run_more : (old new : List Run) (run : Run) (at : ℤ) (n : ℕ) → new ≡ old ++ run ∷ [] → run.start ≡ at → run.len ≡ n → (b : ℤ) → HasByte new b ↔ (HasByte old b ⊎ IsAmong (span at n) b)
run_more old new run at n is start len b =
    let both = subst (λ rs. HasByte rs b ↔ (HasByte old b ⊎ IsByteOf run b)) (sym is) (has_byte_push old run b) in
    let here = subst (λ k. IsAmong (span at k) b ↔ ((at ≤ℤ b) × (b <ℤ (at +ℤ pos k)))) (sym len) (among_span at n b) in
    let there = subst (λ x. IsAmong (span x run.len) b ↔ ((x ≤ℤ b) × (b <ℤ (x +ℤ pos run.len)))) (sym start) (among_span at run.len b) in
    let same = ap (λ k. span at k) len in (
      λ h. ⊎_elim (λ p. inl p) (λ q. inr (subst (λ xs. IsAmong xs b) (ap (λ x. span x run.len) start ∙ same) (there.1 q))) (both.0 h),
      λ h. both.1 (⊎_elim (λ p. inl p) (λ q. inr (there.0 (subst (λ xs. IsAmong xs b) (sym (ap (λ x. span x run.len) start ∙ same)) q))) h),
    )

-- the runs of one block more
pub more_runs : (old new : List Run) (before after here : List ℤ) → after ≡ before ++ here → ((b : ℤ) → HasByte old b ↔ IsAmong before b) → ((b : ℤ) → HasByte new b ↔ (HasByte old b ⊎ IsAmong here b))
    → (b : ℤ) → HasByte new b ↔ IsAmong after b
more_runs old new before after here is done more b =
    let both = subst (λ xs. IsAmong xs b ↔ (IsAmong before b ⊎ IsAmong here b)) (sym is) (among_append before here b) in
    let one = done b in
    let two = more b in
    (λ h. both.1 (⊎_elim (λ p. inl (one.0 p)) (λ q. inr q) (two.0 h)), λ h. two.1 (⊎_elim (λ p. inl (one.1 p)) (λ q. inr q) (both.0 h)))

pub no_runs : (runs : List Run) → runs ≡ [] → (b : ℤ) → HasByte runs b ↔ IsAmong (bytes_of []) b
no_runs runs none b = subst (λ rs. HasByte rs b ↔ IsAmong (bytes_of []) b) (sym none) (subst (λ xs. HasByte [] b ↔ IsAmong xs b) (sym bytes_of_nil) (λ h. h, λ h. h))
