-- The runs of a set of bytes, of which the first stands alone and each other behind a comma.
use Rattle.std.proofs.Common.{◌≡◌, ℕ, ◌+◌, ◌<◌, ◌≤◌, List, [], ◌∷◌, ◌++◌, suc, zero, Some, Ok, Err, Result, length, take, drop, ap, sym, append_assoc, arith}
use Rattle.std.specs.Prelude.{slice_get}
use Rattle.std.specs.List.{flat_map}
use Rattle.std.proofs.lemmas.Option.{none-some, same_Some, get_or_from_slice_get}
use Rattle.rma_io.specs.Sink.{Output}
use Rattle.rma_bytes.specs.declared.run.Run.{Run}
use Rattle.rma_report.specs.ReportText.{range_text, later_range_text, ranges_text}
use Rattle.rma_report.specs.inside.Buffering.{IsBuffered}
use Rattle.rma_report.specs.declared.report.WriteFault.{WriteFault}
use Rattle.rma_report.proofs.BufferLemmas.{passed_more, passed_rest, passed_text}

-- one more behind the first
pub later_more : {X : Type 0} (f : X → List ℕ) (a b c : Output) (held mid left : List ℕ) (xs : List X) (i : ℕ) (x : X) (answer : Result Unit WriteFault) → 1 ≤ i → i < length xs → slice_get xs i ≡ Some x
    → IsBuffered a held (flat_map f (drop 1 (take i xs))) (Ok tt) mid b → IsBuffered b mid (f x) answer left c
    → IsBuffered a held (flat_map f (drop 1 (take (i + 1) xs))) answer left c
later_more f a b c held mid left [] i x answer l h e p q = absurd (omega (arith, h))
later_more f a b c held mid left (y ∷ xs) zero x answer l h e p q = absurd (omega (arith, l))
later_more f a b c held mid left (y ∷ xs) (suc j) x answer l h e p q =
    let next : suc j + 1 ≡ suc (j + 1) = omega arith in
    passed_text _ _ _ _ _ _ _ (ap (λ n. flat_map f (drop 1 (take n (y ∷ xs)))) (sym next))
    (passed_more f a b c held mid left xs j x answer (omega (arith, h)) p
    (passed_text _ _ _ _ _ _ _ (ap f (sym (get_or_from_slice_get xs j x x e))) q))

-- no more of them, since it failed
pub later_rest : {X : Type 0} (f : X → List ℕ) (a c : Output) (held mid left : List ℕ) (xs : List X) (i : ℕ) (e d : WriteFault)
    → IsBuffered a held (flat_map f (drop 1 (take i xs))) (Err e) mid c → IsBuffered a held (flat_map f (drop 1 xs)) (Err d) left c
later_rest f a c held mid left [] zero e d p = passed_rest f a c held mid left [] 0 e d p
later_rest f a c held mid left [] (suc j) e d p = passed_rest f a c held mid left [] 0 e d p
later_rest f a c held mid left (x ∷ xs) zero e d p = passed_rest f a c held mid left xs 0 e d p
later_rest f a c held mid left (x ∷ xs) (suc j) e d p = passed_rest f a c held mid left xs j e d p

-- the first run and those behind it
pub all_ranges : (before after : List ℕ) (runs : List Run) (run : Run) → slice_get runs 0 ≡ Some run
    → (before ++ range_text run) ++ (flat_map later_range_text (drop 1 runs) ++ after) ≡ before ++ ranges_text runs ++ after
all_ranges before after [] run e = absurd (none-some _ e)
all_ranges before after (first ∷ runs) run e = rw (sym (same_Some _ _ e)) (simp append_assoc)
