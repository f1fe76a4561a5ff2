-- What a table keeps of a datatype.
use Rattle.std.proofs.Common.{◌≡◌, ℕ, zero, suc, ◌<◌, ◌≤◌, List, [], ◌∷◌, length, get_or, slice_get, Some, set, inl, inr, ⊎_elim, ◌⊎◌, refl, ap, ◌∙◌, true, slice_index_or}
use Rattle.rma_type.proofs.Words.{element_limit, address_limit, Kept, IsNearby, IsSound, Typemap, signature, HasSignature, IsKept, origins_of, IsTable, Inside, typemaps, length-set, get_or_from_slice_get, slice_get_read}
use Rattle.std.specs.Vec.{with_item}
use Rattle.std.proofs.Math.Seq.{map-set_same}
use Rattle.rma_typemap.proofs.BoundLemmas.{IsSound_summary, entry_count_is}
use Rattle.rma_typemap.proofs.SpaceLemmas.{IsNearby_in_space}

-- an element that indexing gave
pub read_at : {X : Type 0} (xs : List X) (i : ℕ) (x : X) → i < length xs → x ≡ get_or xs i x → slice_get xs i ≡ Some x
read_at xs i x h e = slice_get_read xs (length xs) i x refl h e

pub kept_near : (parts : Typemap) (n : ℕ) (kept : Kept) → IsKept parts n kept.origin kept.summary → IsNearby address_limit kept.summary
kept_near parts n kept h = rw h.summary_is (IsNearby_in_space parts h.in_space)

pub kept_sound : (parts : Typemap) (n : ℕ) (kept : Kept) → IsKept parts n kept.origin kept.summary → IsSound kept.summary
kept_sound parts n kept h = rw h.summary_is (IsSound_summary parts)

pub kept_few : (parts : Typemap) (n : ℕ) (kept : Kept) → IsKept parts n kept.origin kept.summary → kept.summary.entries ≤ element_limit
kept_few parts n kept h = rw (h.summary_is, ← entry_count_is parts) h.few

-- ---- after a write

pub slice_get_set : {X : Type 0} (xs : List X) (i : ℕ) (y : X) (n : ℕ) (z : X) → slice_get (set xs i y) n ≡ Some z → ((n ≡ i) × (z ≡ y)) ⊎ (slice_get xs n ≡ Some z)
slice_get_set [] i y n z h = inr h
slice_get_set (x ∷ xs) zero y zero z h = inl (refl, cc)
slice_get_set (x ∷ xs) zero y (suc n) z h = inr h
slice_get_set (x ∷ xs) (suc i) y zero z h = inr h
slice_get_set (x ∷ xs) (suc i) y (suc n) z h = ⊎_elim (λ p. inl (ap suc p.0, p.1)) (λ q. inr q) (slice_get_set xs i y n z h)

pub origins_of_set : (kept : List Kept) (i : ℕ) (new : Kept) (old : Kept) → slice_get kept i ≡ Some old → new.origin ≡ old.origin → origins_of (set kept i new) ≡ origins_of kept
origins_of_set kept i new old h e = map-set_same (λ (k : Kept). k.origin) kept i new old (rw (get_or_from_slice_get kept i old old h) e)

-- ---- what holds of each datatype

-- something holds of the typemap and the number of each datatype, and of what is kept of it
abbrev pub Each : (Typemap → ℕ → Kept → Type 0) → List Kept → Type 0
Each F items = (n : ℕ) (kept : Kept) → slice_get items n ≡ Some kept → F (slice_index_or (typemaps (origins_of items)) n []) n kept

pub Each_set : (F : Typemap → ℕ → Kept → Type 0) (items : List Kept) (i : ℕ) (old new : Kept) → slice_get items i ≡ Some old → new.origin ≡ old.origin →
    ((parts : Typemap) (n : ℕ) → F parts n old → F parts n new) → Each F items → Each F (set items i new)
Each_set F items i old new at same stays each n kept k =
    rw (origins_of_set items i new old at same)
    (⊎_elim (λ p. rw p.1 (stays _ n (each n old (ap (slice_get items) p.0 ∙ at)))) (λ q. each n kept q) (slice_get_set items i new n kept k))

-- ---- a commit

abbrev pub as_committed : Kept → Kept
as_committed kept = record { origin = kept.origin; committed = true; summary = kept.summary; signature = kept.signature }

pub IsTable_committed : (t : Inside) (i : ℕ) (old : Kept) → IsTable t → slice_get t.types.items i ≡ Some old →
    IsTable (record { types = with_item t.types i (as_committed old); signatures = t.signatures; live = t.live })
IsTable_committed t i old h at =
    let items = t.types.items in
    let long = length-set items i (as_committed old) in
    record {
      each = Each_set (λ parts n kept. IsKept parts n kept.origin kept.summary) items i old (as_committed old) at refl (λ parts n k. k) h.each;
      signed = Each_set (λ parts n kept. HasSignature t.signatures.items (signature parts) kept.signature) items i old (as_committed old) at refl (λ parts n k. k) h.signed;
      ids = λ name id k. rw long (h.ids name id k);
      small = rw long h.small;
    }
