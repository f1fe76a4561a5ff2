-- A datatype more in a table.
use Rattle.std.proofs.Common.{◌≡◌, ℕ, zero, suc, ◌<◌, ◌^◌, ◌+◌, List, [], ◌∷◌, ◌++◌, fold, length, slice_get, Some, inl, inr, ⊎_elim, ◌⊎◌, refl, sym, ap, ◌∙◌, arith}
use Rattle.rma_type.proofs.Words.{length-map, map-append, get_or_append_left, get_or_at, length_push, fold_push, Basic, signature, SigRun, TypeId, HasSignature, Kept, Inside, Origin, Typemap, typemaps, typemap_of, with_typemap, id_of, IsKept, IsTable, origins_of}
use Rattle.std.specs.Prelude.{Vec}
use Rattle.std.specs.declared.alloc.Global.{Global}
use Rattle.rma_type.proofs.TableLemmas.{Each}

abbrev Live : Type 0
Live = List (List ℕ × TypeId)

abbrev AllWithin : List Kept → Live → Type 0
AllWithin items live = (name : List ℕ) (id : TypeId) → id_of live name ≡ Some id → id.0 < length items

abbrev Signatures : Type 0
Signatures = List (Vec SigRun Global)

-- each signature has its number in others too
abbrev pub StayIn : Signatures → Signatures → Type 0
StayIn old new = (i : ℕ) (runs : Vec SigRun Global) → slice_get old i ≡ Some runs → slice_get new i ≡ Some runs

pub stay_same : (old new : Signatures) → new ≡ old → StayIn old new
stay_same old new e i runs at = ap (λ xs. slice_get xs i) e ∙ at

slice_get_append : {X : Type 0} (xs ys : List X) (i : ℕ) (z : X) → slice_get xs i ≡ Some z → slice_get (xs ++ ys) i ≡ Some z
slice_get_append [] ys i z at = absurd (cc)
slice_get_append (x ∷ xs) ys zero z at = at
slice_get_append (x ∷ xs) ys (suc i) z at = slice_get_append xs ys i z at

pub stay_push : (old new : Signatures) (runs : Vec SigRun Global) → new ≡ old ++ runs ∷ [] → StayIn old new
stay_push old new runs e i other at = ap (λ xs. slice_get xs i) e ∙ slice_get_append old (runs ∷ []) i other at

pub HasSignature_stays : (old new : Signatures) (basics : List Basic) (i : ℕ) → StayIn old new → HasSignature old basics i → HasSignature new basics i
HasSignature_stays old new basics i stay h = record { runs = h.runs; at = stay i h.runs h.at; represents = h.represents }

pub IsTable_same : (t u : Inside) → u.types.items ≡ t.types.items → u.live.entries ≡ t.live.entries → StayIn t.signatures.items u.signatures.items → IsTable t → IsTable u
IsTable_same t u e f stay h = record {
  each = rw e h.each;
  signed = rw e (λ n kept at. HasSignature_stays t.signatures.items u.signatures.items _ kept.signature stay (h.signed n kept at));
  ids = rw (e, f) h.ids;
  small = rw e h.small;
}

length_typemaps_from : (maps : List Typemap) (os : List Origin) → length (fold with_typemap maps os) ≡ length maps + length os
length_typemaps_from maps [] = omega arith
length_typemaps_from maps (o ∷ os) = length_typemaps_from (with_typemap maps o) os ∙ omega (arith, length_push maps (typemap_of maps o))

length_typemaps : (os : List Origin) → length (typemaps os) ≡ length os
unfolding typemaps
length_typemaps os = length_typemaps_from [] os ∙ omega arith

pub typemaps_push : (os : List Origin) (o : Origin) → typemaps (os ++ o ∷ []) ≡ typemaps os ++ typemap_of (typemaps os) o ∷ []
unfolding typemaps
typemaps_push os o = fold_push with_typemap [] os o

slice_get_push : {X : Type 0} (xs : List X) (y : X) (n : ℕ) (z : X) → slice_get (xs ++ y ∷ []) n ≡ Some z → ((n < length xs) × (slice_get xs n ≡ Some z)) ⊎ ((n ≡ length xs) × (z ≡ y))
slice_get_push [] y zero z h = inr (refl, cc)
slice_get_push [] y (suc n) z h = absurd (cc)
slice_get_push (x ∷ xs) y zero z h = inl (omega arith, h)
slice_get_push (x ∷ xs) y (suc n) z h = ⊎_elim (λ p. let lt = p.0 in inl (omega arith, p.1)) (λ q. inr (ap suc q.0, q.1)) (slice_get_push xs y n z h)

Each_push : (F : Typemap → ℕ → Kept → Type 0) (items : List Kept) (kept : Kept) → F (typemap_of (typemaps (origins_of items)) kept.origin) (length items) kept → Each F items → Each F (items ++ kept ∷ [])
Each_push F items kept new each n k at =
    let os = origins_of items in
    let count = length-map items (λ (x : Kept). x.origin) in
    let maps = length_typemaps os in
    let pushed : origins_of (items ++ kept ∷ []) ≡ os ++ kept.origin ∷ [] = map-append (λ (x : Kept). x.origin) items (kept ∷ []) in
    rw (pushed, typemaps_push os kept.origin)
    (⊎_elim
    (λ p. let within = p.0 in rw (get_or_append_left (typemaps os) (typemap_of (typemaps os) kept.origin ∷ []) [] n (omega arith)) (each n k p.1))
    (λ q. rw (get_or_at (typemaps os) (typemap_of (typemaps os) kept.origin) [] [] n (maps ∙ count ∙ sym q.0), q.0, q.1) new)
    (slice_get_push items kept n k at))

pub IsTable_added : (t u : Inside) (kept : Kept) (id : TypeId) → IsTable t → length t.types.items + 1 < 2 ^ 32 →
    u.types.items ≡ t.types.items ++ kept ∷ [] → id.0 ≡ length t.types.items →
    ((name : List ℕ) (other : TypeId) → id_of u.live.entries name ≡ Some other → (other ≡ id) ⊎ (id_of t.live.entries name ≡ Some other)) →
    IsKept (typemap_of (typemaps (origins_of t.types.items)) kept.origin) (length t.types.items) kept.origin kept.summary →
    StayIn t.signatures.items u.signatures.items →
    HasSignature u.signatures.items (signature (typemap_of (typemaps (origins_of t.types.items)) kept.origin)) kept.signature →
    IsTable u
IsTable_added t u kept id h room e number live new stay signed =
    let items = t.types.items in
    let long = ap length e ∙ length_push items kept in
    let F : Typemap → ℕ → Kept → Type 0 = λ parts n k. IsKept parts n k.origin k.summary in
    let G : Typemap → ℕ → Kept → Type 0 = λ parts n k. HasSignature u.signatures.items (signature parts) k.signature in
    let before : Each G items = λ n k at. HasSignature_stays t.signatures.items u.signatures.items _ k.signature stay (h.signed n k at) in
    record {
      each = rw e (Each_push F items kept new h.each);
      signed = rw e (Each_push G items kept signed before);
      ids = λ name other at. ⊎_elim (λ p. let n = ap (λ (i : TypeId). i.0) p in omega arith) (λ q. let lt = h.ids name other q in omega arith) (live name other at);
      small = omega arith;
    }
