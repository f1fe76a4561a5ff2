-- The typemaps of a table, each over those before it.
use Rattle.std.proofs.Common.{◌≡◌, ℕ, zero, suc, ◌+◌, ◌<◌, ℤ, pos, List, [], ◌∷◌, ◌++◌, map, fold, length, get_or, slice_get, All, Some, true, refl, sym, ap, subst, ◌∙◌, arith}
use Rattle.rma_layout.proofs.Words.{Basic, append-nil, append_assoc, elements, end_of, start_of, moved, typemap_bytes, after_steps, steps_of, steps_in}
use Rattle.rma_layout.proofs.StepLemmas.{steps_bytes}
use Rattle.rma_datatype.specs.declared.make.Make.{Make}
use Rattle.rma_typemap.specs.declared.blocks.Blocks.{Blocks}
use Rattle.rma_typemap.proofs.Words.{blocks_of, make_blocks}
use Rattle.rma_type.specs.Table.{is_derived}
use Rattle.std.proofs.lemmas.Option.{slice_get-get_or}
use Rattle.rma_type.specs.declared.id.TypeId.{TypeId}
use Rattle.rma_type.specs.declared.origin.Origin.{Origin}
use Rattle.rma_type.specs.declared.origin.Origin.TheVariants.{Derived}
use Rattle.rma_type.specs.declared.origin.Origin.TheVariants as origin
use Rattle.rma_type.proofs.Words.{Typemap, ComesAfter, constructed, typemap_in, typemap_of, typemaps, with_typemap, get_or_at, get_or_append_left, length_push}
use Rattle.std.proofs.lemmas.List.Elements.{All-head, All-tail}

-- where a datatype stands among the typemaps
record Stands (all : List Typemap) (o : Origin) (n : ℕ) : Type 0 where
  earlier : List Typemap
  rest : List Typemap
  is : all ≡ earlier ++ typemap_of earlier o ∷ rest
  number : length earlier ≡ n

longer : (maps : List Typemap) (os : List Origin) → (rest : List Typemap) × (fold with_typemap maps os ≡ maps ++ rest)
longer maps [] = ([], sym (append-nil maps))
longer maps (o ∷ os) =
    let later = longer (with_typemap maps o) os in
    (typemap_of maps o ∷ later.0, later.1 ∙ append_assoc maps (typemap_of maps o ∷ []) later.0)

stands_at : (maps : List Typemap) (os : List Origin) (i : ℕ) (o : Origin) → slice_get os i ≡ Some o → Stands (fold with_typemap maps os) o (length maps + i)
stands_at maps [] i o at = absurd (cc)
stands_at maps (x ∷ os) zero o at =
    let later = longer (with_typemap maps x) os in
    let same : x ≡ o = cc in
    record {
      earlier = maps;
      rest = later.0;
      is = later.1 ∙ append_assoc maps (typemap_of maps x ∷ []) later.0 ∙ ap (λ y. maps ++ typemap_of maps y ∷ later.0) same;
      number = omega arith;
    }
stands_at maps (x ∷ os) (suc i) o at =
    let s = stands_at (with_typemap maps x) os i o at in
    record { earlier = s.earlier; rest = s.rest; is = s.is; number = s.number ∙ omega (arith, length_push maps (typemap_of maps x)) }

same_maps : (earlier rest : List Typemap) (olds : List TypeId) → All (λ id. id.0 < length earlier) olds → map (typemap_in earlier) olds ≡ map (typemap_in (earlier ++ rest)) olds
same_maps earlier rest [] h = refl
same_maps earlier rest (id ∷ olds) h =
    let before = All-head (λ (x : TypeId). x.0 < length earlier) id olds h in
    ap (λ m. m ∷ map (typemap_in earlier) olds) (sym (get_or_append_left earlier rest [] id.0 before))
    ∙ ap (λ ms. typemap_in (earlier ++ rest) id ∷ ms) (same_maps earlier rest olds (All-tail (λ (x : TypeId). x.0 < length earlier) id olds h))

kept_typemap : (earlier rest : List Typemap) (o : Origin) → ComesAfter (length earlier) o → typemap_of earlier o ≡ typemap_of (earlier ++ rest) o
kept_typemap earlier rest (origin.Basic b) h = refl
kept_typemap earlier rest (Derived constructor olds) h = ap (constructed constructor) (same_maps earlier rest olds h.1)

-- the typemap of a datatype is that of its constructor over the others
pub typemap_at : (origins : List Origin) (id : TypeId) (o : Origin) → slice_get origins id.0 ≡ Some o → ComesAfter id.0 o → typemap_in (typemaps origins) id ≡ typemap_of (typemaps origins) o
unfolding typemaps
typemap_at origins id o at after =
    let s = stands_at [] origins id.0 o at in
    let n : length s.earlier ≡ id.0 = s.number ∙ omega arith in
    let t = typemap_of s.earlier o in
    ap (λ ms. get_or ms id.0 []) s.is ∙ get_or_at s.earlier t s.rest [] id.0 n
    ∙ kept_typemap s.earlier (t ∷ s.rest) o (subst (λ k. ComesAfter k o) (sym n) after) ∙ ap (λ ms. typemap_of ms o) (sym s.is)

-- all steps of a datatype that a constructor made write its bytes
pub all_steps : (origins : List Origin) (id : TypeId) (constructor : Make) (olds : List TypeId) (by : ℤ) → slice_get origins id.0 ≡ Some (Derived constructor olds) → ComesAfter id.0 (Derived constructor olds) →
    after_steps (typemaps origins) by [] (steps_in origins id) ≡ moved by (typemap_bytes (typemap_in (typemaps origins) id))
unfolding steps_in
all_steps origins id constructor olds by at after =
    ap (λ found. after_steps (typemaps origins) by [] (steps_of (typemaps origins) found)) at
    ∙ steps_bytes (typemaps origins) by constructor olds after.0 ∙ ap (λ m. moved by (typemap_bytes m)) (sym (typemap_at origins id (Derived constructor olds) at after))

-- a datatype whose elements in order are not one block is made by a constructor
module _ (origins : List Origin) (id : TypeId) (within : id.0 < length origins) (basic : Basic)
    (other : (b : Blocks) → blocks_of (elements (typemap_in (typemaps origins) id)) ≡ Some b → b.gaps ≡ 0 → ⊥) where
  by_origin : (o : Origin) → slice_get origins id.0 ≡ Some o → is_derived (Some o) ≡ true
  by_origin (origin.Basic b) at =
      absurd (other (make_blocks 0 (start_of (b, pos 0)) (end_of (b, pos 0))) (ap (λ m. blocks_of (elements m)) (typemap_at origins id (origin.Basic b) at tt)) refl)
  by_origin (Derived constructor olds) at = refl

  pub derived_without_block : is_derived (slice_get origins id.0) ≡ true
  derived_without_block =
      let at = slice_get-get_or origins id.0 (origin.Basic basic) within in
      ap is_derived at ∙ by_origin (get_or origins id.0 (origin.Basic basic)) at
