-- A layout that came before, moved to another address.
use Rattle.std.proofs.Common.{◌≡◌, ℕ, ◌<◌, ◌≤◌, ◌+◌, ◌-◌, ◌^◌, fold, ℤ, pos, ◌+ℤ◌, ◌-ℤ◌, Bool, true, false, List, [], ◌∷◌, ◌++◌, map, length, get_or, slice_get, Option, Some, None, Result, Ok, Err, IfOk, OnOk, IfErr, OnErr, ◌⊎◌, zero, suc, inl, inr, ◌↔◌, refl, sym, ap, subst, ◌∙◌, arith}
use Rattle.std.specs.Prelude.{nat_lt, not, neg_ℤ, ◌≤ℤ◌, ◌<ℤ◌}
use Rattle.std.proofs.lemmas.Bool.Decides.{nat_tests}
use Rattle.std.proofs.lemmas.List.{get_or_append_left}
use Rattle.std.proofs.lemmas.Option.{get_or_from_slice_get}
use Rattle.rma_base.specs.Limits.{element_limit, block_limit, address_limit}
use Rattle.rma_bytes.specs.declared.run.Run.{Run}
use Rattle.rma_bytes.specs.Layout.{Layout}
use Rattle.rma_bytes.specs.Runs as run
use Rattle.rma_bytes.proofs.RunLemmas.{canonical_at, no_run}
use Rattle.rma_bytes.proofs.RegionLemmas.{moved_by_zero}
use Rattle.rma_bytes.proofs.IndexLemmas.{canonical_moved, moved_bytes, within}
use Rattle.rma_type.specs.declared.id.TypeId.{TypeId}
use Rattle.rma_type.specs.declared.origin.Origin.{Origin}
use Rattle.rma_datatype.specs.declared.make.Make.{Make}
use Rattle.rma_type.specs.Table.{Table, typemaps, typemap_in, typemap_of, with_typemap}
use Rattle.rma_type.specs.Change.{IsMade}
use Rattle.rma_type.proofs.AddLemmas.{typemaps_push}
use Rattle.rma_typemap.specs.Typemap.{Typemap}
use Rattle.rma_layout.proofs.Words.{ints, Basic, LayoutError, Fault, Memory, OutOfSpace, length-append}
use Rattle.rma_layout.specs.Layout.{IsLayoutOf}
use Rattle.rma_layout.specs.Refusal.{IsErrorOf, refusal, first_fault, is_all_in, is_between, lowest}
use Rattle.rma_layout.specs.inside.Known.{AreEnds, AreKnown, IsKnown, IsKnownIf, LieIn, touched_in}
use Rattle.rma_layout.specs.declared.space.Space.{Space}
use Rattle.rma_layout.specs.declared.space.Space.TheVariants.{Local, Target}
use Rattle.rma_layout.specs.declared.ends.Ends.{Ends}
use Rattle.rma_layout.specs.declared.known_layout.KnownLayout.{KnownLayout}
use Rattle.rma_typemap.specs.inside.Near.{IsNear}
use Rattle.rma_layout.proofs.TouchedLemmas.{between_is, elements_in, touches_are}
use Rattle.rma_layout.proofs.PlaceLemmas.{not_refused, out_of_space}
use Rattle.rma_layout.proofs.MovedLemmas.{moved_by, touched_moved, touches_moved, blocks_moved, layout_moved}
use Rattle.rma_typemap.proofs.Words.{block_count}

-- ---- bytes in a space

-- the space, moved back
abbrev room : Space → ℤ → Run
room Local by = record { start = pos 0 -ℤ by; len = 2 ^ 48 }
room Target by = record { start = neg_ℤ (pos (2 ^ 48)) -ℤ by; len = 2 ^ 49 }

in_room : (space : Space) (by b : ℤ) → run.IsByteOf (room space by) b ↔ ((lowest space ≤ℤ (b +ℤ by)) × ((b +ℤ by) <ℤ pos address_limit))
in_room Local by b = grind (arith, ints)
in_room Target by b = grind (arith, ints)

between : (space : Space) (by s e : ℤ) → (is_between space (s +ℤ by) (e +ℤ by) ≡ true) ↔ (((room space by).start ≤ℤ s) × (e ≤ℤ run.end_of (room space by)))
between space by s e = let is = between_is space (s +ℤ by) (e +ℤ by) in let ends = moved_ends space in (λ h. ends.0 (is.0 h), λ h. is.1 (ends.1 h))
  where
    moved_ends : (x : Space) → ((lowest x ≤ℤ (s +ℤ by)) × ((e +ℤ by) ≤ℤ pos address_limit)) ↔ (((room x by).start ≤ℤ s) × (e ≤ℤ run.end_of (room x by)))
    moved_ends Local = (λ h. let low = h.0 in let high = h.1 in (omega (arith, ints), omega (arith, ints)), λ h. let low = h.0 in let high = h.1 in (omega (arith, ints), omega (arith, ints)))
    moved_ends Target = (λ h. let low = h.0 in let high = h.1 in (omega (arith, ints), omega (arith, ints)), λ h. let low = h.0 in let high = h.1 in (omega (arith, ints), omega (arith, ints)))

pub same_between : (space : Space) (s t e f : ℤ) → s ≡ t → e ≡ f → is_between space s e ≡ is_between space t f
same_between space s t e f starts ends = rw (starts, ends) refl

module _ (space : Space) (by : ℤ) (runs : List Run) where
  lie_in_room : LieIn space (map (run.moved by) runs) ↔ ((b : ℤ) → run.HasByte runs b → run.IsByteOf (room space by) b)
  lie_in_room = (
    λ h b has.
        let back : (b +ℤ by) -ℤ by ≡ b = omega (arith, ints) in
        (in_room space by b).1 (h (b +ℤ by) ((moved_bytes by runs (b +ℤ by)).1 (subst (run.HasByte runs) (sym back) has))),
    λ h b has.
        let forth : (b -ℤ by) +ℤ by ≡ b = omega (arith, ints) in
        subst (λ x. (lowest space ≤ℤ x) × (x <ℤ pos address_limit)) forth ((in_room space by (b -ℤ by)).0 (h (b -ℤ by) ((moved_bytes by runs b).0 has))),
  )

  pub ends_decide : (first last : Run) → run.IsCanonical runs → 0 < length runs → first ≡ get_or runs 0 no_run → last ≡ get_or runs (length runs - 1) no_run
      → (is_between space (first.start +ℤ by) (run.end_of last +ℤ by) ≡ true) ↔ LieIn space (map (run.moved by) runs)
  ends_decide first last good some is_first is_last =
      let ends = within runs (room space by) good some in
      let here = between space by first.start (run.end_of last) in
      let there : (((room space by).start ≤ℤ first.start) × (run.end_of last ≤ℤ run.end_of (room space by))) ↔ ((b : ℤ) → run.HasByte runs b → run.IsByteOf (room space by) b) = rw (is_first, is_last) ends in
      (λ h. lie_in_room.1 (there.0 (here.0 h)), λ h. here.1 (there.1 (lie_in_room.0 h)))

  pub none_lie_in : length runs ≡ 0 → LieIn space (map (run.moved by) runs)
  none_lie_in none = lie_in_room.1 (λ b has. absurd (no_bytes runs none b has))
    where
      no_bytes : (xs : List Run) → length xs ≡ 0 → (b : ℤ) → run.HasByte xs b → ⊥
      no_bytes [] none b has = has
      no_bytes (x ∷ xs) none b has = omega arith

  pub may_be_moved : LieIn space (map (run.moved by) runs) → (b : ℤ) → run.HasByte runs b → run.IsWithinBounds (b +ℤ by)
  may_be_moved h b has = bounds space ((in_room space by b).0 (lie_in_room.0 h b has))
    where
      bounds : (s : Space) → ((lowest s ≤ℤ (b +ℤ by)) × ((b +ℤ by) <ℤ pos address_limit)) → run.IsWithinBounds (b +ℤ by)
      bounds Local p = let low = p.0 in let high = p.1 in (omega (arith, ints), omega (arith, ints))
      bounds Target p = let low = p.0 in let high = p.1 in (omega (arith, ints), omega (arith, ints))

-- ---- the ends of its bytes

some_run : (runs : List Run) (x : Run) → slice_get runs 0 ≡ Some x → 0 < length runs
some_run [] x at = absurd (cc)
some_run (y ∷ ys) x at = omega arith

module _ (runs : List Run) (ends : Ends) (good : run.IsCanonical runs) (are : AreEnds runs (Some ends)) where
  some : 0 < length runs
  some = some_run runs are.0 are.2

  is_first : are.0 ≡ get_or runs 0 no_run
  is_first = sym (get_or_from_slice_get runs 0 are.0 no_run are.2)

  is_last : are.1 ≡ get_or runs (length runs - 1) no_run
  is_last = sym (get_or_from_slice_get runs (length runs - 1) are.1 no_run are.3)

  pub start_near : IsNear (2 ^ 49) ends.start
  start_near =
      let there = some in
      let bounds = rw (← is_first) at (canonical_at runs 0 no_run good some) in
      let low = bounds.0.0 in
      let high = bounds.0.1 in
      let is = are.4 in
      record { low = omega (arith, ints); high = omega (arith, ints) }

  pub end_near : IsNear (2 ^ 49) ends.end
  end_near =
      let there = some in
      let bounds = rw (← is_last) at (canonical_at runs (length runs - 1) no_run good (omega arith)) in
      let low = bounds.0.0 in
      let high = bounds.0.1 in
      let is = are.5 in
      record { low = omega (arith, ints); high = omega (arith, ints) }

  pub moved_decide : (space : Space) (by : ℤ) → (is_between space (ends.start +ℤ by) (ends.end +ℤ by) ≡ true) ↔ LieIn space (map (run.moved by) runs)
  moved_decide space by = rw (are.4, are.5) (ends_decide space by runs are.0 are.1 good some is_first is_last)

-- ---- what a table knows

-- as many typemaps as datatypes
length_from : (maps : List Typemap) (os : List Origin) → length (fold with_typemap maps os) ≡ length maps + length os
length_from maps [] = omega arith
length_from maps (o ∷ os) = length_from (with_typemap maps o) os ∙ omega (arith, length-append maps (typemap_of maps o ∷ []))

length_typemaps : (os : List Origin) → length (typemaps os) ≡ length os
unfolding typemaps
length_typemaps os = length_from [] os ∙ omega arith

-- the typemap of a datatype stays where one more is made
typemap_stays : (os : List Origin) (o : Origin) (id : TypeId) → id.0 < length os → typemap_in (typemaps (os ++ o ∷ [])) id ≡ typemap_in (typemaps os) id
typemap_stays os o id within =
    ap (λ maps. typemap_in maps id) (typemaps_push os o)
    ∙ get_or_append_left (typemaps os) (typemap_of (typemaps os) o ∷ []) [] id.0 (omega (arith, length_typemaps os))

known_grows : (os : List Origin) (o : Origin) (known : KnownLayout) → IsKnown os known → IsKnown (os ++ o ∷ []) known
known_grows os o known is =
    let stays = typemap_stays os o known.datatype is.within in
    record {
      within = length_more os o known.datatype.0 is.within;
      low = is.low;
      high = is.high;
      space = is.space;
      taken = rw stays is.taken;
      is = rw stays is.is;
      ends = is.ends;
    }
  where
    length_more : (xs : List Origin) (x : Origin) (n : ℕ) → n < length xs → n < length (xs ++ x ∷ [])
    length_more [] x n lt = absurd (omega arith)
    length_more (y ∷ ys) x zero lt = omega arith
    length_more (y ∷ ys) x (suc n) lt = let more = length_more ys x n (omega arith) in omega arith

all_grow : (os : List Origin) (o : Origin) (slot : Option KnownLayout) → IsKnownIf os slot → IsKnownIf (os ++ o ∷ []) slot
all_grow os o None is = tt
all_grow os o (Some known) is = known_grows os o known is

-- so all that is known stays known where a datatype is made, and where it is not
pub known_after_make : {E : Type 0} (result : Result TypeId E) (old new : Table) (name : List ℕ) (constructor : Make) (slots : List (Option KnownLayout)) → IfOk result (IsMade old new name constructor)
    → OnErr result (new ≡ old) → AreKnown old.origins slots → AreKnown new.origins slots
known_after_make (Ok id) old new name constructor slots made err all = λ k d lt. rw made.origins (all_grow old.origins _ (get_or slots k d) (all k d lt))
known_after_make (Err error) old new name constructor slots made err all = rw err all

-- ---- the layout at another address

first_none : (a b c : Bool) → first_fault a b c ≡ None → (a ≡ false) × (b ≡ false) × (c ≡ false)
first_none true b c h = absurd (cc)
first_none false true c h = absurd (cc)
first_none false false true h = absurd (cc)
first_none false false false h = (refl, refl, refl)

not_more : (m n : ℕ) → nat_lt m n ≡ false → n ≤ m
not_more m n h = grind (arith, nat_tests)

module _ (space : Space) (es : List (Basic × ℤ)) (entries : ℕ) (none : refusal space es entries ≡ None) where
  few_entries : entries ≤ element_limit
  unfolding refusal
  few_entries = not_more element_limit entries (first_none (nat_lt element_limit entries) (nat_lt block_limit (block_count es)) (not (is_all_in space es)) none).0

  few_blocks : block_count es ≤ block_limit
  unfolding refusal
  few_blocks = not_more block_limit (block_count es) (first_none (nat_lt element_limit entries) (nat_lt block_limit (block_count es)) (not (is_all_in space es)) none).1

module _ (origins : List Origin) (known : KnownLayout) (is : IsKnown origins known) (space : Space) (address : ℤ) where
  abbrev d : ℤ
  d = address -ℤ known.address

  abbrev old : List (Basic × ℤ)
  old = touched_in origins known.datatype known.count known.address known.entries

  abbrev new : List (Basic × ℤ)
  new = touched_in origins known.datatype known.count address known.entries

  new_is : new ≡ map (moved_by d) old
  new_is = touched_moved (typemap_in (typemaps origins) known.datatype) known.count known.address address known.entries

  few : block_count new ≤ block_limit
  few = let same = ap block_count new_is ∙ blocks_moved d old in let most = few_blocks is.space old known.entries is.taken in omega (arith, same)

  module _ (layout : Layout) (same : layout ≡ record known.layout { runs = map (run.moved d) known.layout.runs }) (lie : LieIn space (map (run.moved d) known.layout.runs)) where
    pub known_ok : IsLayoutOf new layout
    known_ok =
        rw (new_is, same)
        (layout_moved d old known.layout (canonical_moved d known.layout.runs is.is.canonical (may_be_moved space d known.layout.runs lie)) is.is)

    lies : is_all_in space new ≡ true
    lies = (elements_in space new).1 (λ b among. lie b (subst (λ l. run.HasByte l.runs b) same ((known_ok.bytes b).1 ((touches_are new b).0 among))))

    pub known_taken : refusal space new known.entries ≡ None
    known_taken = not_refused space new known.entries (few_entries is.space old known.entries is.taken) few lies

  pub known_refused : (LieIn space (map (run.moved d) known.layout.runs) → ⊥) → refusal space new known.entries ≡ Some OutOfSpace
  known_refused never = out_of_space space new known.entries (few_entries is.space old known.entries is.taken) few (decide (is_all_in space new) refl)
    where
      lie : is_all_in space new ≡ true → LieIn space (map (run.moved d) known.layout.runs)
      lie all = λ b has. (elements_in space new).0 all b ((touches_are new b).1 (rw new_is ((touches_moved d old b).1 ((is.is.bytes (b -ℤ d)).0 ((moved_bytes d known.layout.runs b).0 has)))))

      decide : (t : Bool) → is_all_in space new ≡ t → is_all_in space new ≡ false
      decide true e = absurd (never (lie e))
      decide false e = e

-- ---- a layout that is kept

-- runs in canonical form may stay where they are
pub may_stay : (runs : List Run) → run.IsCanonical runs → (b : ℤ) → run.HasByte runs b → run.IsWithinBounds (b +ℤ pos 0)
may_stay [] good b has = absurd has
may_stay (x ∷ xs) good b (inl here) = let bounds = good.0 in let low = bounds.0 in let high = bounds.1 in let from = here.0 in let to = here.1 in (omega (arith, ints), omega (arith, ints))
may_stay (x ∷ xs) good b (inr there) = may_stay xs good.3 b there

pub kept_known : (origins : List Origin) (known : KnownLayout) (layout : Layout) (address : ℤ) (space : Space) → known.datatype.0 < length origins → pos 0 ≤ℤ address → address ≤ℤ pos address_limit → known.address ≡ address
    → refusal space (touched_in origins known.datatype known.count address known.entries) known.entries ≡ None → IsLayoutOf (touched_in origins known.datatype known.count address known.entries) layout
    → known.layout ≡ record layout { runs = map (run.moved (pos 0)) layout.runs } → AreEnds known.layout.runs known.ends → IsKnown origins known
kept_known origins known layout address space within low high at taken is same ends = record {
  within = within;
  low = rw at low;
  high = rw at high;
  space = space;
  taken = rw at taken;
  is = rw (at, same, moved_by_zero layout.runs) is;
  ends = ends;
}

-- ---- a layout that is placed

module _ (origins : List Origin) (known : KnownLayout) (is : IsKnown origins known) (space : Space) (datatype : TypeId) (count : ℕ) (address : ℤ) (entries : ℕ) (at : known.datatype ≡ datatype) (many : known.count ≡ count) (few : known.entries ≡ entries) (result : Result Layout LayoutError) where
  abbrev there : List Run
  there = map (run.moved (address -ℤ known.address)) known.layout.runs

  pub placed_ok : IfOk result (λ layout. layout ≡ record known.layout { runs = there }) → OnOk result (LieIn space there) → IfOk result (IsLayoutOf (touched_in origins datatype count address entries))
  placed_ok = cases result
    where
      cases : (r : Result Layout LayoutError) → IfOk r (λ layout. layout ≡ record known.layout { runs = there }) → OnOk r (LieIn space there) → IfOk r (IsLayoutOf (touched_in origins datatype count address entries))
      cases (Ok layout) same lie = rw (← at, ← many, ← few) (known_ok origins known is space address layout same lie)
      cases (Err error) same lie = tt

  pub placed_taken : IfOk result (λ layout. layout ≡ record known.layout { runs = there }) → OnOk result (LieIn space there) → OnOk result (refusal space (touched_in origins datatype count address entries) entries ≡ None)
  placed_taken = cases result
    where
      cases : (r : Result Layout LayoutError) → IfOk r (λ layout. layout ≡ record known.layout { runs = there }) → OnOk r (LieIn space there) → OnOk r (refusal space (touched_in origins datatype count address entries) entries ≡ None)
      cases (Ok layout) same lie = rw (← at, ← many, ← few) (known_taken origins known is space address layout same lie)
      cases (Err error) same lie = tt

  pub placed_fault : IfErr result (λ e. e ≡ Memory ⊎ ((e ≡ Fault OutOfSpace) × (LieIn space there → ⊥))) → IfErr result (IsErrorOf (refusal space (touched_in origins datatype count address entries) entries))
  placed_fault = cases result
    where
      cases : (r : Result Layout LayoutError) → IfErr r (λ e. e ≡ Memory ⊎ ((e ≡ Fault OutOfSpace) × (LieIn space there → ⊥))) → IfErr r (IsErrorOf (refusal space (touched_in origins datatype count address entries) entries))
      cases (Ok layout) h = tt
      cases (Err e) (inl memory) = rw memory tt
      cases (Err e) (inr out) = rw (out.0, ← at, ← many, ← few) (known_refused origins known is space address out.1)
