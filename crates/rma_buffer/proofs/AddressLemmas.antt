-- Buffers at other addresses: they have the same elements, moved by a distance.
use Rattle.std.proofs.Common.{◌≡◌, ℕ, ◌≤◌, ◌<◌, ℤ, pos, ◌-◌, ◌-ℤ◌, length, slice_get, List, [], ◌∷◌, map, option_to_list, Bool, true, false, not, nat_lt, ◌&&◌, ◌||◌, Option, Some, None, IfSome, option_map, if◌then◌else◌, refl, sym, ap, subst, ◌∙◌, arith}
use Rattle.std.specs.Prelude.{min}
use Rattle.std.specs.Option.{option_and_then}
use Rattle.std.proofs.lemmas.Bool.{not-false, not_from_true, or_from, or_parts}
use Rattle.rma_base.specs.Limits.{address_limit, block_limit}
use Rattle.rma_bytes.specs.Layout.{Layout}
use Rattle.rma_bytes.specs.Runs as run
use Rattle.rma_bytes.specs.declared.run.Run.{Run}
use Rattle.rma_bytes.proofs.IndexLemmas.{canonical_moved, moved_bytes}
use Rattle.rma_bytes.proofs.RunLemmas.{canonical_unique}
use Rattle.rma_form.specs.declared.event.rma_line.Access.{Access}
use Rattle.rma_form.specs.declared.event.rma_line.Access.TheVariants.{Put, Get, Accumulate, GetAccumulate, FetchAndOp, CompareAndSwap}
use Rattle.rma_form.specs.declared.event.rma_line.Buffer.{Buffer}
use Rattle.rma_layout.specs.Refusal.{is_all_in}
use Rattle.rma_layout.specs.declared.space.Space.TheVariants.{Local}
use Rattle.rma_layout.specs.inside.Known.{AreEnds, LieIn}
use Rattle.rma_layout.proofs.KnownLemmas.{may_be_moved}
use Rattle.rma_layout.proofs.MovedLemmas.{blocks_moved, moved_by, shares_moved, touched_moved, touches_moved}
use Rattle.rma_layout.proofs.TouchedLemmas.{elements_in, touches_are}
use Rattle.rma_type.specs.Names.{id_of}
use Rattle.rma_type.specs.Table.{typemap_in}
use Rattle.rma_type.specs.declared.id.TypeId.{TypeId}
use Rattle.rma_typemap.specs.Typemap.{Typemap, block_count}
use Rattle.rma_buffer.specs.Calls.{layout_in}
use Rattle.rma_buffer.specs.Elsewhere.{access_at, buffer_at}
use Rattle.rma_buffer.specs.Layouts.{element_of, layout_of, runs_of, shares_byte}
use Rattle.rma_buffer.specs.Operands.{Buffers, buffers_of, kind_of, operand_if, operand_of, operands_in, operands_of}
use Rattle.rma_buffer.specs.Rules.{has_many_blocks, touched_in}
use Rattle.rma_buffer.specs.declared.elsewhere.Place.{Place}
use Rattle.rma_buffer.specs.declared.operand.Operand.{Operand}
use Rattle.rma_buffer.specs.declared.operand.Operands.{Operands}
use Rattle.rma_bytes.specs.Layout.{layout_by}
use Rattle.rma_buffer.specs.inside.Elsewhere.{IsMoved, IsMovedIf, IsWithin, addresses_of}
use Rattle.rma_buffer.proofs.LayoutLemmas.{runs_bytes, runs_canonical, same_bool, same_layout, shares_from, shares_to}
use Rattle.rma_buffer.proofs.Words.{Basic, is_same, list_all, list_any}

-- ---- the ends of a buffer

pub some_at : (runs : List Run) (first : Run) → slice_get runs 0 ≡ Some first → 0 < length runs
some_at [] first at = absurd (cc)
some_at (one ∷ runs) first at = omega arith

pub ends_are : (runs : List Run) (first last : Run) (n : ℕ) → n ≡ length runs → slice_get runs 0 ≡ Some first → slice_get runs (n - 1) ≡ Some last → AreEnds runs (Some (record { start = first.start; end = run.end_of last }))
ends_are runs first last n e a b = (first, last, a, subst (λ k. slice_get runs (k - 1) ≡ Some last) e b, refl, refl)

-- ---- the buffers of a line, with other addresses

abbrev pub at : ℕ → Operand → Operand
at address it = record it { address = address }

abbrev pub operands_at : Place → Operands → Operands
operands_at place it = record {
  target = it.target;
  origin = at place.origin it.origin;
  result = option_map (at place.result) it.result;
  compare = option_map (at place.compare) it.compare;
}

abbrev buffers_at : Place → Buffers → Buffers
buffers_at place it = record {
  target = it.target;
  origin = buffer_at it.origin place.origin;
  result = option_map (λ b. buffer_at b place.result) it.result;
  compare = option_map (λ b. buffer_at b place.compare) it.compare;
}

below_end : (n : ℕ) → n ≤ address_limit → min n address_limit ≡ n
below_end n h = omega arith

abbrev all_there : Option Operand → Option Operand → Option (Option Operand) → Option (Option Operand) → Option Operands
all_there t o r c = option_and_then (λ target. option_and_then (λ origin. option_and_then (λ result. option_map
    (λ compare. record { target = target; origin = origin; result = result; compare = compare })
    c) r) o) t

all_there_at : (place : Place) (t o : Option Operand) (r c : Option (Option Operand)) →
    all_there t (option_map (at place.origin) o) (option_map (option_map (at place.result)) r) (option_map (option_map (at place.compare)) c) ≡ option_map (operands_at place) (all_there t o r c)
all_there_at place None o r c = refl
all_there_at place (Some t) None r c = refl
all_there_at place (Some t) (Some o) None c = refl
all_there_at place (Some t) (Some o) (Some r) None = refl
all_there_at place (Some t) (Some o) (Some r) (Some c) = refl

module _ (live : List (List ℕ × TypeId)) where
  abbrev operand_with : Buffer → ℕ → TypeId → Operand
  operand_with b k id = record { datatype = id; address = k; count = b.count }

  pub operand_at_other : (b : Buffer) (n : ℕ) → n ≤ address_limit → operand_of live (buffer_at b n) ≡ option_map (at n) (operand_of live b)
  operand_at_other b n h = named (id_of live b.datatype)
    where
      named : (o : Option TypeId) → option_map (operand_with b (min n address_limit)) o ≡ option_map (at n) (option_map (operand_with b (min b.address address_limit)) o)
      named None = refl
      named (Some id) = ap (λ k. Some (operand_with b k id)) (below_end n h)

  operand_if_at : (o : Option Buffer) (n : ℕ) → n ≤ address_limit → operand_if live (option_map (λ b. buffer_at b n) o) ≡ option_map (option_map (at n)) (operand_if live o)
  operand_if_at None n h = refl
  operand_if_at (Some b) n h = ap (option_map Some) (operand_at_other b n h) ∙ both (operand_of live b)
    where
      both : (o : Option Operand) → option_map Some (option_map (at n) o) ≡ option_map (option_map (at n)) (option_map Some o)
      both None = refl
      both (Some it) = refl

  operands_in_at : (place : Place) → IsWithin place → (it : Buffers) → operands_in live (buffers_at place it) ≡ option_map (operands_at place) (operands_in live it)
  operands_in_at place within it =
      let t = operand_of live it.target in
      let o = operand_of live it.origin in
      let r = operand_if live it.result in
      ap (λ x. all_there t x (operand_if live (option_map (λ b. buffer_at b place.result) it.result)) (operand_if live (option_map (λ b. buffer_at b place.compare) it.compare))) (operand_at_other it.origin place.origin within.origin)
      ∙ ap (λ x. all_there t (option_map (at place.origin) o) x (operand_if live (option_map (λ b. buffer_at b place.compare) it.compare))) (operand_if_at it.result place.result within.result)
      ∙ ap (λ x. all_there t (option_map (at place.origin) o) (option_map (option_map (at place.result)) r) x) (operand_if_at it.compare place.compare within.compare)
      ∙ all_there_at place t o r (operand_if live it.compare)

buffers_of_at : (place : Place) (access : Access) → buffers_of (access_at access (addresses_of (kind_of access) place)) ≡ buffers_at place (buffers_of access)
buffers_of_at place (Put it) = refl
buffers_of_at place (Get it) = refl
buffers_of_at place (Accumulate op it) = refl
buffers_of_at place (GetAccumulate op it into) = refl
buffers_of_at place (FetchAndOp op datatype origin into) = refl
buffers_of_at place (CompareAndSwap datatype origin compared into) = refl

pub kind_of_at : (place : Place) (access : Access) → kind_of (access_at access (addresses_of (kind_of access) place)) ≡ kind_of access
kind_of_at place (Put it) = refl
kind_of_at place (Get it) = refl
kind_of_at place (Accumulate op it) = refl
kind_of_at place (GetAccumulate op it into) = refl
kind_of_at place (FetchAndOp op datatype origin into) = refl
kind_of_at place (CompareAndSwap datatype origin compared into) = refl

pub operands_of_at : (live : List (List ℕ × TypeId)) (place : Place) → IsWithin place → (access : Access) →
    operands_of live (access_at access (addresses_of (kind_of access) place)) ≡ option_map (operands_at place) (operands_of live access)
operands_of_at live place within access = ap (operands_in live) (buffers_of_at place access) ∙ operands_in_at live place within (buffers_of access)

-- ---- elements at another address

module _ (d : ℤ) where
  all_same_moved : (b : Basic) (es : List (Basic × ℤ)) → list_all (λ other. is_same b other.0) (map (moved_by d) es) ≡ list_all (λ other. is_same b other.0) es
  all_same_moved b [] = refl
  all_same_moved b (e ∷ es) = ap (λ t. is_same b e.0 && t) (all_same_moved b es)

  element_of_moved : (es : List (Basic × ℤ)) → element_of (map (moved_by d) es) ≡ element_of es
  element_of_moved [] = refl
  element_of_moved (e ∷ es) = ap (λ t. if t then Some e.0 else None) (all_same_moved e.0 es)

  shares_byte_moved : (es : List (Basic × ℤ)) → shares_byte (map (moved_by d) es) ≡ shares_byte es
  shares_byte_moved es =
      let new = map (moved_by d) es in
      same_bool (shares_byte new) (shares_byte es) (λ p. shares_from es ((shares_moved d es).0 (shares_to new p))) (λ p. shares_from new ((shares_moved d es).1 (shares_to es p)))

  module _ (es : List (Basic × ℤ)) (within : is_all_in Local es ≡ true) (lie : LieIn Local (map (run.moved d) (runs_of es))) where
    abbrev new : List (Basic × ℤ)
    new = map (moved_by d) es

    pub all_in_moved : is_all_in Local new ≡ true
    all_in_moved = (elements_in Local new).1 (λ b among. lie b ((moved_bytes d (runs_of es) b).1 ((runs_bytes Local es (b -ℤ d) within).1 ((touches_moved d es b).0 ((touches_are new b).0 among)))))

    runs_of_moved : runs_of new ≡ map (run.moved d) (runs_of es)
    runs_of_moved = canonical_unique (runs_of new) (map (run.moved d) (runs_of es)) (runs_canonical Local new all_in_moved)
        (canonical_moved d (runs_of es) (runs_canonical Local es within) (may_be_moved Local d (runs_of es) lie))
        (λ n.
        let moves = moved_bytes d (runs_of es) n in
        let old = runs_bytes Local es (n -ℤ d) within in
        let touches = touches_moved d es n in
        let here = runs_bytes Local new n all_in_moved in
        (λ h. moves.1 (old.1 (touches.0 (here.0 h))), λ h. here.1 (touches.1 (old.0 (moves.0 h)))))

    layout_of_moved : layout_of new ≡ layout_by d (layout_of es)
    unfolding layout_of
    layout_of_moved = same_layout (runs_of new) (map (run.moved d) (runs_of es)) (element_of new) (element_of es) (shares_byte new) (shares_byte es) runs_of_moved (element_of_moved es) (shares_byte_moved es)

-- ---- one buffer at another address

module _ (maps : List Typemap) (m : ℕ) where
  abbrev pub leaves : Operand → Bool
  leaves one = not (is_all_in Local (touched_in maps m one))

  touched_at : (it : Operand) (a b : ℕ) → it.address ≡ a → touched_in maps m (at b it) ≡ map (moved_by (pos b -ℤ pos a)) (touched_in maps m it)
  touched_at it a b is = touched_moved (typemap_in maps it.datatype) it.count (pos it.address) (pos b) m ∙ ap (λ n. map (moved_by (pos b -ℤ pos n)) (touched_in maps m it)) is

  pub blocks_at : (it : Operand) (b : ℕ) → block_count (touched_in maps m (at b it)) ≡ block_count (touched_in maps m it)
  blocks_at it b = ap block_count (touched_at it it.address b refl) ∙ blocks_moved (pos b -ℤ pos it.address) (touched_in maps m it)

  many_blocks_at : (it : Operand) (b : ℕ) → has_many_blocks (touched_in maps m (at b it)) ≡ has_many_blocks (touched_in maps m it)
  many_blocks_at it b = ap (nat_lt block_limit) (blocks_at it b)

  pub shares_byte_at : (it : Operand) (b : ℕ) → shares_byte (touched_in maps m (at b it)) ≡ shares_byte (touched_in maps m it)
  shares_byte_at it b = ap shares_byte (touched_at it it.address b refl) ∙ shares_byte_moved (pos b -ℤ pos it.address) (touched_in maps m it)

  module _ (it : Operand) (a b : ℕ) (is : it.address ≡ a) (within : is_all_in Local (touched_in maps m it) ≡ true) where
    lies : (layout : Layout) → layout ≡ layout_in maps m it → LieIn Local (map (run.moved (pos b -ℤ pos a)) layout.runs) → LieIn Local (map (run.moved (pos b -ℤ pos a)) (runs_of (touched_in maps m it)))
    unfolding layout_of
    lies layout e lie = subst (λ (l : Layout). LieIn Local (map (run.moved (pos b -ℤ pos a)) l.runs)) e lie

    module _ (old new : Layout) (laid : old ≡ layout_in maps m it) (moved : IsMoved (pos b -ℤ pos a) old new) where
      pub in_space_at : is_all_in Local (touched_in maps m (at b it)) ≡ true
      in_space_at = ap (is_all_in Local) (touched_at it a b is) ∙ all_in_moved (pos b -ℤ pos a) (touched_in maps m it) within (lies old laid moved.1)

      pub layout_at : new ≡ layout_in maps m (at b it)
      layout_at =
          moved.0 ∙ ap (layout_by (pos b -ℤ pos a)) laid
          ∙ sym (ap layout_of (touched_at it a b is) ∙ layout_of_moved (pos b -ℤ pos a) (touched_in maps m it) within (lies old laid moved.1))

  -- ---- a buffer that may be there

  pub many_if_at : (o : Option Operand) (b : ℕ) → list_any (λ one. has_many_blocks (touched_in maps m one)) (option_to_list (option_map (at b) o)) ≡ list_any (λ one. has_many_blocks (touched_in maps m one)) (option_to_list o)
  many_if_at None b = refl
  many_if_at (Some it) b = ap (λ t. t || false) (many_blocks_at it b)

  pub shares_if_at : (o : Option Operand) (b : ℕ) → list_any (λ one. shares_byte (touched_in maps m one)) (option_to_list (option_map (at b) o)) ≡ list_any (λ one. shares_byte (touched_in maps m one)) (option_to_list o)
  shares_if_at None b = refl
  shares_if_at (Some it) b = ap (λ t. t || false) (shares_byte_at it b)

  pub if_at : (o : Option Operand) (a b : ℕ) (old new : Option Layout) → IfSome o (λ it. it.address ≡ a) → list_any leaves (option_to_list o) ≡ false → old ≡ option_map (layout_in maps m) o → IsMovedIf (pos b -ℤ pos a) old new
      → (new ≡ option_map (layout_in maps m) (option_map (at b) o)) × (list_any leaves (option_to_list (option_map (at b) o)) ≡ false)
  if_at None a b None None is in_space laid moved = (refl, refl)
  if_at None a b None (Some new) is in_space laid moved = absurd moved
  if_at None a b (Some old) new is in_space laid moved = absurd (cc)
  if_at (Some it) a b None new is in_space laid moved = absurd (cc)
  if_at (Some it) a b (Some old) None is in_space laid moved = absurd moved
  if_at (Some it) a b (Some old) (Some new) is in_space laid moved =
      let within = not-false (is_all_in Local (touched_in maps m it)) (or_parts (leaves it) false in_space).0 in
      let same : old ≡ layout_in maps m it = cc in
      (ap Some (layout_at it a b is within old new same moved), or_from (leaves (at b it)) false (not_from_true (is_all_in Local (touched_in maps m (at b it))) (in_space_at it a b is within old new same moved)) refl)
