-- Datatypes that are being written: what a turn does to what is left of them.
use Rattle.std.proofs.Common.{◌≡◌, ℕ, zero, suc, ◌+◌, ◌<◌, ℤ, pos, ◌+ℤ◌, List, [], ◌∷◌, ◌++◌, length, drop, slice_get, Some, None, refl, sym, ap, subst, ◌∙◌, arith}
use Rattle.rma_layout.proofs.Words.{ints, append-nil, append_assoc, span, moved, copies, typemap_bytes, Step, Copies, Again, Row, row_bytes, step_bytes, after_steps, steps_in, Output, LayoutError, Fault, Memory, Refuses}
use Rattle.rma_layout.specs.inside.Frames.{GoesOn, IsFault, IsRowOf, seen_of, bytes_at}
use Rattle.rma_layout.specs.inside.Frames.{finished}
use Rattle.rma_layout.specs.declared.frame.Frame.{Frame}
use Rattle.rma_layout.proofs.BytesLemmas.{copies_zero, copies_suc, copies_of_moved, copies_nil, moved_span}
use Rattle.rma_layout.proofs.StepLemmas.{after_none, after_more}
use Rattle.rma_typemap.specs.Bounds.{extent}
use Rattle.rma_typemap.proofs.Words.{entry_count}
use Rattle.std.specs.Option.{IfSome}
use Rattle.std.specs.Prelude.{option_map}
use Rattle.rma_datatype.specs.declared.make.Make.{Make}
use Rattle.rma_type.specs.Table.{constructor_of, ComesAfter}
use Rattle.rma_type.specs.declared.origin.Origin.TheVariants.{Derived}
use Rattle.rma_layout.proofs.ElementLemmas.{no_elements}
use Rattle.rma_layout.proofs.MemberLemmas.{derived_by}
use Rattle.rma_layout.proofs.TableLemmas.{all_steps}
use Rattle.rma_typemap.proofs.Words.{Typemap}
use Rattle.rma_type.specs.declared.id.TypeId.{TypeId}
use Rattle.rma_type.specs.declared.origin.Origin.{Origin}
use Rattle.rma_type.proofs.Words.{typemaps, typemap_in}

drop_at : {X : Type 0} (xs : List X) (n : ℕ) (x : X) → slice_get xs n ≡ Some x → drop n xs ≡ x ∷ drop (n + 1) xs
drop_at [] n x at = absurd (cc)
drop_at (y ∷ xs) zero x at = let same : y ≡ x = cc in ap (λ z. z ∷ xs) same
drop_at (y ∷ xs) (suc n) x at =
    let more : suc (n + 1) ≡ suc n + 1 = omega arith in
    drop_at xs n x at ∙ ap (λ k. x ∷ drop k (y ∷ xs)) more

drop_past : {X : Type 0} (xs : List X) (n : ℕ) → slice_get xs n ≡ None → drop n xs ≡ []
drop_past [] zero at = refl
drop_past [] (suc n) at = refl
drop_past (y ∷ xs) zero at = absurd (cc)
drop_past (y ∷ xs) (suc n) at = drop_past xs n at

no_row : (maps : List Typemap) (seen : List ℤ) (old : TypeId) (count : ℕ) (at : ℤ) → count ≡ 0 → seen ++ row_bytes maps old count at ≡ seen
no_row maps seen old count at none =
    ap (λ n. seen ++ row_bytes maps old n at) none ∙ ap (λ xs. seen ++ xs) (copies_zero at (extent (typemap_in maps old)) (typemap_bytes (typemap_in maps old))) ∙ append-nil seen

-- all that is written later stands behind what is seen
pub extends : (maps : List Typemap) (by : ℤ) (seen : List ℤ) (steps : List Step) → (more : List ℤ) × (after_steps maps by seen steps ≡ seen ++ more)
extends maps by seen [] = ([], after_none maps by seen ∙ sym (append-nil seen))
extends maps by seen (step ∷ steps) =
    let rest = extends maps by (seen ++ step_bytes maps by seen step) steps in
    (step_bytes maps by seen step ++ rest.0, after_more maps by seen step steps ∙ rest.1 ∙ append_assoc seen (step_bytes maps by seen step) rest.0)

pub finished_extends : (origins : List Origin) (f : Frame) (seen : List ℤ) → (more : List ℤ) × (finished origins f seen ≡ seen ++ more)
unfolding finished
finished_extends origins f seen =
    let row = row_bytes (typemaps origins) f.row.old f.row.count f.row.at in
    let rest = extends (typemaps origins) f.by (seen ++ row) (drop f.next (steps_in origins f.id)) in
    (row ++ rest.0, rest.1 ∙ append_assoc seen row rest.0)

module _ (origins : List Origin) (f g : Frame) (id : g.id ≡ f.id) (by : g.by ≡ f.by) where
  abbrev maps : List Typemap
  maps = typemaps origins

  abbrev steps : List Step
  steps = steps_in origins f.id

  finished_as : (seen : List ℤ) → finished origins g seen ≡ after_steps maps f.by (seen ++ row_bytes maps g.row.old g.row.count g.row.at) (drop g.next steps)
  unfolding finished
  finished_as seen =
      ap (λ x. after_steps maps g.by (seen ++ row_bytes maps g.row.old g.row.count g.row.at) (drop g.next (steps_in origins x))) id
      ∙ ap (λ x. after_steps maps x (seen ++ row_bytes maps g.row.old g.row.count g.row.at) (drop g.next steps)) by

  finished_without : (seen : List ℤ) → f.row.count ≡ 0 → finished origins f seen ≡ after_steps maps f.by seen (drop f.next steps)
  unfolding finished
  finished_without seen none = ap (λ x. after_steps maps f.by x (drop f.next steps)) (no_row maps seen f.row.old f.row.count f.row.at none)

  -- the next step is a row
  pub row_begun : (r : Row) → f.row.count ≡ 0 → slice_get steps f.next ≡ Some (Copies r) → g.next ≡ f.next + 1 → g.row.old ≡ r.old → g.row.count ≡ r.count → g.row.at ≡ f.by +ℤ r.at
      → (seen : List ℤ) → finished origins g seen ≡ finished origins f seen
  row_begun r none at next old count place seen =
      finished_as seen ∙ ap (λ k. after_steps maps f.by (seen ++ row_bytes maps g.row.old g.row.count g.row.at) (drop k steps)) next
      ∙ ap (λ x. after_steps maps f.by (seen ++ row_bytes maps x g.row.count g.row.at) (drop (f.next + 1) steps)) old
      ∙ ap (λ x. after_steps maps f.by (seen ++ row_bytes maps r.old x g.row.at) (drop (f.next + 1) steps)) count
      ∙ ap (λ x. after_steps maps f.by (seen ++ row_bytes maps r.old r.count x) (drop (f.next + 1) steps)) place
      ∙ sym (after_more maps f.by seen (Copies r) (drop (f.next + 1) steps)) ∙ ap (after_steps maps f.by seen) (sym (drop_at steps f.next (Copies r) at))
      ∙ sym (finished_without seen none)

  -- the next step repeats what is written
  pub written_again : (n : ℕ) (s : ℤ) → f.row.count ≡ 0 → slice_get steps f.next ≡ Some (Again n s) → g.next ≡ f.next + 1 → g.row.count ≡ 0
      → (seen : List ℤ) → finished origins g (seen ++ copies n s s seen) ≡ finished origins f seen
  written_again n s none at next empty seen =
      finished_as (seen ++ copies n s s seen) ∙ ap (λ x. after_steps maps f.by x (drop g.next steps)) (no_row maps (seen ++ copies n s s seen) g.row.old g.row.count g.row.at empty)
      ∙ ap (λ k. after_steps maps f.by (seen ++ copies n s s seen) (drop k steps)) next
      ∙ sym (after_more maps f.by seen (Again n s) (drop (f.next + 1) steps)) ∙ ap (after_steps maps f.by seen) (sym (drop_at steps f.next (Again n s) at))
      ∙ sym (finished_without seen none)

  -- all of the row is written
  pub row_written : (bytes : List ℤ) → bytes ≡ row_bytes maps f.row.old f.row.count f.row.at → g.next ≡ f.next → g.row.count ≡ 0 → (seen : List ℤ) → finished origins g (seen ++ bytes) ≡ finished origins f seen
  unfolding finished
  row_written bytes is next empty seen =
      finished_as (seen ++ bytes) ∙ ap (λ x. after_steps maps f.by x (drop g.next steps)) (no_row maps (seen ++ bytes) g.row.old g.row.count g.row.at empty)
      ∙ ap (λ k. after_steps maps f.by (seen ++ bytes) (drop k steps)) next ∙ ap (λ x. after_steps maps f.by (seen ++ x) (drop f.next steps)) is

  -- the first copy of the row is written
  pub first_written : (old : TypeId) (n : ℕ) (at : ℤ) → f.row.old ≡ old → f.row.count ≡ suc n → f.row.at ≡ at → g.next ≡ f.next → g.row.old ≡ old → g.row.count ≡ n → g.row.at ≡ at +ℤ extent (typemap_in maps old)
      → (seen : List ℤ) → finished origins g (seen ++ moved at (typemap_bytes (typemap_in maps old))) ≡ finished origins f seen
  unfolding finished
  first_written old n at f_old f_count f_at next g_old g_count g_at seen =
      let one = moved at (typemap_bytes (typemap_in maps old)) in
      let e = extent (typemap_in maps old) in
      finished_as (seen ++ one) ∙ ap (λ k. after_steps maps f.by ((seen ++ one) ++ row_bytes maps g.row.old g.row.count g.row.at) (drop k steps)) next
      ∙ ap (λ x. after_steps maps f.by ((seen ++ one) ++ row_bytes maps x g.row.count g.row.at) (drop f.next steps)) g_old
      ∙ ap (λ x. after_steps maps f.by ((seen ++ one) ++ row_bytes maps old x g.row.at) (drop f.next steps)) g_count
      ∙ ap (λ x. after_steps maps f.by ((seen ++ one) ++ row_bytes maps old n x) (drop f.next steps)) g_at
      ∙ ap (λ x. after_steps maps f.by x (drop f.next steps)) (append_assoc seen one (row_bytes maps old n (at +ℤ e)))
      ∙ ap (λ x. after_steps maps f.by (seen ++ x) (drop f.next steps)) (sym (copies_suc n at e (typemap_bytes (typemap_in maps old))))
      ∙ ap (λ x. after_steps maps f.by (seen ++ row_bytes maps old (suc n) x) (drop f.next steps)) (sym f_at)
      ∙ ap (λ x. after_steps maps f.by (seen ++ row_bytes maps old x f.row.at) (drop f.next steps)) (sym f_count)
      ∙ ap (λ x. after_steps maps f.by (seen ++ row_bytes maps x f.row.count f.row.at) (drop f.next steps)) (sym f_old)

  pub goes_on : g.from ≡ f.from → g.known ≡ f.known → g.row.old.0 < length origins → GoesOn origins f g
  goes_on from known old = record { id = id; by = by; from = from; known = known; old = old }

-- no step is left
pub is_done : (origins : List Origin) (f : Frame) → f.row.count ≡ 0 → slice_get (steps_in origins f.id) f.next ≡ None → (seen : List ℤ) → finished origins f seen ≡ seen
is_done origins f none at seen =
    finished_without origins f f refl refl seen none ∙ ap (after_steps (typemaps origins) f.by seen) (drop_past (steps_in origins f.id) f.next at) ∙ after_none (typemaps origins) f.by seen

-- what is refused is a part of the datatype
pub is_fault : (origins : List Origin) (old : Output) (f g : Frame) (bytes : List ℤ) (error : LayoutError) → finished origins g (seen_of old.blocks.items f ++ bytes) ≡ finished origins f (seen_of old.blocks.items f)
    → Refuses old bytes error → IsFault origins old f error
is_fault origins old f g bytes Memory rest refuses = tt
is_fault origins old f g bytes (Fault fault) rest refuses =
    let more = finished_extends origins g (seen_of old.blocks.items f ++ bytes) in
    record { bytes = bytes; more = more.0; rest = sym rest ∙ more.1; refuses = refuses }

pub memory_is_fault : (origins : List Origin) (old : Output) (f : Frame) (error : LayoutError) → error ≡ Memory → IsFault origins old f error
memory_is_fault origins old f error e = subst (λ x. IsFault origins old f x) (sym e) tt

-- ---- rows

-- copies of a block are the row
pub block_row : (origins : List Origin) (row : Row) (distance start first : ℤ) (len first_len : ℕ) (at stride : ℤ) → IsRowOf origins row distance (span start len) → at ≡ row.at → stride ≡ distance
    → first ≡ at +ℤ start → first_len ≡ len → copies row.count (pos 0) stride (span first first_len) ≡ row_bytes (typemaps origins) row.old row.count row.at
block_row origins row distance start first len first_len at stride is at_is stride_is first_is len_is =
    let m = typemap_in (typemaps origins) row.old in
    let same : pos 0 +ℤ row.at ≡ row.at = omega (arith, ints) in
    ap (λ x. copies row.count (pos 0) x (span first first_len)) (stride_is ∙ is.distance_is) ∙ ap (λ k. copies row.count (pos 0) (extent m) (span first k)) len_is
    ∙ ap (λ x. copies row.count (pos 0) (extent m) (span x len)) (first_is ∙ ap (λ x. x +ℤ start) at_is)
    ∙ ap (copies row.count (pos 0) (extent m)) (sym (moved_span row.at start len) ∙ ap (moved row.at) is.bytes_are)
    ∙ copies_of_moved row.count (pos 0) (extent m) row.at (typemap_bytes m) ∙ ap (λ x. copies row.count x (extent m) (typemap_bytes m)) same

-- copies of known blocks are the row
pub known_row : (origins : List Origin) (row : Row) (distance by at stride : ℤ) (one there : List ℤ) → IsRowOf origins row distance one → there ≡ moved by one → at +ℤ by ≡ row.at → stride ≡ distance
    → copies row.count at stride there ≡ row_bytes (typemaps origins) row.old row.count row.at
known_row origins row distance by at stride one there is there_is at_is stride_is =
    let m = typemap_in (typemaps origins) row.old in
    ap (λ x. copies row.count at x there) (stride_is ∙ is.distance_is) ∙ ap (copies row.count at (extent m)) (there_is ∙ ap (moved by) is.bytes_are)
    ∙ copies_of_moved row.count at (extent m) by (typemap_bytes m) ∙ ap (λ x. copies row.count x (extent m) (typemap_bytes m)) at_is

-- a datatype without entries has no row
pub empty_row : (origins : List Origin) (row : Row) → entry_count (typemap_in (typemaps origins) row.old) ≡ 0 → [] ≡ row_bytes (typemaps origins) row.old row.count row.at
unfolding entry_count
empty_row origins row none =
    let m = typemap_in (typemaps origins) row.old in
    sym (ap (copies row.count row.at (extent m)) (no_elements m none) ∙ copies_nil row.count row.at (extent m))

-- a datatype of which nothing is written
pub all_of_new : (origins : List Origin) (inner : Frame) (constructor : Make) → inner.next ≡ 0 → inner.row.count ≡ 0 → Some (Some constructor) ≡ option_map constructor_of (slice_get origins inner.id.0)
    → IfSome (slice_get origins inner.id.0) (ComesAfter inner.id.0) → finished origins inner [] ≡ bytes_at origins inner.id inner.by
all_of_new origins inner constructor next count made after =
    let found = derived_by constructor (slice_get origins inner.id.0) made in
    let comes : ComesAfter inner.id.0 (Derived constructor found.0) = subst (λ o. IfSome o (ComesAfter inner.id.0)) found.1 after in
    finished_without origins inner inner refl refl [] count ∙ ap (λ n. after_steps (typemaps origins) inner.by [] (drop n (steps_in origins inner.id))) next
    ∙ all_steps origins inner.id constructor found.0 inner.by found.1 comes
