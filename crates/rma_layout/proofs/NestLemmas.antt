-- Datatypes nested in one another, turn by turn.
use Rattle.std.proofs.Common.{◌≡◌, ℕ, zero, suc, ◌-◌, ◌<◌, ◌≤◌, ℤ, ◌+ℤ◌, List, [], ◌∷◌, ◌++◌, reverse, length, take, drop, Option, Some, None, refl, sym, ap, subst, ◌∙◌, arith}
use Rattle.rma_layout.proofs.Words.{append-nil, append_assoc, append_cancel_left, length-append, length-take, take-take, take_all, take-append-drop, drop_all, Block, Row, after_steps, row_bytes, steps_in, Output, IsSound, Appends, Refuses, IsRefusal, written, sealed, bytes_of, moved, copies, ints, LayoutError, Fault, Memory}
use Rattle.rma_layout.specs.inside.Frames.{AreNested, IsFrame, IsKnown, IsBefore, Holds, IsOn, IsInto, IsFault, IsExpanding, seen_of, bytes_at, finished}
use Rattle.std.proofs.lemmas.List.{reverse-append, drop-append-le}
use Rattle.rma_layout.specs.declared.frame.Frame.{Frame}
use Rattle.rma_layout.specs.declared.frame.Known.{Known}
use Rattle.rma_layout.proofs.BytesLemmas.{take_append, take_zero, bytes_of_append, bytes_of_nil, copies_of_moved, copies_suc}
use Rattle.rma_layout.proofs.OutputLemmas.{take_kept, more_refuses, sealed_is_sound, appends_then, refuses_later}
use Rattle.rma_layout.proofs.FrameLemmas.{finished_extends}
use Rattle.rma_type.specs.declared.id.TypeId.{TypeId}
use Rattle.rma_type.proofs.Words.{typemaps}
use Rattle.rma_type.specs.declared.origin.Origin.{Origin}

-- the blocks of a datatype stand behind those before it
split_blocks : (blocks : List Block) (n : ℕ) → bytes_of blocks ≡ bytes_of (take n blocks) ++ bytes_of (drop n blocks)
split_blocks blocks n = ap bytes_of (sym (take-append-drop n blocks)) ∙ bytes_of_append (take n blocks) (drop n blocks)

later_known : (floor later : ℕ) (k : Option Known) → floor ≤ later → IsBefore floor k → IsBefore later k
later_known floor later None le h = tt
later_known floor later (Some k) le h = omega arith

-- what is written is a part of the whole, and what follows in one datatype follows in the whole
module _ (origins : List Origin) (target : List ℤ) where
  pub whole_of : (blocks : List Block) (all : List ℤ) (fs : List Frame) → AreNested origins target blocks all fs → (more : List ℤ) × (target ≡ (bytes_of blocks ++ all) ++ more)
  whole_of blocks all [] h = ([], sym (ap (λ bs. (bytes_of bs ++ all) ++ []) h.0 ∙ ap (λ xs. (xs ++ all) ++ []) bytes_of_nil ∙ append-nil all ∙ h.1))
  whole_of blocks all (f ∷ fs) h =
      let seen = seen_of blocks f in
      let before = bytes_of (take f.from blocks) in
      let inner = finished_extends origins f (seen ++ all) in
      let outer = whole_of (take f.from blocks) (bytes_at origins f.id f.by) fs h.2 in
      let full : bytes_at origins f.id f.by ≡ (seen ++ all) ++ inner.0 = sym h.1 ∙ inner.1 in (
        inner.0 ++ outer.0,
        outer.1 ∙ ap (λ xs. (before ++ xs) ++ outer.0) full ∙ ap (λ xs. xs ++ outer.0) (sym (append_assoc before (seen ++ all) inner.0) ∙ ap (λ xs. xs ++ inner.0) (sym (append_assoc before seen all)))
            ∙ append_assoc ((before ++ seen) ++ all) inner.0 outer.0 ∙ ap (λ xs. (xs ++ all) ++ (inner.0 ++ outer.0)) (sym (split_blocks blocks f.from)),
      )

  -- a datatype that goes on after some bytes
  pub follows : (blocks : List Block) (f : Frame) (fs : List Frame) (bytes more : List ℤ) → AreNested origins target blocks [] (f ∷ fs) → finished origins f (seen_of blocks f) ≡ (seen_of blocks f ++ bytes) ++ more
      → (rest : List ℤ) × (target ≡ (bytes_of blocks ++ bytes) ++ rest)
  follows blocks f fs bytes more h rest =
      let seen = seen_of blocks f in
      let before = bytes_of (take f.from blocks) in
      let outer = whole_of (take f.from blocks) (bytes_at origins f.id f.by) fs h.2 in
      let full : bytes_at origins f.id f.by ≡ (seen ++ bytes) ++ more = sym h.1 ∙ ap (finished origins f) (append-nil seen) ∙ rest in (
        more ++ outer.0,
        outer.1 ∙ ap (λ xs. (before ++ xs) ++ outer.0) full ∙ ap (λ xs. xs ++ outer.0) (sym (append_assoc before (seen ++ bytes) more) ∙ ap (λ xs. xs ++ more) (sym (append_assoc before seen bytes)))
            ∙ append_assoc ((before ++ seen) ++ bytes) more outer.0 ∙ ap (λ xs. (xs ++ bytes) ++ (more ++ outer.0)) (sym (split_blocks blocks f.from)),
      )

-- ---- what is written of the whole

module _ (origins : List Origin) (start now : Output) (target : List ℤ) (top : Frame) (outer : List Frame) (h : IsExpanding origins start now target top outer) where
  written_start : written start ≡ []
  written_start = ap bytes_of h.begin ∙ bytes_of_nil

  -- as much of the whole as is to be written, where some bytes follow what is written
  cut_target : (bytes rest : List ℤ) → target ≡ (written now ++ bytes) ++ rest → take start.left target ≡ (written now ++ take now.left bytes) ++ take (now.left - length bytes) rest
  cut_target bytes rest is =
      let left : start.left - length (written now) ≡ now.left = omega (arith, h.budget) in
      ap (take start.left) (is ∙ append_assoc (written now) bytes rest) ∙ take_append start.left (written now) (bytes ++ rest)
      ∙ ap (λ xs. xs ++ take (start.left - length (written now)) (bytes ++ rest)) (take_all start.left (written now) (omega (arith, h.budget)))
      ∙ ap (λ n. written now ++ take n (bytes ++ rest)) left ∙ ap (λ xs. written now ++ xs) (take_append now.left bytes rest)
      ∙ sym (append_assoc (written now) (take now.left bytes) (take (now.left - length bytes) rest))

  -- no byte is left to be written
  pub all_full : now.left ≡ 0 → Appends start now target
  all_full full =
      let w = h.full full in
      let long = ap length w ∙ length-take start.left target in
      let zero_kept : start.floor ≤ 0 = omega (arith, h.begin_floor) in
      record {
        bytes_are = w ∙ ap (λ xs. xs ++ take start.left target) (sym written_start);
        left = omega (arith, h.budget, long);
        floor = omega (arith, h.begin_floor);
        kept = ap (λ n. take n now.blocks.items) h.begin_floor ∙ sym (ap (λ n. take n start.blocks.items) h.begin_floor);
        sound = h.sound;
      }

  -- all is written
  pub all_done : 0 < now.left → outer ≡ [] → ((seen : List ℤ) → finished origins top seen ≡ seen) → Appends start (sealed now) target
  all_done some none done =
      let nested = subst (λ fs. AreNested origins target now.blocks.items [] (top ∷ reverse fs)) none (h.nested some) in
      let seen = seen_of now.blocks.items top in
      let is : written now ≡ target = split_blocks now.blocks.items top.from ∙ ap (λ bs. bytes_of bs ++ seen) nested.2.0 ∙ ap (λ xs. xs ++ seen) bytes_of_nil
      ∙ sym (append-nil seen) ∙ sym (done (seen ++ [])) ∙ nested.1 ∙ nested.2.1 in
      let long = ap length is in
      record {
        bytes_are = is ∙ sym (take_all start.left target (omega (arith, h.budget, long))) ∙ ap (λ xs. xs ++ take start.left target) (sym written_start);
        left = omega (arith, h.budget, long);
        floor = omega (arith, h.begin_floor);
        kept = ap (λ n. take n now.blocks.items) h.begin_floor ∙ sym (ap (λ n. take n start.blocks.items) h.begin_floor);
        sound = sealed_is_sound now h.sound;
      }

  -- what is refused in a datatype is refused in the whole
  pub all_refused : 0 < now.left → (error : LayoutError) → IsFault origins now top error → Refuses start target error
  all_refused some Memory fault = tt
  all_refused some (Fault fault) r =
      let rest = follows origins target now.blocks.items top (reverse outer) r.bytes r.more (h.nested some) r.rest in
      subst (λ xs. IsRefusal xs (Fault fault)) (sym (ap (λ xs. xs ++ take start.left target) written_start ∙ cut_target r.bytes rest.0 rest.1))
      (more_refuses (written now ++ take now.left r.bytes) (take (now.left - length r.bytes) rest.0) (Fault fault) r.refuses)

  -- the datatype goes on
  module _ (new : Output) (g : Frame) (some : 0 < now.left) (on : IsOn origins now new top g) where
    on_full : new.left ≡ 0 → written new ≡ take start.left target
    on_full full =
        let more = finished_extends origins g (seen_of now.blocks.items top ++ on.bytes) in
        let rest = follows origins target now.blocks.items top (reverse outer) on.bytes more.0 (h.nested some) (sym on.rest ∙ more.1) in
        let none : now.left - length on.bytes ≡ 0 = sym on.appends.left ∙ full in
        on.appends.bytes_are ∙ sym (append-nil (written now ++ take now.left on.bytes)) ∙ ap (λ n. (written now ++ take now.left on.bytes) ++ take n rest.0) (sym none) ∙ sym (cut_target on.bytes rest.0 rest.1)

    same_before : take top.from new.blocks.items ≡ take top.from now.blocks.items
    same_before = take_kept new.blocks.items now.blocks.items now.floor top.from h.from on.appends.kept

    on_seen : 0 < new.left → seen_of new.blocks.items top ≡ seen_of now.blocks.items top ++ on.bytes
    on_seen left =
        let before = bytes_of (take top.from now.blocks.items) in
        let all : take now.left on.bytes ≡ on.bytes = take_all now.left on.bytes (omega (arith, on.appends.left)) in
        append_cancel_left before (seen_of new.blocks.items top) (seen_of now.blocks.items top ++ on.bytes)
        (ap (λ bs. bytes_of bs ++ seen_of new.blocks.items top) (sym same_before) ∙ sym (split_blocks new.blocks.items top.from) ∙ on.appends.bytes_are ∙ ap (λ xs. written now ++ xs) all
        ∙ ap (λ xs. xs ++ on.bytes) (split_blocks now.blocks.items top.from) ∙ append_assoc before (seen_of now.blocks.items top) on.bytes)

    kept_known : (k : Option Known) → IsBefore now.floor k → IsKnown origins now.blocks.items k → IsKnown origins new.blocks.items k
    kept_known None before is = tt
    kept_known (Some k) before is =
        let fits = on.appends.sound.floor in
        let grows = on.appends.floor in
        record {
          order = is.order;
          within = omega arith;
          bytes = ap (λ bs. bytes_of (drop k.from bs)) (take_kept new.blocks.items now.blocks.items now.floor k.to before on.appends.kept) ∙ is.bytes;
        }

    on_frame : IsFrame origins now.blocks.items top → IsFrame origins new.blocks.items g
    on_frame f =
        let fits = on.appends.sound.floor in
        let grows = on.appends.floor in
        let from = on.goes.from in
        let within = h.from in
        record {
          id = subst (λ (x : TypeId). x.0 < length origins) (sym on.goes.id) f.id;
          old = on.goes.old;
          from = omega arith;
          known = subst (λ k. IsKnown origins new.blocks.items k) (sym on.goes.known) (kept_known top.known h.known f.known);
        }

    same_bytes : bytes_at origins g.id g.by ≡ bytes_at origins top.id top.by
    same_bytes = ap (λ x. bytes_at origins x g.by) on.goes.id ∙ ap (λ x. bytes_at origins top.id x) on.goes.by

    on_nested : 0 < new.left → AreNested origins target new.blocks.items [] (g ∷ reverse outer)
    on_nested left =
        let n = h.nested some in
        let seen = seen_of now.blocks.items top in
        let done : finished origins g (seen_of new.blocks.items g ++ []) ≡ bytes_at origins g.id g.by =
        ap (finished origins g) (append-nil (seen_of new.blocks.items g) ∙ ap (λ k. bytes_of (drop k new.blocks.items)) on.goes.from ∙ on_seen left) ∙ on.rest
        ∙ ap (finished origins top) (sym (append-nil seen)) ∙ n.1 ∙ sym same_bytes in
        let outside : AreNested origins target (take g.from new.blocks.items) (bytes_at origins g.id g.by) (reverse outer) =
        subst (λ bs. AreNested origins target bs (bytes_at origins g.id g.by) (reverse outer)) (sym same_before ∙ ap (λ k. take k new.blocks.items) (sym on.goes.from))
        (subst (λ xs. AreNested origins target (take top.from now.blocks.items) xs (reverse outer)) (sym same_bytes) n.2) in
        (on_frame n.0, done, outside)

    pub turn_on : IsExpanding origins start new target g outer
    turn_on =
        let taken = length-take now.left on.bytes in
        let long = ap length on.appends.bytes_are ∙ length-append (written now) (take now.left on.bytes) in
        let grows = on.appends.floor in
        let from = on.goes.from in
        let within = h.from in
        record {
          begin = h.begin;
          begin_floor = h.begin_floor;
          sound = on.appends.sound;
          budget = omega (arith, h.budget, taken, long, on.appends.left);
          full = on_full;
          nested = on_nested;
          from = omega arith;
          known = subst (λ k. IsBefore new.floor k) (sym on.goes.known) (later_known now.floor new.floor top.known grows h.known);
        }

  -- an old datatype is begun
  module _ (g inner : Frame) (some : 0 < now.left) (into : IsInto origins now top g inner) where
    begun_frame : IsFrame origins now.blocks.items inner
    begun_frame =
        let at = into.from in
        record { id = into.id; old = into.row; from = omega arith; known = subst (λ k. IsKnown origins now.blocks.items k) (sym into.known) tt }

    outer_frame : IsFrame origins now.blocks.items top → IsFrame origins now.blocks.items g
    outer_frame f = record {
      id = subst (λ (x : TypeId). x.0 < length origins) (sym into.goes.id) f.id;
      old = into.goes.old;
      from = subst (λ n. n ≤ length now.blocks.items) (sym into.goes.from) f.from;
      known = subst (λ k. IsKnown origins now.blocks.items k) (sym into.goes.known) f.known;
    }

    kept_bytes : bytes_at origins g.id g.by ≡ bytes_at origins top.id top.by
    kept_bytes = ap (λ x. bytes_at origins x g.by) into.goes.id ∙ ap (λ x. bytes_at origins top.id x) into.goes.by

    begun_nested : AreNested origins target now.blocks.items [] (inner ∷ g ∷ reverse outer)
    begun_nested =
        let n = h.nested some in
        let blocks = now.blocks.items in
        let all = bytes_at origins inner.id inner.by in
        let none : seen_of blocks inner ++ [] ≡ [] = append-nil (seen_of blocks inner) ∙ ap bytes_of (drop_all inner.from blocks (omega (arith, into.from))) ∙ bytes_of_nil in
        let done : finished origins g (seen_of blocks g ++ all) ≡ bytes_at origins g.id g.by =
        into.rest (seen_of blocks g) ∙ ap (λ k. finished origins top (bytes_of (drop k blocks))) into.goes.from ∙ ap (finished origins top) (sym (append-nil (seen_of blocks top))) ∙ n.1 ∙ sym kept_bytes in
        let outside : AreNested origins target (take g.from blocks) (bytes_at origins g.id g.by) (reverse outer) =
        subst (λ k. AreNested origins target (take k blocks) (bytes_at origins g.id g.by) (reverse outer)) (sym into.goes.from)
        (subst (λ xs. AreNested origins target (take top.from blocks) xs (reverse outer)) (sym kept_bytes) n.2) in
        let inside : AreNested origins target blocks all (g ∷ reverse outer) = (outer_frame n.0, done, outside) in (
          begun_frame,
          ap (finished origins inner) none ∙ into.all,
          subst (λ bs. AreNested origins target bs all (g ∷ reverse outer)) (sym (take_all inner.from blocks (omega (arith, into.from)))) inside,
        )

    pub turn_into : IsExpanding origins start (sealed now) target inner (outer ++ g ∷ [])
    turn_into =
        let at = into.from in
        record {
          begin = h.begin;
          begin_floor = h.begin_floor;
          sound = sealed_is_sound now h.sound;
          budget = h.budget;
          full = h.full;
          nested = λ left. subst (λ fs. AreNested origins target now.blocks.items [] (inner ∷ fs)) (sym (reverse-append outer (g ∷ []))) begun_nested;
          from = omega arith;
          known = subst (λ k. IsBefore (length now.blocks.items) k) (sym into.known) tt;
        }

-- a frame with another known datatype is finished as before
pub same_frame : (origins : List Origin) (p q : Frame) (seen : List ℤ) → q.id ≡ p.id → q.by ≡ p.by → q.next ≡ p.next → q.row ≡ p.row → finished origins q seen ≡ finished origins p seen
unfolding finished
same_frame origins p q seen id by next row =
    ap (λ x. after_steps (typemaps origins) q.by (seen ++ row_bytes (typemaps origins) q.row.old q.row.count q.row.at) (drop q.next (steps_in origins x))) id
    ∙ ap (λ x. after_steps (typemaps origins) x (seen ++ row_bytes (typemaps origins) q.row.old q.row.count q.row.at) (drop q.next (steps_in origins p.id))) by
    ∙ ap (λ x. after_steps (typemaps origins) p.by (seen ++ row_bytes (typemaps origins) q.row.old q.row.count q.row.at) (drop x (steps_in origins p.id))) next
    ∙ ap (λ (x : Row). after_steps (typemaps origins) p.by (seen ++ row_bytes (typemaps origins) x.old x.count x.at) (drop p.next (steps_in origins p.id))) row

-- a datatype is written, and the one around it goes on
module _ (origins : List Origin) (start now : Output) (target : List ℤ) (top p q : Frame) (rest : List Frame) (to : ℕ) (h : IsExpanding origins start now target top (rest ++ p ∷ []))
    (some : 0 < now.left) (done : (seen : List ℤ) → finished origins top seen ≡ seen) (to_is : to ≡ length now.blocks.items)
    (id : q.id ≡ p.id) (by : q.by ≡ p.by) (from : q.from ≡ p.from) (next : q.next ≡ p.next) (row : q.row ≡ p.row)
    (known : q.known ≡ Some (record { id = top.id; by = top.by; from = top.from; to = to })) where
  abbrev blocks : List Block
  blocks = now.blocks.items

  nested_both : AreNested origins target blocks [] (top ∷ p ∷ reverse rest)
  nested_both = subst (λ fs. AreNested origins target blocks [] (top ∷ fs)) (reverse-append rest (p ∷ [])) (h.nested some)

  top_bytes : seen_of blocks top ≡ bytes_at origins top.id top.by
  top_bytes = sym (done (seen_of blocks top)) ∙ ap (finished origins top) (sym (append-nil (seen_of blocks top))) ∙ nested_both.1

  p_before : p.from ≤ top.from
  p_before = let inside = nested_both.2.0.from in let long = length-take top.from blocks in omega (arith, long)

  q_known : Holds origins blocks (record { id = top.id; by = top.by; from = top.from; to = to })
  q_known =
      let within = nested_both.0.from in
      record { order = omega arith; within = omega arith; bytes = ap (λ bs. bytes_of (drop top.from bs)) (take_all to blocks (omega arith)) ∙ top_bytes }

  q_frame : IsFrame origins blocks q
  q_frame =
      let within = nested_both.0.from in
      let before = p_before in
      record {
        id = subst (λ (x : TypeId). x.0 < length origins) (sym id) nested_both.2.0.id;
        old = subst (λ (x : Row). x.old.0 < length origins) (sym row) nested_both.2.0.old;
        from = omega arith;
        known = subst (λ k. IsKnown origins blocks k) (sym known) q_known;
      }

  q_bytes : bytes_at origins q.id q.by ≡ bytes_at origins p.id p.by
  q_bytes = ap (λ x. bytes_at origins x q.by) id ∙ ap (λ x. bytes_at origins p.id x) by

  q_seen : seen_of blocks q ≡ seen_of (take top.from blocks) p ++ bytes_at origins top.id top.by
  q_seen =
      let inside = nested_both.2.0.from in
      ap (λ k. bytes_of (drop k blocks)) from ∙ ap (λ bs. bytes_of (drop p.from bs)) (sym (take-append-drop top.from blocks))
      ∙ ap bytes_of (drop-append-le p.from (take top.from blocks) (drop top.from blocks) inside) ∙ bytes_of_append (drop p.from (take top.from blocks)) (drop top.from blocks)
      ∙ ap (λ xs. seen_of (take top.from blocks) p ++ xs) top_bytes

  q_nested : AreNested origins target blocks [] (q ∷ reverse rest)
  q_nested =
      let outside : AreNested origins target (take q.from blocks) (bytes_at origins q.id q.by) (reverse rest) =
      subst (λ k. AreNested origins target (take k blocks) (bytes_at origins q.id q.by) (reverse rest)) (sym from)
      (subst (λ xs. AreNested origins target (take p.from blocks) xs (reverse rest)) (sym q_bytes)
      (subst (λ bs. AreNested origins target bs (bytes_at origins p.id p.by) (reverse rest)) (take-take p.from top.from blocks p_before) nested_both.2.2)) in
      (q_frame, same_frame origins p q (seen_of blocks q ++ []) id by next row ∙ ap (finished origins p) (append-nil (seen_of blocks q) ∙ q_seen) ∙ nested_both.2.1 ∙ sym q_bytes, outside)

  pub turn_done : IsExpanding origins start (sealed now) target q rest
  turn_done =
      let within = q_frame.from in
      record {
        begin = h.begin;
        begin_floor = h.begin_floor;
        sound = sealed_is_sound now h.sound;
        budget = h.budget;
        full = h.full;
        nested = λ left. q_nested;
        from = within;
        known = subst (λ k. IsBefore (length blocks) k) (sym known) (omega arith);
      }

-- nothing is written yet
pub first_turn : (origins : List Origin) (o : Output) (target : List ℤ) (top : Frame) → IsSound o → o.blocks.items ≡ [] → top.id.0 < length origins → top.row.old.0 < length origins → top.from ≡ 0 → top.known ≡ None
    → finished origins top [] ≡ bytes_at origins top.id top.by → bytes_at origins top.id top.by ≡ target → IsExpanding origins o o target top []
first_turn origins o target top sound none id old from known all is =
    let nothing : written o ≡ [] = ap bytes_of none ∙ bytes_of_nil in
    let long = ap length nothing in
    let floor : o.floor ≤ 0 = subst (λ bs. o.floor ≤ length bs) none sound.floor in
    let empty : (n : ℕ) → seen_of o.blocks.items top ++ [] ≡ [] = λ n. append-nil (seen_of o.blocks.items top) ∙ ap (λ bs. bytes_of (drop top.from bs)) none ∙ ap bytes_of (drop_all top.from [] (omega arith)) ∙ bytes_of_nil in
    record {
      begin = none;
      begin_floor = omega arith;
      sound = sound;
      budget = omega arith;
      full = λ full. nothing ∙ sym (ap (λ n. take n target) full);
      nested = λ some. (
        record { id = id; old = old; from = omega arith; known = subst (λ k. IsKnown origins o.blocks.items k) (sym known) tt },
        ap (finished origins top) (empty 0) ∙ all,
        (ap (take top.from) none ∙ take_all top.from [] (omega arith), is),
      );
      from = omega arith;
      known = subst (λ k. IsBefore o.floor k) (sym known) tt;
    }

-- ---- copies of what is written first

-- where no byte is left to be written, any bytes may follow
full_any : (p q : Output) (xs ys : List ℤ) → p.left ≡ 0 → Appends p q xs → Appends p q ys
full_any p q xs ys full h = record {
  bytes_are = h.bytes_are ∙ ap (λ zs. written p ++ zs) (take_zero p.left xs full ∙ sym (take_zero p.left ys full));
  left = let l = h.left in omega arith;
  floor = h.floor;
  kept = h.kept;
  sound = h.sound;
}

module _ (o p : Output) (first : List ℤ) (n : ℕ) (stride : ℤ) (none : o.blocks.items ≡ []) (h : Appends o p first) where
  all_first : 0 < p.left → bytes_of (drop 0 p.blocks.items) ≡ first
  all_first some =
      let l = h.left in
      h.bytes_are ∙ ap (λ xs. xs ++ take o.left first) (ap bytes_of none ∙ bytes_of_nil) ∙ take_all o.left first (omega arith)

  pub copied_first : (q : Output) → Appends p q (copies n stride stride (bytes_of (drop 0 p.blocks.items))) → Appends o q (first ++ copies n stride stride first)
  copied_first q k = appends_then o p q first (copies n stride stride first) h (cases p.left refl)
    where
      cases : (m : ℕ) → p.left ≡ m → Appends p q (copies n stride stride first)
      cases zero e = full_any p q _ (copies n stride stride first) e k
      cases (suc m) e = subst (λ xs. Appends p q (copies n stride stride xs)) (all_first (omega arith)) k

  pub refused_first : (error : LayoutError) → Refuses p (copies n stride stride (bytes_of (drop 0 p.blocks.items))) error → Refuses o (first ++ copies n stride stride first) error
  refused_first error k = refuses_later o p first (copies n stride stride first) error h (cases p.left refl)
    where
      cases : (m : ℕ) → p.left ≡ m → Refuses p (copies n stride stride first) error
      cases zero e =
          subst (λ xs. IsRefusal (written p ++ xs) error) (take_zero p.left (copies n stride stride (bytes_of (drop 0 p.blocks.items))) e ∙ sym (take_zero p.left (copies n stride stride first) e)) k
      cases (suc m) e = subst (λ xs. Refuses p (copies n stride stride xs) error) (all_first (omega arith)) k

-- the copies after the first
pub later_copies : (n k : ℕ) (by stride distance : ℤ) (bs : List ℤ) → n ≡ suc k → stride ≡ distance → moved by bs ++ copies k stride stride (moved by bs) ≡ copies n by distance bs
later_copies n k by stride distance bs count same =
    let place : stride +ℤ by ≡ by +ℤ stride = omega (arith, ints) in
    ap (λ xs. moved by bs ++ xs) (copies_of_moved k stride stride by bs ∙ ap (λ x. copies k x stride bs) place) ∙ sym (copies_suc k by stride bs)
    ∙ ap (λ m. copies m by stride bs) (sym count) ∙ ap (λ x. copies n by x bs) same
