-- What is written, one thing after another.
use Rattle.std.proofs.Common.{◌≡◌, ℕ, zero, suc, ◌+◌, ◌-◌, ◌*◌, ◌<◌, ◌≤◌, min, ℤ, pos, ◌+ℤ◌, ◌*ℤ◌, List, [], ◌∷◌, ◌++◌, length, get_or, set, take, drop, Some, None, Result, Ok, Err, OnOk, IfErr, refl, sym, ap, subst, ◌∙◌, arith}
use Rattle.rma_layout.proofs.Words.{append-nil, append_assoc, length-append, take-take, take_all, drop_more, drop_all, get_or-take, sealed, block_limit, ints, begins, breaks, breaks_from, end_from, bytes_of, span, moved, copies, Block, Output, IsSound, Appends, IsRefusal, Refuses, written, LayoutError, Fault, Memory, TooManyElements, TooManyBlocks, OutOfSpace}
use Rattle.rma_layout.proofs.BytesLemmas.{range, range_split, range_more, moved_append, moved_span, copies_split, copies_more, copies_of_span, copies_of_moved, span_none, take_append, take_zero, take_span, length_span, span_append, breaks_append, breaks_of_span, end_append, end_of_span, bytes_of_append, bytes_of_one, bytes_of_cons}

-- ---- results

pub on_ok : {T E : Type 0} (r : Result T E) (P Q : Type 0) → (P → Q) → OnOk r P → OnOk r Q
on_ok (Ok x) P Q f h = f h
on_ok (Err e) P Q f h = h

pub on_err : {T E : Type 0} (r : Result T E) (P Q : E → Type 0) → ((e : E) → P e → Q e) → IfErr r P → IfErr r Q
on_err (Ok x) P Q f h = h
on_err (Err e) P Q f h = f e h

-- ---- what is written

-- nothing is written, since there is nothing, or no byte is left to be written
pub appends_none : (o : Output) (bytes : List ℤ) → IsSound o → bytes ≡ [] → Appends o o bytes
appends_none o bytes sound none =
    let nothing : take o.left bytes ≡ [] = ap (take o.left) none ∙ take_all o.left [] (omega arith) in
    let empty : length bytes ≡ 0 = ap length none in
    record {
      bytes_are = sym (append-nil (written o)) ∙ ap (λ xs. written o ++ xs) (sym nothing);
      left = omega arith;
      floor = omega arith;
      kept = refl;
      sound = sound;
    }

pub appends_full : (o : Output) (bytes : List ℤ) → IsSound o → o.left ≡ 0 → Appends o o bytes
appends_full o bytes sound full = record {
  bytes_are = sym (append-nil (written o)) ∙ ap (λ xs. written o ++ xs) (sym (take_zero o.left bytes full));
  left = omega arith;
  floor = omega arith;
  kept = refl;
  sound = sound;
}

-- one thing, and then another
written_then : (o p q : Output) (xs ys : List ℤ) → Appends o p xs → Appends p q ys → written q ≡ written o ++ take o.left (xs ++ ys)
written_then o p q xs ys h k =
    rw (k.bytes_are, h.bytes_are, h.left, take_append o.left xs ys) (append_assoc (written o) (take o.left xs) (take (o.left - length xs) ys))

pub appends_then : (o p q : Output) (xs ys : List ℤ) → Appends o p xs → Appends p q ys → Appends o q (xs ++ ys)
appends_then o p q xs ys h k = record {
  bytes_are = written_then o p q xs ys h k;
  left = rw (k.left, h.left, length-append xs ys) (omega arith);
  floor = let a = h.floor in let b = k.floor in omega arith;
  kept =
      sym (take-take o.floor p.floor q.blocks.items h.floor) ∙ ap (take o.floor) k.kept ∙ take-take o.floor p.floor p.blocks.items h.floor ∙ h.kept;
  sound = k.sound;
}

-- the bytes are the same
pub appends_same : (o p : Output) (xs ys : List ℤ) → xs ≡ ys → Appends o p xs → Appends o p ys
appends_same o p xs ys e h = subst (λ zs. Appends o p zs) e h

pub refuses_same : (o : Output) (xs ys : List ℤ) (error : LayoutError) → xs ≡ ys → Refuses o xs error → Refuses o ys error
refuses_same o xs ys error e h = subst (λ zs. Refuses o zs error) e h

-- where no byte is left to be written, all that follows is written too
pub appends_rest : (o p : Output) (xs ys : List ℤ) → p.left ≡ 0 → Appends o p xs → Appends o p (xs ++ ys)
appends_rest o p xs ys full h = appends_then o p p xs ys h (appends_full p ys h.sound full)

-- what is refused is refused with more after it too
pub more_refuses : (xs ys : List ℤ) (error : LayoutError) → IsRefusal xs error → IsRefusal (xs ++ ys) error
more_refuses xs ys Memory h = tt
more_refuses xs ys (Fault TooManyElements) h = h
more_refuses xs ys (Fault TooManyBlocks) h = omega (arith, breaks_append None xs ys)
more_refuses xs ys (Fault OutOfSpace) h = h

pub refuses_first : (o : Output) (xs ys : List ℤ) (error : LayoutError) → Refuses o xs error → Refuses o (xs ++ ys) error
refuses_first o xs ys error h =
    rw (take_append o.left xs ys, ← append_assoc (written o) (take o.left xs) (take (o.left - length xs) ys)) (more_refuses (written o ++ take o.left xs) (take (o.left - length xs) ys) error h)

pub refuses_later : (o p : Output) (xs ys : List ℤ) (error : LayoutError) → Appends o p xs → Refuses p ys error → Refuses o (xs ++ ys) error
refuses_later o p xs ys error h k =
    rw (take_append o.left xs ys, ← append_assoc (written o) (take o.left xs) (take (o.left - length xs) ys), ← h.bytes_are, ← h.left) k

pub refuses_memory : (bytes : List ℤ) (error : LayoutError) → error ≡ Memory → IsRefusal bytes error
refuses_memory bytes error e = rw e tt

-- ---- one block

module _ (o new : Output) (at : ℤ) (len k : ℕ) (cut : k ≡ min len o.left) (some : 0 < k) (before : IsSound o)
    (bytes : written new ≡ written o ++ span at k) (count : new.count ≡ o.count + begins o.reached at) (reached : new.reached ≡ Some (at +ℤ pos k)) where
  taken : span at k ≡ take o.left (span at len)
  taken = ap (span at) cut ∙ sym (take_span at o.left len)

  pushed_count : new.count ≡ breaks (written new)
  pushed_count =
      count ∙ ap (λ n. n + begins o.reached at) before.count ∙ ap (λ e. breaks (written o) + begins e at) before.reached
      ∙ ap (λ n. breaks (written o) + n) (sym (breaks_of_span (end_from None (written o)) at k some))
      ∙ sym (breaks_append None (written o) (span at k)) ∙ ap breaks (sym bytes)

  pushed_reached : new.reached ≡ end_from None (written new)
  pushed_reached =
      reached ∙ sym (end_of_span (end_from None (written o)) at k some) ∙ sym (end_append None (written o) (span at k)) ∙ ap (end_from None) (sym bytes)

  pub appends_block : new.left ≡ o.left - k → new.floor ≡ o.floor → take o.floor new.blocks.items ≡ take o.floor o.blocks.items → new.count ≤ block_limit
      → o.floor ≤ length new.blocks.items → Appends o new (span at len)
  appends_block left floor kept few within = record {
    bytes_are = bytes ∙ ap (λ xs. written o ++ xs) taken;
    left = rw (left, length_span at len) (omega arith);
    floor = omega arith;
    kept = kept;
    sound = record { count = pushed_count; few = few; reached = pushed_reached; floor = omega arith };
  }

-- a block that would be one too many is refused
pub refuses_block : (o : Output) (at : ℤ) (len k : ℕ) (error : LayoutError) → k ≡ min len o.left → 0 < k → IsSound o → block_limit < o.count + begins o.reached at → error ≡ Fault TooManyBlocks
    → Refuses o (span at len) error
refuses_block o at len k error cut some before many e =
    let taken : span at k ≡ take o.left (span at len) = ap (span at) cut ∙ sym (take_span at o.left len) in
    let all : o.count + begins o.reached at ≡ breaks (written o ++ span at k) =
    ap (λ n. n + begins o.reached at) before.count ∙ ap (λ x. breaks (written o) + begins x at) before.reached
    ∙ ap (λ n. breaks (written o) + n) (sym (breaks_of_span (end_from None (written o)) at k some)) ∙ sym (breaks_append None (written o) (span at k)) in
    rw (e, ← taken) (omega arith)

-- nothing is written yet
pub empty_is_sound : (o : Output) → o.blocks.items ≡ [] → o.count ≡ 0 → o.reached ≡ None → o.floor ≡ 0 → IsSound o
unfolding bytes_of breaks_from end_from
empty_is_sound o none count reached floor = record {
  count = rw none count;
  few = omega arith;
  reached = rw none reached;
  floor = omega arith;
}

-- ---- the last block, made longer

pub bytes_of_longer : (bs : List Block) (i : ℕ) (last new block : Block) → suc i ≡ length bs → last ≡ get_or bs i last → last.start +ℤ pos last.len ≡ block.start
    → new.start ≡ last.start → new.len ≡ last.len + block.len → bytes_of (set bs i new) ≡ bytes_of bs ++ span block.start block.len
bytes_of_longer [] i last new block end is next start len = absurd (omega arith)
bytes_of_longer (b ∷ []) zero last new block end is next start len =
    let same : last ≡ b = is in
    rw (bytes_of_one new, bytes_of_one b, start, len, ← next, ← same) (span_append last.start last.len block.len)
bytes_of_longer (b ∷ c ∷ bs) zero last new block end is next start len = absurd (omega arith)
bytes_of_longer (b ∷ bs) (suc i) last new block end is next start len =
    rw (bytes_of_cons b (set bs i new), bytes_of_cons b bs, bytes_of_longer bs i last new block (omega arith) is next start len)
    (sym (append_assoc (span b.start b.len) (bytes_of bs) (span block.start block.len)))

pub bytes_of_push : (bs cs : List Block) (b : Block) → cs ≡ bs ++ b ∷ [] → bytes_of cs ≡ bytes_of bs ++ span b.start b.len
bytes_of_push bs cs b e = ap bytes_of e ∙ bytes_of_append bs (b ∷ []) ∙ ap (λ xs. bytes_of bs ++ xs) (bytes_of_one b)

-- a block of which nothing is to be written
pub appends_cut : (o : Output) (at : ℤ) (len : ℕ) → IsSound o → min len o.left ≡ 0 → Appends o o (span at len)
appends_cut o at len sound none =
    let nothing : take o.left (span at len) ≡ [] = take_span at o.left len ∙ ap (span at) none ∙ span_none at in
    record {
      bytes_are = sym (append-nil (written o)) ∙ ap (λ xs. written o ++ xs) (sym nothing);
      left = rw (length_span at len) (omega arith);
      floor = omega arith;
      kept = refl;
      sound = sound;
    }

-- ---- blocks copied one after another

module _ (o p : Output) (by : ℤ) (from i to : ℕ) (bs : List Block) (after : from ≤ i) (within : to ≤ length bs) where
  all_of_range : i ≤ to → moved by (range from i bs) ++ moved by (bytes_of (drop i (take to bs))) ≡ moved by (range from to bs)
  all_of_range before = sym (moved_append by (range from i bs) (bytes_of (drop i (take to bs)))) ∙ ap (moved by) (sym (range_split from i to bs after before within))

  -- all is written, since no byte is left to be written
  pub range_full : i ≤ to → p.left ≡ 0 → Appends o p (moved by (range from i bs)) → Appends o p (moved by (range from to bs))
  range_full before full h = appends_same o p _ _ (all_of_range before) (appends_rest o p (moved by (range from i bs)) (moved by (bytes_of (drop i (take to bs)))) full h)

  module _ (b : Block) (lt : i < to) (at : b ≡ get_or bs i b) where
    one_more : moved by (range from i bs) ++ span (by +ℤ b.start) b.len ≡ moved by (range from (i + 1) bs)
    one_more =
        ap (λ xs. moved by (range from i bs) ++ xs) (sym (moved_span by b.start b.len)) ∙ sym (moved_append by (range from i bs) (span b.start b.len))
        ∙ ap (λ (x : Block). moved by (range from i bs ++ span x.start x.len)) at ∙ ap (moved by) (sym (range_more from i bs b after (omega arith)))

    pub range_step : (q : Output) → Appends o p (moved by (range from i bs)) → Appends p q (span (by +ℤ b.start) b.len) → Appends o q (moved by (range from (i + 1) bs))
    range_step q h k = appends_same o q _ _ one_more (appends_then o p q (moved by (range from i bs)) (span (by +ℤ b.start) b.len) h k)

    pub range_refused : (error : LayoutError) → Appends o p (moved by (range from i bs)) → Refuses p (span (by +ℤ b.start) b.len) error → Refuses o (moved by (range from to bs)) error
    range_refused error h k =
        let one = moved by (range from i bs) ++ span (by +ℤ b.start) b.len in
        let later = moved by (bytes_of (drop (i + 1) (take to bs))) in
        let all : one ++ later ≡ moved by (range from to bs) =
        ap (λ xs. xs ++ later) one_more ∙ sym (moved_append by (range from (i + 1) bs) (bytes_of (drop (i + 1) (take to bs)))) ∙ ap (moved by) (sym (range_split from (i + 1) to bs (omega arith) (omega arith) within)) in
        refuses_same o _ _ error all (refuses_first o one later error (refuses_later o p (moved by (range from i bs)) (span (by +ℤ b.start) b.len) error h k))

-- ---- copies one after another

module _ (o p : Output) (k n : ℕ) (at stride by : ℤ) (bytes : List ℤ) (next : by ≡ at +ℤ pos k *ℤ stride) where
  pub copies_full : k ≤ n → p.left ≡ 0 → Appends o p (copies k at stride bytes) → Appends o p (copies n at stride bytes)
  copies_full le full h =
      appends_same o p _ _ (sym (copies_split k n at stride bytes le)) (appends_rest o p (copies k at stride bytes) (copies (n - k) (at +ℤ pos k *ℤ stride) stride bytes) full h)

  pub copies_step : (q : Output) → Appends o p (copies k at stride bytes) → Appends p q (moved by bytes) → Appends o q (copies (k + 1) at stride bytes)
  copies_step q h j = appends_same o q _ _ (copies_more k at stride by bytes next) (appends_then o p q (copies k at stride bytes) (moved by bytes) h j)

  pub copies_refused : (error : LayoutError) → k < n → Appends o p (copies k at stride bytes) → Refuses p (moved by bytes) error → Refuses o (copies n at stride bytes) error
  copies_refused error lt h j =
      let one = copies k at stride bytes ++ moved by bytes in
      let later = copies (n - (k + 1)) (at +ℤ pos (k + 1) *ℤ stride) stride bytes in
      let all : one ++ later ≡ copies n at stride bytes = ap (λ xs. xs ++ later) (copies_more k at stride by bytes next) ∙ sym (copies_split (k + 1) n at stride bytes (omega arith)) in
      refuses_same o _ _ error all (refuses_first o one later error (refuses_later o p (copies k at stride bytes) (moved by bytes) error h j))

pub next_copy : (k : ℕ) (at stride by next : ℤ) → by ≡ at +ℤ pos k *ℤ stride → next ≡ by +ℤ stride → next ≡ at +ℤ pos (k + 1) *ℤ stride
next_copy k at stride by next e f = let more : (at +ℤ pos k *ℤ stride) +ℤ stride ≡ at +ℤ pos (k + 1) *ℤ stride = omega (arith, ints) in f ∙ ap (λ x. x +ℤ stride) e ∙ more

pub first_copy : (at stride : ℤ) → at ≡ at +ℤ pos 0 *ℤ stride
first_copy at stride = omega (arith, ints)

-- ---- what is kept

pub take_kept : (xs ys : List Block) (n to : ℕ) → to ≤ n → take n xs ≡ take n ys → take to xs ≡ take to ys
take_kept xs ys n to le e = sym (take-take to n xs le) ∙ ap (take to) e ∙ take-take to n ys le

pub read_kept : (xs ys : List Block) (n i : ℕ) (b : Block) → i < n → take n xs ≡ take n ys → b ≡ get_or xs i b → b ≡ get_or ys i b
read_kept xs ys n i b lt e at = at ∙ sym (get_or-take n xs i b lt) ∙ ap (λ zs. get_or zs i b) e ∙ get_or-take n ys i b lt

pub sealed_is_sound : (o : Output) → IsSound o → IsSound (sealed o)
sealed_is_sound o h = record { count = h.count; few = h.few; reached = h.reached; floor = omega arith }

pub appends_sealed : (o p : Output) (bytes : List ℤ) → IsSound o → Appends (sealed o) p bytes → Appends o p bytes
appends_sealed o p bytes sound h = record {
  bytes_are = h.bytes_are;
  left = h.left;
  floor = let a = h.floor in let b = sound.floor in omega arith;
  kept = take_kept p.blocks.items o.blocks.items (length o.blocks.items) o.floor sound.floor h.kept;
  sound = h.sound;
}

-- ---- a block alone

pub copies_of_block : (n k : ℕ) (at stride : ℤ) (len : ℕ) → stride ≡ pos k → len ≡ n * k → span at len ≡ copies n (pos 0) stride (span at k)
copies_of_block n k at stride len e all =
    let same : pos 0 +ℤ at ≡ at = omega (arith, ints) in
    ap (span at) all ∙ ap (λ x. span x (n * k)) (sym same) ∙ sym (copies_of_span n k (pos 0) at) ∙ ap (λ s. copies n (pos 0) s (span at k)) (sym e)

pub only_block : (bs : List Block) (from : ℕ) (b : Block) → length bs - from ≡ 1 → b ≡ get_or bs from b → bytes_of (drop from bs) ≡ span b.start b.len
only_block bs from b one at =
    ap bytes_of (drop_more bs from b (omega arith)) ∙ ap (λ rest. bytes_of (get_or bs from b ∷ rest)) (drop_all (from + 1) bs (omega arith))
    ∙ bytes_of_one (get_or bs from b) ∙ ap (λ (x : Block). span x.start x.len) (sym at)

pub copies_of_only : (bs : List Block) (from n : ℕ) (stride : ℤ) (b c : Block) → length bs - from ≡ 1 → b ≡ get_or bs from b → c.start ≡ stride +ℤ b.start → c.len ≡ b.len
    → copies n (pos 0) stride (span c.start c.len) ≡ copies n stride stride (bytes_of (drop from bs))
copies_of_only bs from n stride b c one at start len =
    let same : pos 0 +ℤ stride ≡ stride = omega (arith, ints) in
    ap (λ x. copies n (pos 0) stride (span x c.len)) start ∙ ap (λ k. copies n (pos 0) stride (span (stride +ℤ b.start) k)) len
    ∙ ap (copies n (pos 0) stride) (sym (moved_span stride b.start b.len) ∙ ap (moved stride) (sym (only_block bs from b one at)))
    ∙ copies_of_moved n (pos 0) stride stride (bytes_of (drop from bs)) ∙ ap (λ x. copies n x stride (bytes_of (drop from bs))) same

pub same_block : (at x : ℤ) (n k : ℕ) → at ≡ x → n ≡ k → span at n ≡ span x k
same_block at x n k e f = ap (λ y. span y n) e ∙ ap (span x) f

pub copy_of_block : (by at next : ℤ) (n : ℕ) → next ≡ at +ℤ by → span next n ≡ moved by (span at n)
copy_of_block by at next n e = let same : at +ℤ by ≡ by +ℤ at = omega (arith, ints) in ap (λ y. span y n) (e ∙ same) ∙ sym (moved_span by at n)

pub zero_first : (x : ℤ) → pos 0 +ℤ x ≡ x
zero_first x = omega (arith, ints)
