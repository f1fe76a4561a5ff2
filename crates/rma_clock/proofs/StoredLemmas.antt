-- Rows that are stored in blocks.
use Rattle.std.proofs.Common.{◌≡◌, ℕ, ◌+◌, ◌-◌, ◌*◌, ◌/◌, ◌%◌, ◌<◌, ◌≤◌, ⊎_elim, max, List, [], ◌∷◌, ◌++◌, length, get_or, map, sym, ap, subst, ◌∙◌, arith}
use Rattle.std.specs.Prelude.{slice_index, All}
use Rattle.std.specs.List.{range_with_len}
use Rattle.std.proofs.lemmas.Bool.{cases_lt}
use Rattle.std.proofs.lemmas.List.{map-append, same_lists, get_or-map, length-map, get_or_default}
use Rattle.std.proofs.lemmas.List.FromFn.{length-map-range_with_len, get_or-map-range_with_len}
use Rattle.std.proofs.lemmas.List.Elements.{All-push}
use Rattle.rma_clock.specs.declared.rows.Place.{Place}
use Rattle.rma_clock.specs.inside.Blocks.{IsGrown, IsBlock, AreBlocks}
use Rattle.rma_clock.specs.inside.Rows.{IsFound, IsPlaced, IsStored, number_at, row_of, start_at}
use Rattle.rma_clock.specs.inside.Table.{row_at}
use Rattle.rma_clock.proofs.BlockLemmas.{grown_at, grown_size}

-- tables that grow keep what is found
module _ (numbers lower upper more_numbers more_lower more_upper : List ℕ) (n : IsGrown numbers more_numbers) (l : IsGrown lower more_lower) (u : IsGrown upper more_upper) where
  module _ (start i : ℕ) (is : IsFound numbers lower upper start i) where
    top_same : slice_index more_upper (start + i / 16 / 8) ≡ slice_index upper (start + i / 16 / 8)
    top_same = grown_at upper more_upper u (start + i / 16 / 8) is.top

    start_same : start_at more_lower more_upper start (i / 16) ≡ start_at lower upper start (i / 16)
    start_same = ap (λ top. slice_index more_lower (top + i / 16 % 8)) top_same ∙ grown_at lower more_lower l (slice_index upper (start + i / 16 / 8) + i / 16 % 8) is.middle

    pub number_same : number_at more_numbers more_lower more_upper start i ≡ number_at numbers lower upper start i
    number_same = ap (λ first. slice_index more_numbers (first + i % 16)) start_same ∙ grown_at numbers more_numbers n (start_at lower upper start (i / 16) + i % 16) is.bottom

    pub found_grown : IsFound more_numbers more_lower more_upper start i
    found_grown =
        let in_numbers = grown_size numbers more_numbers n in
        let in_lower = grown_size lower more_lower l in
        let in_upper = grown_size upper more_upper u in
        let top = is.top in
        let middle = is.middle in
        let bottom = is.bottom in
        let T = top_same in
        let S = start_same in
        record { top = omega arith; middle = omega arith; bottom = omega arith }

  pub row_same : (place : Place) → IsPlaced numbers lower upper place → row_of more_numbers more_lower more_upper place ≡ row_of numbers lower upper place
  unfolding row_of
  row_same place is =
      let new : ℕ → ℕ = number_at more_numbers more_lower more_upper place.start in
      let old : ℕ → ℕ = number_at numbers lower upper place.start in
      let size_new : length (map new (range_with_len 0 place.width)) ≡ place.width = length-map-range_with_len new 0 place.width in
      let size_old : length (map old (range_with_len 0 place.width)) ≡ place.width = length-map-range_with_len old 0 place.width in
      same_lists (map new (range_with_len 0 place.width)) (map old (range_with_len 0 place.width)) (size_new ∙ sym size_old)
      (λ k d lt.
      let below : k < place.width = omega arith in
      let zero : 0 + k ≡ k = omega arith in
      get_or-map-range_with_len new 0 place.width k k d below zero ∙ number_same place.start k (is k below) ∙ sym (get_or-map-range_with_len old 0 place.width k k d below zero))

  pub rows_same : (places : List Place) → All (IsPlaced numbers lower upper) places → map (row_of more_numbers more_lower more_upper) places ≡ map (row_of numbers lower upper) places
  rows_same places are =
      let new : Place → List ℕ = row_of more_numbers more_lower more_upper in
      let old : Place → List ℕ = row_of numbers lower upper in
      let size_new : length (map new places) ≡ length places = length-map places new in
      let size_old : length (map old places) ≡ length places = length-map places old in
      let none : Place = record { start = 0; width = 0 } in
      same_lists (map new places) (map old places) (size_new ∙ sym size_old)
      (λ k d lt.
      let below : k < length places = omega arith in
      get_or-map new places k none d below ∙ row_same (get_or places k none) (are k none below) ∙ sym (get_or-map old places k none d below))

  pub placed_grown : (places : List Place) → All (IsPlaced numbers lower upper) places → All (IsPlaced more_numbers more_lower more_upper) places
  placed_grown places are k d below i inside = found_grown (get_or places k d).start i (are k d below i inside)

-- a stored row is read back
pub stored_row : (numbers lower upper : List ℕ) (place : Place) (row : List ℕ) → place.width ≡ length row → IsStored numbers lower upper place.start row → row_of numbers lower upper place ≡ row
unfolding row_of
stored_row numbers lower upper place row wide is =
    let at : ℕ → ℕ = number_at numbers lower upper place.start in
    let size : length (map at (range_with_len 0 place.width)) ≡ place.width = length-map-range_with_len at 0 place.width in
    same_lists (map at (range_with_len 0 place.width)) row (size ∙ wide)
    (λ k d lt.
    let below : k < place.width = omega arith in
    let inside : k < length row = omega arith in
    let zero : 0 + k ≡ k = omega arith in
    get_or-map-range_with_len at 0 place.width k k d below zero ∙ (is k inside).1 ∙ get_or_default row k 0 d inside)

-- a row by its index
module _ (numbers lower upper : List ℕ) (places : List Place) (index : ℕ) (place : Place) (there : index < length places) (is : place ≡ get_or places index place) where
  pub row_is : row_at (map (row_of numbers lower upper) places) index ≡ row_of numbers lower upper place
  row_is = get_or-map (row_of numbers lower upper) places index place [] there ∙ ap (row_of numbers lower upper) (sym is)

  pub row_size : length (row_at (map (row_of numbers lower upper) places) index) ≡ place.width
  unfolding row_of
  row_size = ap length row_is ∙ length-map-range_with_len (number_at numbers lower upper place.start) 0 place.width

  pub row_number : (i : ℕ) → i < place.width → slice_index (row_at (map (row_of numbers lower upper) places) index) i ≡ number_at numbers lower upper place.start i
  unfolding row_of
  row_number i below =
      let zero : 0 + i ≡ i = omega arith in
      ap (λ (row : List ℕ). slice_index row i) row_is ∙ get_or-map-range_with_len (number_at numbers lower upper place.start) 0 place.width i i 0 below zero

  pub row_found : All (IsPlaced numbers lower upper) places → (i : ℕ) → i < place.width → IsFound numbers lower upper place.start i
  row_found are = subst (IsPlaced numbers lower upper) (sym is) (are index place there)

-- what is cut into blocks, and these into blocks, is stored
pub stored_in_blocks : (numbers lower upper starts tops row : List ℕ) (start : ℕ) → AreBlocks 16 numbers starts row (length row) → AreBlocks 8 lower tops starts (length starts) → IsBlock upper start tops → IsStored numbers lower upper start row
stored_in_blocks numbers lower upper starts tops row start first second third i inside =
    let b : ℕ = i / 16 in
    let j : ℕ = i % 16 in
    let c : ℕ = i / 16 / 8 in
    let k : ℕ = i / 16 % 8 in
    let whole : b * 16 + j ≡ i = omega arith in
    let one = first b j (omega arith) (omega arith) in
    let in_starts = one.0 in
    let whole_too : c * 8 + k ≡ b = omega arith in
    let two = second c k (omega arith) (omega arith) in
    let three = third c two.0 in
    let top : slice_index upper (start + c) ≡ slice_index tops c = three.1 in
    let in_lower = two.1 in
    let in_numbers = one.1 in
    let middle : slice_index lower (slice_index upper (start + c) + k) ≡ slice_index starts b = ap (λ t. slice_index lower (t + k)) top ∙ two.2 ∙ ap (slice_index starts) whole_too in
    let bottom : slice_index numbers (slice_index lower (slice_index upper (start + c) + k) + j) ≡ slice_index row i = ap (λ s. slice_index numbers (s + j)) middle ∙ one.2 ∙ ap (slice_index row) whole in
    (record { top = three.0; middle = omega arith; bottom = omega arith }, bottom)

-- the number at an index of a row
module _ (numbers lower upper : List ℕ) (places : List Place) (rows : List (List ℕ)) (view : map (row_of numbers lower upper) places ≡ rows) (index : ℕ) (place : Place) (is : place ≡ get_or places index place)
    (below : index < length rows) where
  place_there : index < length places
  place_there = let size : length rows ≡ length places = ap length (sym view) ∙ length-map places (row_of numbers lower upper) in omega arith

  pub read_size : length (row_at rows index) ≡ place.width
  read_size = ap (λ (all : List (List ℕ)). length (row_at all index)) (sym view) ∙ row_size numbers lower upper places index place place_there is

  pub read_number : (i : ℕ) → i < length (row_at rows index) → slice_index (row_at rows index) i ≡ number_at numbers lower upper place.start i
  read_number i inside =
      let size = read_size in
      ap (λ (all : List (List ℕ)). slice_index (row_at all index) i) (sym view) ∙ row_number numbers lower upper places index place place_there is i (omega arith)

  pub read_found : All (IsPlaced numbers lower upper) places → (i : ℕ) → i < length (row_at rows index) → IsFound numbers lower upper place.start i
  read_found are i inside = let size = read_size in row_found numbers lower upper places index place place_there is are i (omega arith)

-- a block of a stored row
module _ (numbers lower upper : List ℕ) (start at first : ℕ) (here : 16 * (at / 16) ≡ at) (is : first ≡ start_at lower upper start (at / 16)) where
  pub block_number : (i k : ℕ) → i ≡ at + k → k < 16 → slice_index numbers (first + k) ≡ number_at numbers lower upper start i
  block_number i k same small =
      let block : i / 16 ≡ at / 16 = omega arith in
      let place : i % 16 ≡ k = omega arith in
      let begin : first ≡ start_at lower upper start (i / 16) = is ∙ ap (start_at lower upper start) (sym block) in
      let both : first + k ≡ start_at lower upper start (i / 16) + i % 16 = omega arith in
      ap (slice_index numbers) both

  pub block_within : (width count : ℕ) → ((i : ℕ) → i < width → IsFound numbers lower upper start i) → 0 < count → count ≤ 16 → at + count ≤ width → first + count ≤ length numbers
  block_within width count found some small within =
      let i : ℕ = at + (count - 1) in
      let block : i / 16 ≡ at / 16 = omega arith in
      let place : i % 16 ≡ count - 1 = omega arith in
      let begin : first ≡ start_at lower upper start (i / 16) = is ∙ ap (start_at lower upper start) (sym block) in
      let last = (found i (omega arith)).bottom in
      omega arith

-- numbers that are raised block by block
pub raised_block : (at count : ℕ) (first old new block : List ℕ) (stored : ℕ → ℕ) → ((k : ℕ) → k < count → slice_index new (at + k) ≡ max (slice_index old (at + k)) (slice_index block k))
    → ((i : ℕ) → i < at → slice_index new i ≡ slice_index old i) → ((k : ℕ) → k < count → slice_index block k ≡ stored (at + k)) → ((i : ℕ) → i < at → slice_index old i ≡ max (slice_index first i) (stored i))
    → ((i : ℕ) → at ≤ i → slice_index old i ≡ slice_index first i) → (i : ℕ) → i < at + count → slice_index new i ≡ max (slice_index first i) (stored i)
raised_block at count first old new block stored part before same raised rest i below =
    ⊎_elim
    (λ (early : i < at). before i early ∙ raised i early)
    (λ (late : at ≤ i).
    let k : ℕ = i - at in
    let place : at + k ≡ i = omega arith in
    let inside : k < count = omega arith in
    let from = part k inside in
    let number : slice_index block k ≡ stored i = same k inside ∙ ap stored place in
    let was : slice_index old (at + k) ≡ slice_index first i = ap (slice_index old) place ∙ rest i late in
    let now : slice_index new i ≡ slice_index new (at + k) = ap (slice_index new) (sym place) in
    now ∙ from ∙ ap (λ n. max n (slice_index block k)) was ∙ ap (max (slice_index first i)) number)
    (cases_lt i at)

-- one more row that is stored
module _ (numbers lower upper more_numbers more_lower more_upper : List ℕ) (n : IsGrown numbers more_numbers) (l : IsGrown lower more_lower) (u : IsGrown upper more_upper) (places : List Place) (are : All (IsPlaced numbers lower upper) places)
    (place : Place) (row : List ℕ) (wide : place.width ≡ length row) (is : IsStored more_numbers more_lower more_upper place.start row) where
  pub placed_more : All (IsPlaced more_numbers more_lower more_upper) (places ++ place ∷ [])
  placed_more =
      All-push (IsPlaced more_numbers more_lower more_upper) places place (placed_grown numbers lower upper more_numbers more_lower more_upper n l u places are)
      (λ i inside. (is i (omega arith)).0)

  pub rows_more : map (row_of more_numbers more_lower more_upper) (places ++ place ∷ []) ≡ map (row_of numbers lower upper) places ++ row ∷ []
  rows_more =
      let new : Place → List ℕ = row_of more_numbers more_lower more_upper in
      map-append new places (place ∷ [])
      ∙ ap (λ (rows : List (List ℕ)). rows ++ new place ∷ []) (rows_same numbers lower upper more_numbers more_lower more_upper n l u places are)
      ∙ ap (λ (last : List ℕ). map (row_of numbers lower upper) places ++ last ∷ []) (stored_row more_numbers more_lower more_upper place row wide is)
