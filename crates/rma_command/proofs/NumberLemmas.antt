-- The number of a word, as the library parses it.
use Rattle.std.proofs.Common.{◌≡◌, ℕ, ◌<◌, ◌≤◌, ◌^◌, Bool, true, false, cond, List, [], ◌∷◌, length, Some, None, Result, Ok, Err, ◌&&◌, ◌==◌, nat_le, nat_lt, slice_index, refl, ap}
use Rattle.std.specs.List.{list_all}
use Rattle.std.specs.Result.{result_ok, OkIff}
use Rattle.std.specs.Str.Parse.{AllDigits, IsNumeral, digits_value, ParsesUnsigned}
use Rattle.std.proofs.lemmas.Bool.{ltb-true, lt-ltb, leb-true, le-leb, lt-leb, eqb-true}
use Rattle.rma_base.proofs.NameLemmas.{and_left, and_right}
use Rattle.rma_command.specs.Words.{is_digit, number_of}

-- the tests of a digit
passed : (ds : List ℕ) → AllDigits 10 ds → list_all is_digit ds ≡ true
passed [] all = refl
passed (d ∷ ds) all = rw (lt-ltb _ 10 all.0, passed ds all.1) refl

read : (ds : List ℕ) → list_all is_digit ds ≡ true → AllDigits 10 ds
read [] all = tt
read (d ∷ ds) all = (ltb-true _ 10 (and_left (is_digit d) (list_all is_digit ds) all), read ds (and_right (is_digit d) (list_all is_digit ds) all))

-- whether a word of few digits has a number
abbrev has_number : List ℕ → Bool
has_number word = nat_le 1 (length word) && nat_le (length word) 10 && list_all is_digit word && nat_lt (digits_value 10 word) (2 ^ 32)

abbrev HasNumber : List ℕ → Type 0
HasNumber word = IsNumeral 10 word × (digits_value 10 word < 2 ^ 32)

tests : (word : List ℕ) → length word ≤ 10 → HasNumber word → has_number word ≡ true
tests word few has = rw (le-leb 1 (length word) has.0.0, le-leb (length word) 10 few, passed word has.0.1, lt-ltb (digits_value 10 word) (2 ^ 32) has.1) refl

tested : (word : List ℕ) → has_number word ≡ true → HasNumber word
tested word has =
    let some = nat_le 1 (length word) in
    let few = nat_le (length word) 10 in
    let digits = list_all is_digit word in
    let small = nat_lt (digits_value 10 word) (2 ^ 32) in
    let three = and_left (some && few && digits) small has in (
      (leb-true 1 (length word) (and_left some few (and_left (some && few) digits three)), read word (and_right (some && few) digits three)),
      ltb-true (digits_value 10 word) (2 ^ 32) (and_right (some && few && digits) small has),
    )

-- what the library parses where no plus stands first
parsed : {E : Type 0} (word : List ℕ) (r : Result ℕ E) → length word ≤ 10 → OkIff r (HasNumber word) (digits_value 10 word) → result_ok r ≡ number_of word
parsed word (Ok n) few h = rw (tests word few h.0) (ap Some h.1)
parsed word (Err e) few h = by (has_number word) refl
  where
    by : (b : Bool) → has_number word ≡ b → None ≡ cond b (Some (digits_value 10 word)) None
    by false none = refl
    by true some = absurd (h (tested word some))

-- a word of too many digits has no number
pub no_number_of_many : (word : List ℕ) → 10 < length word → None ≡ number_of word
no_number_of_many word many = rw (lt-leb (length word) 10 many) (by (nat_le 1 (length word)))
  where
    by : (b : Bool) → None ≡ cond (b && false && list_all is_digit word && nat_lt (digits_value 10 word) (2 ^ 32)) (Some (digits_value 10 word)) None
    by false = refl
    by true = refl

-- nor has one that begins with a plus
pub no_number_of_plus : (word : List ℕ) → (slice_index word 0 == 43) ≡ true → None ≡ number_of word
no_number_of_plus [] plus = refl
no_number_of_plus (first ∷ rest) plus = let same : first ≡ 43 = eqb-true first 43 plus in rw same (by (nat_le 1 (length (43 ∷ rest)) && nat_le (length (43 ∷ rest)) 10))
  where
    by : (b : Bool) → None ≡ cond (b && (false && list_all is_digit rest) && nat_lt (digits_value 10 (43 ∷ rest)) (2 ^ 32)) (Some (digits_value 10 (43 ∷ rest))) None
    by false = refl
    by true = refl

-- a word that does not begin with a plus has the number that the library parses
pub number_is : {E : Type 0} (word : List ℕ) (r : Result ℕ E) → (slice_index word 0 == 43) ≡ false → length word ≤ 10 → ParsesUnsigned 32 10 word r → result_ok r ≡ number_of word
number_is word r plain few h = parsed word r few (rw plain at h)
