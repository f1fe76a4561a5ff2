-- What a field means as a set of ranks (the log format of this product).
use Rattle.std.specs.Prelude.{ℕ, ℤ, pos, negsuc, Bool, false, not, ◌||◌, ◌==◌, nat_le, nat_eq, List, [], ◌∷◌, map, decimal, Option, Some, None, Result, Ok, Err, codes, option_and_then, option_map, if◌then◌else◌}
use Rattle.std.specs.Borrow.{Bor}
use Rattle.std.specs.List.{list_all, list_any, join_with_byte}
use Rattle.std.specs.Cmp.Lexicographic.{pointwise}
use Rattle.rma_base.specs.declared.form_reason.FormReason.{FormReason}
use Rattle.rma_base.specs.declared.form_reason.FormReason.TheVariants.{BadNumber, OutOfRange}
use Rattle.rma_base.specs.RankSet.{ascending}
use Rattle.rma_field.specs.Numbers.{number}

-- the pieces, where the first has one byte more in front
abbrev pub onto_first_piece : ℕ → List (List ℕ) → List (List ℕ)
onto_first_piece byte [] = (byte ∷ []) ∷ []
onto_first_piece byte (piece ∷ rest) = (byte ∷ piece) ∷ rest

-- what stands before, between and behind the commas
abbrev pub pieces : List ℕ → List (List ℕ)
pieces [] = [] ∷ []
pieces (byte ∷ bytes) = if byte == 44 then [] ∷ pieces bytes else onto_first_piece byte (pieces bytes)

-- the pieces of what is left, where something is
abbrev pub pieces_left : Option (Bor (List ℕ)) → List (List ℕ)
pieces_left None = []
pieces_left (Some text) = pieces text.now

-- any byte but a comma
abbrev pub is_comma_free : ℕ → Bool
is_comma_free byte = not (byte == 44)

-- the numbers that the pieces are, where each is one
abbrev pub numbers : List (List ℕ) → Option (List ℤ)
numbers [] = Some []
numbers (piece ∷ rest) = option_and_then (λ z. option_map (λ zs. z ∷ zs) (numbers rest)) (number piece)

-- two numbers are equal
abbrev pub is_same : ℤ → ℤ → Bool
is_same (pos m) (pos n) = m == n
is_same (pos m) (negsuc n) = false
is_same (negsuc m) (pos n) = false
is_same (negsuc m) (negsuc n) = m == n

-- a number stands twice
abbrev pub repeats : List ℤ → Bool
repeats [] = false
repeats (z ∷ zs) = list_any (λ y. is_same y z) zs || repeats zs

-- a number from 0 to the last rank
abbrev pub is_rank : ℕ → ℤ → Bool
is_rank last (pos n) = nat_le n last
is_rank last (negsuc n) = false

-- a number that is not negative
abbrev pub natural_of : ℤ → ℕ
natural_of (pos n) = n
natural_of (negsuc n) = 0

-- numbers are a set of ranks where none stands twice and each is a rank, up to the last one
abbrev pub set_of : ℕ → Option (List ℤ) → Result (List ℕ) FormReason
set_of last None = Err BadNumber
set_of last (Some zs) = if repeats zs then Err BadNumber else (if list_all (is_rank last) zs then Ok (ascending (map natural_of zs)) else Err OutOfRange)

-- what a field stands for that should be a set of ranks: the word `none`, or numbers joined by commas
abbrev pub rank_set : ℕ → List ℕ → Result (List ℕ) FormReason
rank_set last text = if pointwise nat_eq text (codes "none") then Ok [] else set_of last (numbers (pieces text))

-- ranks joined by commas, or the word `none`
abbrev pub ranks_text : List ℕ → List ℕ
ranks_text [] = codes "none"
ranks_text (rank ∷ more) = join_with_byte 44 (map decimal (rank ∷ more))
