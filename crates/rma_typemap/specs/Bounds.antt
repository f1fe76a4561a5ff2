-- Bounds, extent and size of a typemap (MPI 4.0, "Datatypes").
use Rattle.std.specs.Prelude.{ℕ, ℤ, pos, ◌+ℤ◌, ◌-ℤ◌, List, [], ◌∷◌, map, length, sum_by, Bool, false, ◌&&◌, ◌==◌, Option, Some, None}
use Rattle.std.specs.Int.{int_min, int_max, int_rem_euclid}
use Rattle.std.specs.Ordering.{int_eq}
use Rattle.rma_datatype.specs.declared.basic.Basic.{Basic}
use Rattle.rma_datatype.specs.Basic.{basic_size}
use Rattle.rma_typemap.specs.Typemap.{Typemap, elements, lower_marks, upper_marks, start_of, end_of, alignment_of, end_after, block_count}

-- the lesser, and the greater, of a number and one that may be there
abbrev pub lesser : ℤ → Option ℤ → ℤ
lesser x None = x
lesser x (Some y) = int_min x y

abbrev pub greater : ℤ → Option ℤ → ℤ
greater x None = x
greater x (Some y) = int_max x y

-- the least number of a list
abbrev pub least : List ℤ → Option ℤ
least [] = None
least (x ∷ xs) = Some (lesser x (least xs))

-- the greatest number of a list
abbrev pub greatest : List ℤ → Option ℤ
greatest [] = None
greatest (x ∷ xs) = Some (greater x (greatest xs))

-- the first of two numbers that is there, and else 0
abbrev pub first_of_both : Option ℤ → Option ℤ → ℤ
first_of_both (Some x) other = x
first_of_both None (Some y) = y
first_of_both None None = pos 0

-- the lower bound: the least marker of it where there is one, else the least displacement
unfoldable pub lower_bound : Typemap → ℤ
lower_bound parts = first_of_both (least (lower_marks parts)) (least (map start_of (elements parts)))

-- an end, raised by the least number of bytes that makes its distance from `low` a multiple of the alignment
abbrev pub raised : ℤ → ℕ → ℤ → ℤ
raised low alignment end = end +ℤ int_rem_euclid (low -ℤ end) (pos alignment)

abbrev pub raised_where_there : ℤ → ℕ → Option ℤ → Option ℤ
raised_where_there low alignment None = None
raised_where_there low alignment (Some end) = Some (raised low alignment end)

-- the upper bound: the greatest marker of it where there is one, else the greatest end of an element, raised so that the
-- extent is a multiple of the greatest alignment
unfoldable pub upper_bound : Typemap → ℤ
upper_bound parts = first_of_both (greatest (upper_marks parts))
    (raised_where_there (lower_bound parts) (alignment_of (elements parts)) (greatest (map end_of (elements parts))))

-- the extent, which is the distance of one copy from the next
unfoldable pub extent : Typemap → ℤ
extent parts = upper_bound parts -ℤ lower_bound parts

-- the bytes of all elements together
unfoldable pub size : Typemap → ℕ
size parts = sum_by (λ e. basic_size e.0) (elements parts)

-- the number of elements
unfoldable pub entry_count : Typemap → ℕ
entry_count parts = length (elements parts)

-- the basic datatypes of the elements in order
unfoldable pub signature : Typemap → List Basic
signature parts = map (λ e. e.0) (elements parts)

-- whether there are elements, which begin at `low` and end at `high`
abbrev pub fills : ℤ → ℤ → List (Basic × ℤ) → Bool
fills low high [] = false
fills low high (e ∷ es) = int_eq (start_of e) low && int_eq (end_after (end_of e) es) high

-- whether the elements in order form one block from the lower to the upper bound, and the extent is the size
unfoldable pub is_solid : Typemap → Bool
is_solid parts = (block_count (elements parts) == 1) && fills (lower_bound parts) (upper_bound parts) (elements parts)
    && int_eq (extent parts) (pos (size parts))
