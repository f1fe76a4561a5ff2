-- Whether a typemap lies in the space of addresses.
use Rattle.std.specs.Prelude.{ℤ, pos, neg_ℤ, ◌+ℤ◌, Bool, ◌&&◌, int_le}
use Rattle.std.specs.List.{list_all}
use Rattle.rma_base.specs.Limits.{address_limit}
use Rattle.rma_datatype.specs.Basic.{basic_size}
use Rattle.rma_typemap.specs.Typemap.{Typemap, Entry, element, lower_mark, upper_mark}

-- whether a number lies from the negative of the end of the space to that end
abbrev pub is_in_space : ℤ → Bool
is_in_space x = int_le (neg_ℤ (pos address_limit)) x && int_le x (pos address_limit)

-- whether the bytes of an element, or a marker, are in the space
abbrev pub entry_is_in_space : Entry → Bool
entry_is_in_space (element b at) = int_le (neg_ℤ (pos address_limit)) at && int_le (at +ℤ pos (basic_size b)) (pos address_limit)
entry_is_in_space (lower_mark at) = is_in_space at
entry_is_in_space (upper_mark at) = is_in_space at

-- whether all of a typemap is in the space
unfoldable pub is_all_in_space : Typemap → Bool
is_all_in_space parts = list_all entry_is_in_space parts
