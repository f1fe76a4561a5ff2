-- The sites of calls (the log format of this product).
use Rattle.std.specs.Prelude.{ℕ, List, length, Bool, not, ◌&&◌, ◌==◌, nat_le}
use Rattle.std.specs.List.{list_all}
use Rattle.rma_base.specs.Name.{is_between}

-- printable ASCII that is no space
abbrev pub is_site_byte : ℕ → Bool
is_site_byte b = is_between 33 126 b

-- 1 to 256 such bytes
abbrev pub is_site : List ℕ → Bool
is_site bytes = not (length bytes == 0) && nat_le (length bytes) 256 && list_all is_site_byte bytes
