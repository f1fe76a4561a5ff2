-- The limits of one audit (docs/FORMAT.md, "Limits").
use Rattle.std.specs.Prelude.{ℕ}

-- the most logs of one run
abbrev pub rank_limit : ℕ
rank_limit = 1024

-- the most bytes over all logs of one run
abbrev pub byte_limit : ℕ
byte_limit = 268435456

-- the most bytes of one line before its line feed
abbrev pub line_limit : ℕ
line_limit = 1048576

-- the most bytes of a name
abbrev pub name_limit : ℕ
name_limit = 64

-- the most bytes of a site, the `@` not counted
abbrev pub site_limit : ℕ
site_limit = 256

-- the most entries of one datatype, and touched entries of one access
abbrev pub element_limit : ℕ
element_limit = 67108864

-- the most blocks of one access
abbrev pub block_limit : ℕ
block_limit = 65536

-- addresses are 0 to this one, and a byte lies below it
abbrev pub address_limit : ℕ
address_limit = 281474976710656

-- the most dimensions of a subarray
abbrev pub dimension_limit : ℕ
dimension_limit = 8

-- the most bytes fed to one cutter, and the most calls of all ranks of one run together
abbrev pub fed_limit : ℕ
fed_limit = 536870912
