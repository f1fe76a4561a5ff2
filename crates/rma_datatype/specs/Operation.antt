-- The operations of the accumulate calls, and what each is allowed for (MPI 4.0, "One-Sided Communications").
use Rattle.std.specs.Prelude.{ℕ, List, codes, Bool, true, false}
use Rattle.rma_datatype.specs.declared.basic.Class.{Class}
use Rattle.rma_datatype.specs.declared.basic.Class.TheVariants.{Integer, MultiLanguage, Floating, Logical, Byte, Character}
use Rattle.rma_datatype.specs.declared.operation.Op.{Op}
use Rattle.rma_datatype.specs.declared.operation.Op.TheVariants.{Max, Min, Sum, Prod, Land, Lor, Lxor, Band, Bor, Bxor, Replace, NoOp}

-- the word of the log
abbrev pub op_word : Op → List ℕ
op_word Max = codes "MAX"
op_word Min = codes "MIN"
op_word Sum = codes "SUM"
op_word Prod = codes "PROD"
op_word Land = codes "LAND"
op_word Lor = codes "LOR"
op_word Lxor = codes "LXOR"
op_word Band = codes "BAND"
op_word Bor = codes "BOR"
op_word Bxor = codes "BXOR"
op_word Replace = codes "REPLACE"
op_word NoOp = codes "NO_OP"

-- values that can be added and ordered
abbrev pub is_arithmetic : Class → Bool
is_arithmetic Integer = true
is_arithmetic MultiLanguage = true
is_arithmetic Floating = true
is_arithmetic Logical = false
is_arithmetic Byte = false
is_arithmetic Character = false

-- values that can be taken for true or false
abbrev pub is_logical : Class → Bool
is_logical Integer = true
is_logical MultiLanguage = false
is_logical Floating = false
is_logical Logical = true
is_logical Byte = false
is_logical Character = false

-- values that can be taken for their bits
abbrev pub is_bitwise : Class → Bool
is_bitwise Integer = true
is_bitwise MultiLanguage = true
is_bitwise Floating = false
is_bitwise Logical = false
is_bitwise Byte = true
is_bitwise Character = false

-- values that can be compared and swapped
abbrev pub is_comparable : Class → Bool
is_comparable Integer = true
is_comparable MultiLanguage = true
is_comparable Floating = false
is_comparable Logical = true
is_comparable Byte = true
is_comparable Character = false

-- the classes for which an operation is allowed
abbrev pub op_allows : Op → Class → Bool
op_allows Max class = is_arithmetic class
op_allows Min class = is_arithmetic class
op_allows Sum class = is_arithmetic class
op_allows Prod class = is_arithmetic class
op_allows Land class = is_logical class
op_allows Lor class = is_logical class
op_allows Lxor class = is_logical class
op_allows Band class = is_bitwise class
op_allows Bor class = is_bitwise class
op_allows Bxor class = is_bitwise class
op_allows Replace class = true
op_allows NoOp class = true
