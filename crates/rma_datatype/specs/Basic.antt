-- The basic datatypes with the sizes of LP64 (MPI 4.0, "Datatypes").
use Rattle.std.specs.Prelude.{ℕ, List, codes}
use Rattle.rma_datatype.specs.declared.basic.Basic.{Basic}
use Rattle.rma_datatype.specs.declared.basic.Basic.TheVariants.{SignedChar, UnsignedChar, Short, UnsignedShort, Int, Unsigned, Long, UnsignedLong, LongLong, UnsignedLongLong, Int8, Int16, Int32, Int64, Uint8, Uint16, Uint32, Uint64, Aint, Offset, Count, Float, Double, CBool, Byte, Char}
use Rattle.rma_datatype.specs.declared.basic.Class.{Class}
use Rattle.rma_datatype.specs.declared.basic.Class.TheVariants.{Integer, MultiLanguage, Floating, Logical, Character}
use Rattle.rma_datatype.specs.declared.basic.Class.TheVariants as class

-- the bytes of a value, which are its alignment too
abbrev pub basic_size : Basic → ℕ
basic_size SignedChar = 1
basic_size UnsignedChar = 1
basic_size Short = 2
basic_size UnsignedShort = 2
basic_size Int = 4
basic_size Unsigned = 4
basic_size Long = 8
basic_size UnsignedLong = 8
basic_size LongLong = 8
basic_size UnsignedLongLong = 8
basic_size Int8 = 1
basic_size Int16 = 2
basic_size Int32 = 4
basic_size Int64 = 8
basic_size Uint8 = 1
basic_size Uint16 = 2
basic_size Uint32 = 4
basic_size Uint64 = 8
basic_size Aint = 8
basic_size Offset = 8
basic_size Count = 8
basic_size Float = 4
basic_size Double = 8
basic_size CBool = 1
basic_size Byte = 1
basic_size Char = 1

-- what a value is
abbrev pub basic_class : Basic → Class
basic_class SignedChar = Integer
basic_class UnsignedChar = Integer
basic_class Short = Integer
basic_class UnsignedShort = Integer
basic_class Int = Integer
basic_class Unsigned = Integer
basic_class Long = Integer
basic_class UnsignedLong = Integer
basic_class LongLong = Integer
basic_class UnsignedLongLong = Integer
basic_class Int8 = Integer
basic_class Int16 = Integer
basic_class Int32 = Integer
basic_class Int64 = Integer
basic_class Uint8 = Integer
basic_class Uint16 = Integer
basic_class Uint32 = Integer
basic_class Uint64 = Integer
basic_class Aint = MultiLanguage
basic_class Offset = MultiLanguage
basic_class Count = MultiLanguage
basic_class Float = Floating
basic_class Double = Floating
basic_class CBool = Logical
basic_class Byte = class.Byte
basic_class Char = Character

-- the word of the log, which names the datatype in every table of types
abbrev pub basic_word : Basic → List ℕ
basic_word SignedChar = codes "SIGNED_CHAR"
basic_word UnsignedChar = codes "UNSIGNED_CHAR"
basic_word Short = codes "SHORT"
basic_word UnsignedShort = codes "UNSIGNED_SHORT"
basic_word Int = codes "INT"
basic_word Unsigned = codes "UNSIGNED"
basic_word Long = codes "LONG"
basic_word UnsignedLong = codes "UNSIGNED_LONG"
basic_word LongLong = codes "LONG_LONG"
basic_word UnsignedLongLong = codes "UNSIGNED_LONG_LONG"
basic_word Int8 = codes "INT8_T"
basic_word Int16 = codes "INT16_T"
basic_word Int32 = codes "INT32_T"
basic_word Int64 = codes "INT64_T"
basic_word Uint8 = codes "UINT8_T"
basic_word Uint16 = codes "UINT16_T"
basic_word Uint32 = codes "UINT32_T"
basic_word Uint64 = codes "UINT64_T"
basic_word Aint = codes "AINT"
basic_word Offset = codes "OFFSET"
basic_word Count = codes "COUNT"
basic_word Float = codes "FLOAT"
basic_word Double = codes "DOUBLE"
basic_word CBool = codes "C_BOOL"
basic_word Byte = codes "BYTE"
basic_word Char = codes "CHAR"
