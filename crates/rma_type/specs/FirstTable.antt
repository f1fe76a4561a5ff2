-- The table of a rank that made no datatype yet: it has the basic ones (MPI 4.0, "Datatypes").
use Rattle.std.specs.Prelude.{ℕ, ◌+◌, List, [], ◌∷◌, map, true}
use Rattle.rma_datatype.specs.declared.basic.Basic.{Basic}
use Rattle.rma_datatype.specs.declared.basic.Basic.TheVariants.{SignedChar, UnsignedChar, Short, UnsignedShort, Int, Unsigned, Long, UnsignedLong, LongLong, UnsignedLongLong, Int8, Int16, Int32, Int64, Uint8, Uint16, Uint32, Uint64, Aint, Offset, Count, Float, Double, CBool, Byte, Char}
use Rattle.rma_datatype.specs.Basic.{basic_word}
use Rattle.rma_type.specs.declared.id.TypeId.{TypeId}
use Rattle.rma_type.specs.declared.origin.Origin.TheVariants as origin
use Rattle.rma_type.specs.Table.{Table}

-- the basic datatypes, in the order of their numbers
unfoldable pub basics : List Basic
basics =
    SignedChar ∷ UnsignedChar ∷ Short ∷ UnsignedShort ∷ Int ∷ Unsigned ∷ Long ∷ UnsignedLong ∷ LongLong ∷ UnsignedLongLong
    ∷ Int8 ∷ Int16 ∷ Int32 ∷ Int64 ∷ Uint8 ∷ Uint16 ∷ Uint32 ∷ Uint64
    ∷ Aint ∷ Offset ∷ Count ∷ Float ∷ Double ∷ CBool ∷ Byte ∷ Char ∷ []

-- the words of basic datatypes, each with its number, where the first has the number n
abbrev pub words_from : ℕ → List Basic → List (List ℕ × TypeId)
words_from n [] = []
words_from n (b ∷ bs) = (basic_word b, record { 0 = n }) ∷ words_from (n + 1) bs

-- the table in which basic datatypes stand in their order, each under its word and committed
unfoldable pub table_of_basics : List Basic → Table
table_of_basics bs = record { origins = map origin.Basic bs; committed = map (λ b. true) bs; live = words_from 0 bs }
