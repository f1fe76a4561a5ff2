-- Basic datatypes that are the same.
use Rattle.std.proofs.Common.{◌≡◌, ℕ, List, [], ◌∷◌, Option, Some, None, true, nat_eq, if◌then◌else◌, refl, sym, ap, ◌∙◌, eq-eqb}
use Rattle.std.proofs.lemmas.Bool.{and_parts, eqb-true, false≢true}
use Rattle.std.specs.Cmp.Lexicographic.{pointwise}
use Rattle.rma_datatype.specs.Basic.{basic_word}
use Rattle.rma_datatype.specs.declared.basic.Basic.TheVariants.{SignedChar, UnsignedChar, Short, UnsignedShort, Int, Unsigned, Long, UnsignedLong, LongLong, UnsignedLongLong, Int8, Int16, Int32, Int64, Uint8, Uint16, Uint32, Uint64, Aint, Offset, Count, Float, Double, CBool, Byte, Char}
use Rattle.rma_type.specs.FirstTable.{basics}
use Rattle.rma_buffer.proofs.Words.{Basic, is_same}

-- ---- words

pub same_words : (v w : List ℕ) → pointwise nat_eq v w ≡ true → v ≡ w
same_words [] [] h = refl
same_words [] (b ∷ w) h = absurd (false≢true h)
same_words (a ∷ v) [] h = absurd (false≢true h)
same_words (a ∷ v) (b ∷ w) h =
    let parts = and_parts (nat_eq a b) (pointwise nat_eq v w) h in
    ap (λ x. x ∷ v) (eqb-true a b parts.0) ∙ ap (λ xs. b ∷ xs) (same_words v w parts.1)

itself : (w : List ℕ) → pointwise nat_eq w w ≡ true
itself [] = refl
itself (a ∷ w) = let first : nat_eq a a ≡ true = eq-eqb a a refl in rw (first, itself w)

-- ---- the basic datatype of a word

of_word : List Basic → List ℕ → Option Basic
of_word [] w = None
of_word (b ∷ bs) w = if pointwise nat_eq (basic_word b) w then Some b else of_word bs w

each_of_its_word : (b : Basic) → of_word basics (basic_word b) ≡ Some b
unfolding basics of_word
each_of_its_word SignedChar = refl
each_of_its_word UnsignedChar = refl
each_of_its_word Short = refl
each_of_its_word UnsignedShort = refl
each_of_its_word Int = refl
each_of_its_word Unsigned = refl
each_of_its_word Long = refl
each_of_its_word UnsignedLong = refl
each_of_its_word LongLong = refl
each_of_its_word UnsignedLongLong = refl
each_of_its_word Int8 = refl
each_of_its_word Int16 = refl
each_of_its_word Int32 = refl
each_of_its_word Int64 = refl
each_of_its_word Uint8 = refl
each_of_its_word Uint16 = refl
each_of_its_word Uint32 = refl
each_of_its_word Uint64 = refl
each_of_its_word Aint = refl
each_of_its_word Offset = refl
each_of_its_word Count = refl
each_of_its_word Float = refl
each_of_its_word Double = refl
each_of_its_word CBool = refl
each_of_its_word Byte = refl
each_of_its_word Char = refl

-- ---- the same

pub same_is_equal : (a b : Basic) → is_same a b ≡ true → a ≡ b
same_is_equal a b h =
    let found : Some a ≡ Some b = sym (each_of_its_word a) ∙ ap (of_word basics) (same_words (basic_word a) (basic_word b) h) ∙ each_of_its_word b in
    cc

pub same_itself : (b : Basic) → is_same b b ≡ true
same_itself b = itself (basic_word b)
