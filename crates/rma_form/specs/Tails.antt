-- What may stand behind the fields of a line (docs/FORMAT.md).
use Rattle.std.specs.Prelude.{ℕ, ◌==◌, ◌||◌, ◌&&◌, ◌/◌, ◌%◌, true, nat_le, List, [], ◌∷◌, length, flat_map, Option, Some, None, Result, Ok, Err, decimal, if◌then◌else◌}
use Rattle.std.specs.Option.{option_map_or}
use Rattle.rma_base.specs.declared.form_reason.FormReason.{FormReason}
use Rattle.rma_base.specs.declared.form_reason.FormReason.TheVariants.{WrongCount}
use Rattle.rma_base.specs.declared.version.Version.{Version}
use Rattle.rma_base.specs.declared.version.Version.TheVariants.{One, Two}
use Rattle.rma_call.specs.declared.assertion.Assertion.{Assertion}
use Rattle.rma_call.specs.declared.assertion.Assertions.{Assertions}
use Rattle.rma_call.specs.declared.message.Received.{Received}
use Rattle.rma_field.specs.Assertions.{assertions_of, assertion_words}
use Rattle.rma_field.specs.Kinds.{rank_of}
use Rattle.rma_field.specs.Numbers.{natural}
use Rattle.rma_field.specs.Steps.{◌>>=◌}
use Rattle.rma_form.specs.Groups.{Group, Item, item_read, item_size, item_words, items_read}

-- what may stand behind the fields
pub data Tail : Type 0 where
  -- nothing
  closed : Tail
  -- the source and the tag of a message that was received, or nothing
  received : Tail
  -- words of assertions: of the first ones in a log of the first version, and of the others in one of the second
  asserted : List Assertion → List Assertion → Tail
  -- groups of fields: so many at least and, where there is a second number, so many at most
  groups : Group → ℕ → Option ℕ → Tail

-- what stands there, where it is good
abbrev pub TailValue : Tail → Type 0
TailValue closed = Unit {0}
TailValue received = Option Received
TailValue (asserted one two) = Assertions
TailValue (groups group least most) = List (Item group)

-- the assertions that a line may have in a log of this version
abbrev pub allowed_in : Version → Tail → List Assertion
allowed_in One (asserted one two) = one
allowed_in Two (asserted one two) = two
allowed_in v closed = []
allowed_in v received = []
allowed_in v (groups group least most) = []

-- so many words are whole groups of so many each, and as many of them as may stand
abbrev pub groups_counted : ℕ → ℕ → Option ℕ → ℕ → Result (Unit {0}) FormReason
groups_counted size least most n =
    if (n % size == 0) && (nat_le least (n / size) && option_map_or (λ bound. nat_le (n / size) bound) most true) then Ok tt else Err WrongCount

-- whether so many words may stand there, and words of assertions are good ones
abbrev pub tail_counted : Version → Tail → List (List ℕ) → Result (Unit {0}) FormReason
tail_counted v closed words = if length words == 0 then Ok tt else Err WrongCount
tail_counted v received words = if length words == 0 || length words == 2 then Ok tt else Err WrongCount
tail_counted v (asserted one two) words = assertions_of v (allowed_in v (asserted one two)) words >>= λ _. Ok tt
tail_counted v (groups group least most) words = groups_counted (item_size group) least most (length words)

-- what the words stand for, or why they are bad
abbrev pub tail_of : Version → (tail : Tail) → List (List ℕ) → Result (TailValue tail) FormReason
tail_of v closed words = Ok tt
tail_of v received [] = Ok None
tail_of v received (from ∷ []) = Err WrongCount
tail_of v received (from ∷ tag ∷ []) = rank_of v from >>= λ source. natural 0 2147483647 tag >>= λ t. Ok (Some (record { from = source; tag = t }))
tail_of v received (from ∷ tag ∷ more ∷ rest) = Err WrongCount
tail_of v (asserted one two) words = assertions_of v (allowed_in v (asserted one two)) words
tail_of v (groups group least most) words = items_read (item_size group) (item_read group v) (length words / item_size group) words

-- how it is written
abbrev pub received_words : Option Received → List (List ℕ)
received_words None = []
received_words (Some it) = decimal it.from.0 ∷ decimal it.tag ∷ []

abbrev pub tail_words : (tail : Tail) → TailValue tail → List (List ℕ)
tail_words closed value = []
tail_words received value = received_words value
tail_words (asserted one two) value = assertion_words value
tail_words (groups group least most) value = flat_map (item_words group) value
