-- Groups of fields that may stand again and again behind the others, as the blocks of a datatype do (docs/FORMAT.md).
use Rattle.std.specs.Prelude.{ℕ, zero, suc, ℤ, List, [], ◌∷◌, length, take, drop, Result, Ok}
use Rattle.rma_base.specs.declared.form_reason.FormReason.{FormReason}
use Rattle.rma_base.specs.declared.version.Version.{Version}
use Rattle.rma_datatype.specs.declared.make.Block.{Block}
use Rattle.rma_datatype.specs.declared.make.ByteBlock.{ByteBlock}
use Rattle.rma_datatype.specs.declared.make.Dimension.{Dimension}
use Rattle.rma_datatype.specs.declared.make.Member.{Member}
use Rattle.rma_field.specs.Kinds.{Kind, integer, name}
use Rattle.rma_field.specs.Steps.{◌>>=◌}
use Rattle.rma_form.specs.Fields.{Values, all_written, values_of}

-- an `int` of C
abbrev pub int : Kind
int = integer 2147483648 2147483647

-- a distance in bytes
abbrev pub distance : Kind
distance = integer 140737488355328 140737488355328

-- what a group is
pub data Group : Type 0 where
  -- a block of `indexed`: its length and its displacement
  block : Group
  -- a block of `hindexed`: its length and its displacement in bytes
  byte_block : Group
  -- a displacement of `indexed_block`
  displacement : Group
  -- a block of `struct`: its length, its displacement in bytes, and its datatype
  member : Group
  -- a dimension of `subarray`: the size of the whole array, the size of the part, and where the part starts
  dimension : Group

-- what a good group stands for
abbrev pub Item : Group → Type 0
Item block = Block
Item byte_block = ByteBlock
Item displacement = ℤ
Item member = Member
Item dimension = Dimension

-- the kinds of its fields
abbrev pub item_kinds : Group → List Kind
item_kinds block = int ∷ int ∷ []
item_kinds byte_block = int ∷ distance ∷ []
item_kinds displacement = int ∷ []
item_kinds member = int ∷ distance ∷ name ∷ []
item_kinds dimension = int ∷ int ∷ int ∷ []

-- how many fields it has
abbrev pub item_size : Group → ℕ
item_size group = length (item_kinds group)

-- what is made of their values
abbrev pub item_of : (group : Group) → Values (item_kinds group) → Item group
item_of block values = record { length = values.0; displacement = values.1.0 }
item_of byte_block values = record { length = values.0; displacement = values.1.0 }
item_of displacement values = values.0
item_of member values = record { length = values.0; displacement = values.1.0; old = values.1.1.0 }
item_of dimension values = record { size = values.0; part = values.1.0; start = values.1.1.0 }

-- the values that make it
abbrev pub item_values : (group : Group) → Item group → Values (item_kinds group)
item_values block it = (it.length, (it.displacement, tt))
item_values byte_block it = (it.length, (it.displacement, tt))
item_values displacement it = (it, tt)
item_values member it = (it.length, (it.displacement, (it.old, tt)))
item_values dimension it = (it.size, (it.part, (it.start, tt)))

-- what the words of a group stand for, from left to right: the first bad one decides
abbrev pub item_read : (group : Group) → Version → List (List ℕ) → Result (Item group) FormReason
item_read group v words = values_of v (item_kinds group) words >>= λ values. Ok (item_of group values)

-- how it is written
abbrev pub item_words : (group : Group) → Item group → List (List ℕ)
item_words group it = all_written (item_kinds group) (item_values group it)

-- So many groups of so many words, one behind the other, each of which is read like this: the first bad one decides.
abbrev pub items_read : {A : Type 0} → ℕ → (List (List ℕ) → Result A FormReason) → ℕ → List (List ℕ) → Result (List A) FormReason
items_read size read zero words = Ok []
items_read size read (suc n) words = read (take size words) >>= λ item. items_read size read n (drop size words) >>= λ more. Ok (item ∷ more)
