-- Datatypes that are being written, nested in one another.
use Rattle.std.specs.Prelude.{◌≡◌, ℕ, ◌+◌, ◌<◌, ◌≤◌, ℤ, List, [], ◌∷◌, ◌++◌, length, reverse, take, drop, Option, Some, None}
use Rattle.rma_type.specs.declared.id.TypeId.{TypeId}
use Rattle.rma_type.specs.declared.origin.Origin.{Origin}
use Rattle.rma_type.specs.Table.{typemaps, typemap_in}
use Rattle.rma_layout.specs.declared.block.Block.{Block}
use Rattle.rma_layout.specs.declared.fault.LayoutError.{LayoutError}
use Rattle.rma_layout.specs.declared.fault.LayoutError.TheVariants.{Fault, Memory}
use Rattle.rma_layout.specs.declared.frame.Frame.{Frame}
use Rattle.rma_layout.specs.declared.frame.Known.{Known}
use Rattle.rma_layout.specs.declared.frame.Turn.{Turn}
use Rattle.rma_layout.specs.declared.frame.Turn.TheVariants.{On, Into, Done}
use Rattle.rma_layout.specs.declared.step.Row.{Row}
use Rattle.rma_typemap.specs.Bounds.{extent}
use Rattle.rma_layout.specs.declared.output.Output.{Output}
use Rattle.rma_layout.specs.inside.Bytes.{bytes_of, moved, typemap_bytes}
use Rattle.rma_layout.specs.inside.Output.{Appends, Refuses, IsSound, written}
use Rattle.rma_layout.specs.inside.Steps.{row_bytes, after_steps, steps_in}

-- the bytes of a datatype, displaced
abbrev pub bytes_at : List Origin → TypeId → ℤ → List ℤ
bytes_at origins id by = moved by (typemap_bytes (typemap_in (typemaps origins) id))

-- the bytes of a datatype in the end, where `seen` are written of it
unfoldable pub finished : List Origin → Frame → List ℤ → List ℤ
finished origins f seen =
    after_steps (typemaps origins) f.by (seen ++ row_bytes (typemaps origins) f.row.old f.row.count f.row.at) (drop f.next (steps_in origins f.id))

-- the bytes of a datatype that are written
abbrev pub seen_of : List Block → Frame → List ℤ
seen_of blocks f = bytes_of (drop f.from blocks)

-- blocks are the bytes of a datatype
pub record Holds (origins : List Origin) (blocks : List Block) (known : Known) : Type 0 where
  pub order : known.from ≤ known.to
  pub within : known.to ≤ length blocks
  pub bytes : bytes_of (drop known.from (take known.to blocks)) ≡ bytes_at origins known.id known.by

abbrev pub IsKnown : List Origin → List Block → Option Known → Type 0
IsKnown origins blocks None = Unit {0}
IsKnown origins blocks (Some known) = Holds origins blocks known

-- the known blocks stand before a block
abbrev pub IsBefore : ℕ → Option Known → Type 0
IsBefore floor None = Unit {0}
IsBefore floor (Some known) = known.to ≤ floor

-- a datatype that is being written
pub record IsFrame (origins : List Origin) (blocks : List Block) (f : Frame) : Type 0 where
  pub id : f.id.0 < length origins
  pub old : f.row.old.0 < length origins
  pub from : f.from ≤ length blocks
  pub known : IsKnown origins blocks f.known

-- bytes are those of the old datatype of a row, of this extent
pub record IsRowOf (origins : List Origin) (row : Row) (distance : ℤ) (bytes : List ℤ) : Type 0 where
  pub within : row.old.0 < length origins
  pub distance_is : distance ≡ extent (typemap_in (typemaps origins) row.old)
  pub bytes_are : bytes ≡ typemap_bytes (typemap_in (typemaps origins) row.old)

-- the datatype goes on: only its steps go on
pub record GoesOn (origins : List Origin) (f g : Frame) : Type 0 where
  pub id : g.id ≡ f.id
  pub by : g.by ≡ f.by
  pub from : g.from ≡ f.from
  pub known : g.known ≡ f.known
  pub old : g.row.old.0 < length origins

-- bytes were written, and what follows is to be written after them
pub record IsOn (origins : List Origin) (old new : Output) (f g : Frame) : Type 0 where
  pub bytes : List ℤ
  pub appends : Appends old new bytes
  pub goes : GoesOn origins f g
  pub rest : finished origins g (seen_of old.blocks.items f ++ bytes) ≡ finished origins f (seen_of old.blocks.items f)

-- an old datatype is to be written first
pub record IsInto (origins : List Origin) (old : Output) (f g inner : Frame) : Type 0 where
  pub goes : GoesOn origins f g
  pub id : inner.id.0 < length origins
  pub row : inner.row.old.0 < length origins
  pub from : inner.from ≡ length old.blocks.items
  pub known : inner.known ≡ None
  pub all : finished origins inner [] ≡ bytes_at origins inner.id inner.by
  pub rest : (seen : List ℤ) → finished origins g (seen ++ bytes_at origins inner.id inner.by) ≡ finished origins f seen

abbrev pub IsTurn : List Origin → Output → Output → Frame → Turn → Type 0
IsTurn origins old new f (On g) = IsOn origins old new f g
IsTurn origins old new f (Into g inner) = (new ≡ old) × IsInto origins old f g inner
IsTurn origins old new f Done = (new ≡ old) × ((seen : List ℤ) → finished origins f seen ≡ seen)

-- what was refused is a part of the datatype
pub record IsRefused (origins : List Origin) (old : Output) (f : Frame) (error : LayoutError) : Type 0 where
  pub bytes : List ℤ
  pub more : List ℤ
  pub rest : finished origins f (seen_of old.blocks.items f) ≡ (seen_of old.blocks.items f ++ bytes) ++ more
  pub refuses : Refuses old bytes error

abbrev pub IsFault : List Origin → Output → Frame → LayoutError → Type 0
IsFault origins old f Memory = Unit {0}
IsFault origins old f (Fault fault) = IsRefused origins old f (Fault fault)

-- datatypes in one another, the inner ones first: each is written up to the one in it, of which `inner` are all bytes
abbrev pub AreNested : List Origin → List ℤ → List Block → List ℤ → List Frame → Type 0
AreNested origins target blocks inner [] = (blocks ≡ []) × (inner ≡ target)
AreNested origins target blocks inner (f ∷ fs) =
    IsFrame origins blocks f
    × (finished origins f (seen_of blocks f ++ inner) ≡ bytes_at origins f.id f.by)
    × AreNested origins target (take f.from blocks) (bytes_at origins f.id f.by) fs

-- a datatype is being written from an output without a block on
pub record IsExpanding (origins : List Origin) (start now : Output) (target : List ℤ) (top : Frame) (outer : List Frame) : Type 0 where
  pub begin : start.blocks.items ≡ []
  pub begin_floor : start.floor ≡ 0
  pub sound : IsSound now
  pub budget : now.left + length (written now) ≡ start.left
  pub full : now.left ≡ 0 → written now ≡ take start.left target
  pub nested : 0 < now.left → AreNested origins target now.blocks.items [] (top ∷ reverse outer)
  pub from : top.from ≤ now.floor
  pub known : IsBefore now.floor top.known

-- what a turn leaves: the datatype that goes on, or all is written
abbrev pub IsAfterTurn : List Origin → Output → Output → List ℤ → List Frame → Option Frame → Type 0
IsAfterTurn origins start now target outer None = Appends start now target
IsAfterTurn origins start now target outer (Some top) = IsExpanding origins start now target top outer
