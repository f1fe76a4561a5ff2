-- What the output stands for, and what a call adds to it.
use Rattle.std.specs.Prelude.{◌≡◌, ◌-◌, ◌<◌, ◌≤◌, ℤ, List, ◌++◌, length, take, None}
use Rattle.rma_base.specs.Limits.{block_limit}
use Rattle.rma_layout.specs.declared.fault.LayoutFault.TheVariants.{TooManyElements, TooManyBlocks, OutOfSpace}
use Rattle.rma_layout.specs.declared.fault.LayoutError.{LayoutError}
use Rattle.rma_layout.specs.declared.fault.LayoutError.TheVariants.{Fault, Memory}
use Rattle.rma_layout.specs.declared.output.Output.{Output}
use Rattle.rma_layout.specs.inside.Bytes.{bytes_of, breaks, end_from}

-- the bytes that are written
abbrev pub written : Output → List ℤ
written output = bytes_of output.blocks.items

-- what is kept beside the blocks is what they say
pub record IsSound (output : Output) : Type 0 where
  pub count : output.count ≡ breaks (written output)
  pub few : output.count ≤ block_limit
  pub reached : output.reached ≡ end_from None (written output)
  pub floor : output.floor ≤ length output.blocks.items

-- the output, with all that is written kept as it is
abbrev pub sealed : Output → Output
sealed output = record output { floor = length output.blocks.items }

-- bytes were written after the others, as far as there were bytes to be written
pub record Appends (old new : Output) (bytes : List ℤ) : Type 0 where
  pub bytes_are : written new ≡ written old ++ take old.left bytes
  pub left : new.left ≡ old.left - length bytes
  pub floor : old.floor ≤ new.floor
  pub kept : take old.floor new.blocks.items ≡ take old.floor old.blocks.items
  pub sound : IsSound new

-- bytes have more blocks than a call may have, where they are refused for it
abbrev pub IsRefusal : List ℤ → LayoutError → Type 0
IsRefusal bytes Memory = Unit {0}
IsRefusal bytes (Fault TooManyElements) = ⊥
IsRefusal bytes (Fault TooManyBlocks) = block_limit < breaks bytes
IsRefusal bytes (Fault OutOfSpace) = ⊥

-- bytes were refused after the others
abbrev pub Refuses : Output → List ℤ → LayoutError → Type 0
Refuses old bytes error = IsRefusal (written old ++ take old.left bytes) error
