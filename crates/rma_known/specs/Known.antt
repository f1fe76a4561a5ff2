-- The words of lines that are known.
use Rattle.std.specs.Prelude.{◌≡◌, ℕ, Bool, List, Option, Some, slice_get}
use Rattle.rma_base.specs.declared.version.Version.{Version}
use Rattle.rma_known.specs.Split.{IsSplit, SplitText}

-- words that were read in a version, with the call that was noted of them: the number of what it does, and its request; and
-- whether they state it whatever the datatypes are
pub record Known : Type 0 where
  pub version : Version
  pub words : List ℕ
  pub what : ℕ
  pub request : Option (List ℕ)
  pub lasts : Bool

-- it stands among these
abbrev pub IsAmong : List (Option Known) → Known → Type 0
IsAmong them known = (at : ℕ) × (slice_get them at ≡ Some (Some known))

-- it stands among these, and the line has its words in this version
pub record IsKnownLine (them : List (Option Known)) (now : Version) (line : SplitText) (known : Known) : Type 0 where
  pub among : IsAmong them known
  pub version : known.version ≡ now
  pub words : known.words ≡ line.words
  pub split : IsSplit line.line line.words line.site
