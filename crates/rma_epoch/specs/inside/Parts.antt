-- How what calls share that do the same is kept.
use Rattle.std.specs.Prelude.{◌≡◌, ◌≤◌, ℕ, ◌+◌, zero, suc, List, map, Option, Some, None, option_map, slice_get}
use Rattle.std.specs.Option.{option_and_then}
use Rattle.rma_base.specs.Limits.{address_limit}
use Rattle.rma_base.specs.declared.rank.Rank.{Rank}
use Rattle.rma_call.specs.declared.what.What.{What}
use Rattle.rma_call.specs.declared.what.What.TheVariants.{Rma}
use Rattle.rma_window.specs.declared.part.Part.{Part}
use Rattle.rma_window.specs.declared.window_id.WindowId.{WindowId}
use Rattle.rma_window.specs.Windows.{Window, part_of}
use Rattle.rma_open.specs.Calls.{number_on, part_on}
use Rattle.rma_epoch.specs.declared.parts.Entry.{Entry}
use Rattle.rma_epoch.specs.declared.parts.PartKey.{PartKey}
use Rattle.rma_epoch.specs.declared.parts.Parts.{Parts}
use Rattle.rma_epoch.specs.Table.{OnWindow}

-- a number as it is kept: 0 is none, and the others stand one higher
abbrev pub number_kept : ℕ → Option ℕ
number_kept zero = None
number_kept (suc n) = Some n

-- a window as it is kept
abbrev pub window_kept : ℕ → Option WindowId
window_kept kept = option_map (λ n. record { 0 = n }) (number_kept kept)

-- a part as it is kept
abbrev pub part_kept : List (PartKey × Part) → ℕ → Option Part
part_kept parts kept = option_map (λ e. e.1) (option_and_then (slice_get parts) (number_kept kept))

-- what an entry stands for
abbrev pub shown : List (PartKey × Part) → Entry → OnWindow
shown parts entry = record { window = window_kept entry.window; part = part_kept parts entry.part }

-- a part lies in the space of addresses
abbrev pub IsInSpace : Part → Type 0
IsInSpace part = part.base + part.size ≤ address_limit

-- the parts that are kept do
abbrev pub AreInSpace : List (PartKey × Part) → Type 0
AreInSpace parts = (i : ℕ) (e : PartKey × Part) → slice_get parts i ≡ Some e → IsInSpace e.1

-- the parts that are kept are those of the windows, and lie in the space of addresses
pub record AreRemembered (windows : List Window) (parts : List (PartKey × Part)) : Type 0 where
  pub parts_are : (i : ℕ) (e : PartKey × Part) → slice_get parts i ≡ Some e → part_of windows e.0.window e.0.rank ≡ Some e.1
  pub in_space : AreInSpace parts

-- a number stands for a part, where it has one
abbrev pub IsPart : List (PartKey × Part) → Option ℕ → Option Part → Type 0
IsPart parts None part = part ≡ None
IsPart parts (Some i) part = (e : PartKey × Part) × (slice_get parts i ≡ Some e) × (part ≡ Some e.1)

-- an entry is that of calls that do this
pub record IsEntry (windows : List Window) (parts : List (PartKey × Part)) (what : What) (entry : Entry) : Type 0 where
  pub window : window_kept entry.window ≡ number_on windows what
  pub part : IsPart parts (number_kept entry.part) (part_on windows what)

-- the entries that are kept are those of what calls do, by number
pub record AreEntries (windows : List Window) (whats : List What) (kept : Parts) : Type 0 where
  pub each : (number : ℕ) (what : What) (entry : Entry) → slice_get whats number ≡ Some what → slice_get kept.entries.items number ≡ Some entry → IsEntry windows kept.parts.entries what entry

-- the target of a call that does this, where it is an access to one
abbrev pub target_of : What → Option Rank
target_of (Rma call) = call.target
target_of _ = None

-- the part of a target in a window, where there are both
abbrev pub part_to : List Window → Option WindowId → Option Rank → Option Part
part_to windows window target = option_and_then (λ id. option_and_then (part_of windows id) target) window

-- parts stay where they are
abbrev pub StayIn : List (PartKey × Part) → List (PartKey × Part) → Type 0
StayIn old new = (i : ℕ) (e : PartKey × Part) → slice_get old i ≡ Some e → slice_get new i ≡ Some e

-- the window at a number
abbrev pub window_at : List Entry → ℕ → Option WindowId
window_at entries number = option_and_then (λ entry. window_kept entry.window) (slice_get entries number)

-- the part at a number
abbrev pub part_at : List (PartKey × Part) → List Entry → ℕ → Option Part
part_at parts entries number = option_and_then (λ entry. part_kept parts entry.part) (slice_get entries number)

-- what stands in the table
abbrev pub shown_in : Parts → List OnWindow
shown_in kept = map (shown kept.parts.entries) kept.entries.items
