-- The windows of a run, as they are created (MPI 4.0, "One-Sided Communications").
use Rattle.std.specs.Prelude.{◌≡◌, ◌+◌, ◌<◌, ◌≤◌, ◌==◌, ℕ, List, [], ◌∷◌, ◌++◌, length, Bool, true, ◌&&◌, Option, None, is_none, nat_le, nat_lt, option_map, find, position, fold, slice_get, nat_eq, if◌then◌else◌}
use Rattle.std.specs.Option.{option_and_then, option_map_or}
use Rattle.std.specs.Map.{lookup}
use Rattle.std.specs.Cmp.Lexicographic.{pointwise}
use Rattle.rma_base.specs.Limits.{address_limit, fed_limit}
use Rattle.rma_base.specs.declared.rank.Rank.{Rank}
use Rattle.rma_base.specs.declared.window.WinModel.{WinModel}
use Rattle.rma_base.specs.declared.window.AccOps.{AccOps}
use Rattle.rma_call.specs.declared.what.What.{What}
use Rattle.rma_window.specs.Creation.{Creation, creation_of}
use Rattle.rma_window.specs.declared.part.Part.{Part}
use Rattle.rma_window.specs.declared.window_id.WindowId.{WindowId}

-- a window: its name, its memory model, which accumulate operations may overlap, and whether it is dynamic, as its first
-- creation says; and the part of each rank that created it, in the order of the creations
pub record Window : Type 0 where
  pub name : List ℕ
  pub model : WinModel
  pub ops : AccOps
  pub dynamic : Bool
  pub parts : List (Rank × Part)

-- the name of a window
abbrev pub name_of : Window → List ℕ
name_of window = window.name

-- whether a window has this name
abbrev pub is_named : List ℕ → Window → Bool
is_named name window = pointwise nat_eq name window.name

-- the window of a name, by its number in the list
abbrev pub number_of : List Window → List ℕ → Option WindowId
number_of windows name = option_map (λ n. record { 0 = n }) (position (is_named name) windows)

-- the window of a number
abbrev pub window_of : List Window → WindowId → Option Window
window_of windows id = slice_get windows id.0

-- whether a rank is this one
abbrev pub is_rank : Rank → Rank → Bool
is_rank rank own = rank.0 == own.0

-- the part of a rank in a window, if it created it
abbrev pub part_in : Rank → Window → Option Part
part_in rank window = lookup (is_rank rank) window.parts

-- the part of a rank in the window of a number
abbrev pub part_of : List Window → WindowId → Rank → Option Part
part_of windows id rank = option_and_then (part_in rank) (window_of windows id)

-- the part of a rank in the window of a name
abbrev pub part_named : List Window → List ℕ → Rank → Option Part
part_named windows name rank = option_and_then (part_in rank) (find (is_named name) windows)

-- the window of its first creation
abbrev pub first_created : Creation → Window
first_created c = record { name = c.name; model = c.model; ops = c.ops; dynamic = c.dynamic; parts = (c.rank, c.part) ∷ [] }

-- a window with the part of one more rank
abbrev pub with_part : Window → Creation → Window
with_part window c = record window { parts = window.parts ++ (c.rank, c.part) ∷ [] }

-- the windows after one more creation: the window of its name has the part of the rank; where none has the name, a
-- window comes last, created with what this creation says
abbrev pub with_creation : List Window → Creation → List Window
with_creation [] c = first_created c ∷ []
with_creation (window ∷ windows) c = if is_named c.name window then with_part window c ∷ windows else window ∷ with_creation windows c

-- the windows after a call, the call of this number of a rank: it changes them where it creates a window, and else nothing
abbrev pub with_call : List Window → Rank → ℕ → What → List Window
with_call windows rank number what = option_map_or (with_creation windows) (creation_of rank number what) windows

-- a creation that may come next: the rank has no part of the window yet, the part lies in the space of addresses, and
-- there may be one more window
pub record MayCome (windows : List Window) (c : Creation) : Type 0 where
  pub has_none : part_named windows c.name c.rank ≡ None
  pub in_space : c.part.base + c.part.size ≤ address_limit
  pub has_room : length windows < fed_limit

-- whether a creation may come next
abbrev pub may_come : List Window → Creation → Bool
may_come windows c = is_none (part_named windows c.name c.rank) && (nat_le (c.part.base + c.part.size) address_limit && nat_lt (length windows) fed_limit)

-- whether a call of this number of a rank may: it creates no window, or one that may come
abbrev pub may_call : List Window → Rank → ℕ → What → Bool
may_call windows rank number what = option_map_or (may_come windows) (creation_of rank number what) true

-- the windows of these creations, one after the other
abbrev pub windows_by : List Creation → List Window
windows_by list = fold with_creation [] list

-- what a window was first created with
abbrev pub attributes_of : Window → List ℕ × WinModel × AccOps × Bool
attributes_of window = (window.name, window.model, window.ops, window.dynamic)
