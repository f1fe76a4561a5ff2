-- How a table keeps windows: their names with what they were first created with, and the parts of all windows.
use Rattle.std.specs.Prelude.{ℕ, ◌+◌, ◌<◌, ◌≤◌, ◌==◌, List, [], ◌∷◌, All, nat_eq, if◌then◌else◌}
use Rattle.std.specs.List.{position_or_len}
use Rattle.std.specs.Map.{keys_of}
use Rattle.std.specs.Cmp.Lexicographic.{pointwise}
use Rattle.rma_base.specs.Limits.{address_limit, fed_limit}
use Rattle.rma_base.specs.declared.rank.Rank.{Rank}
use Rattle.rma_window.specs.declared.part.Part.{Part}
use Rattle.rma_window.specs.declared.windows.Attributes.{Attributes}
use Rattle.rma_window.specs.declared.windows.PartKey.{PartKey}
use Rattle.rma_window.specs.Creation.{Creation}
use Rattle.rma_window.specs.Windows.{Window}

-- the creation of these values
abbrev pub creation_with : List ℕ → Attributes → Rank → Part → Creation
creation_with name attributes rank part = record { rank = rank; name = name; model = attributes.model; ops = attributes.ops; dynamic = attributes.dynamic; part = part }

-- the index of a name among those that are kept, or that of the next one
abbrev pub index_of : List (List ℕ × Attributes) → List ℕ → ℕ
index_of names name = position_or_len (pointwise nat_eq name) (keys_of names)

-- the names with this one, which comes last with these attributes where it is new
abbrev pub with_name : List (List ℕ × Attributes) → List ℕ → Attributes → List (List ℕ × Attributes)
with_name [] name attributes = (name, attributes) ∷ []
with_name (named ∷ names) name attributes = if pointwise nat_eq name named.0 then named ∷ names else named ∷ with_name names name attributes

-- the parts of the window of this number
abbrev pub parts_in : ℕ → List (PartKey × Part) → List (Rank × Part)
parts_in number [] = []
parts_in number (e ∷ es) = if number == e.0.window.0 then (e.0.rank, e.1) ∷ parts_in number es else parts_in number es

-- the window of this number
abbrev pub window_at : ℕ → (List ℕ × Attributes) → List (PartKey × Part) → Window
window_at number named parts = record { name = named.0; model = named.1.model; ops = named.1.ops; dynamic = named.1.dynamic; parts = parts_in number parts }

-- the windows of these names, the first of which has this number
abbrev pub windows_from : ℕ → List (List ℕ × Attributes) → List (PartKey × Part) → List Window
windows_from number [] parts = []
windows_from number (named ∷ names) parts = window_at number named parts ∷ windows_from (number + 1) names parts

-- there are no more windows than there may be, and each part is that of one of them and lies in the space of addresses
pub record AreParts (count : ℕ) (parts : List (PartKey × Part)) : Type 0 where
  pub few : count ≤ fed_limit
  pub of_windows : All (λ e. e.0.window.0 < count) parts
  pub in_space : All (λ e. e.1.base + e.1.size ≤ address_limit) parts
