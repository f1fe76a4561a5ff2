-- Where each name is declared first.
use Rattle.std.specs.Prelude.{◌≡◌, ℕ, List, Option, Some, None, position, nat_eq, if◌then◌else◌}
use Rattle.std.specs.Option.{option_or}
use Rattle.std.specs.Map.{lookup}
use Rattle.std.specs.Cmp.Lexicographic.{pointwise}
use Rattle.rma_member.specs.declared.declaration.Declaration.{Declaration}
use Rattle.rma_member.specs.Declaration.{is_of}

-- the index of a name in a map of indexes
abbrev pub index_of : List (List ℕ × ℕ) → List ℕ → Option ℕ
index_of indexes name = lookup (pointwise nat_eq name) indexes

-- the map has the first index of each name that the list declares, and no other name
abbrev pub AreFirstIndexes : {T : Type 0} → List (Declaration T) → List (List ℕ × ℕ) → Type 0
AreFirstIndexes list indexes = (name : List ℕ) → index_of indexes name ≡ position (is_of name) list

-- the map where a name is given an index, if it had none
abbrev pub IsNoted : List (List ℕ × ℕ) → List (List ℕ × ℕ) → List ℕ → ℕ → Type 0
IsNoted old new name index =
    (other : List ℕ) → index_of new other ≡ option_or (index_of old other) (if pointwise nat_eq name other then Some index else None)
