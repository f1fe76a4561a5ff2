-- Names of datatypes: what the live ones represent, and those that a constructor cites.
use Rattle.std.specs.Prelude.{ℕ, List, [], ◌∷◌, map, filter_map, Option, Bool, is_some, nat_eq}
use Rattle.std.specs.List.{list_all}
use Rattle.std.specs.Map.{lookup}
use Rattle.std.specs.Cmp.Lexicographic.{pointwise}
use Rattle.rma_datatype.specs.declared.make.Member.{Member}
use Rattle.rma_datatype.specs.declared.make.Make.{Make}
use Rattle.rma_datatype.specs.declared.make.Make.TheVariants.{Contiguous, Vector, Hvector, Indexed, Hindexed, IndexedBlock, Struct, Resized, Subarray}
use Rattle.rma_type.specs.declared.id.TypeId.{TypeId}

-- what a live name represents
abbrev pub id_of : List (List ℕ × TypeId) → List ℕ → Option TypeId
id_of live name = lookup (pointwise nat_eq name) live

-- the old names of members, in their order
abbrev pub member_names : List Member → List (List ℕ)
member_names members = map (λ m. m.old) members

-- the names of the old datatypes, in their order
abbrev pub old_names : Make → List (List ℕ)
old_names (Contiguous count old) = old ∷ []
old_names (Vector count len stride old) = old ∷ []
old_names (Hvector count len stride old) = old ∷ []
old_names (Indexed old blocks) = old ∷ []
old_names (Hindexed old blocks) = old ∷ []
old_names (IndexedBlock len old displacements) = old ∷ []
old_names (Struct members) = member_names members
old_names (Resized old low extent) = old ∷ []
old_names (Subarray order old dimensions) = old ∷ []

-- the old datatypes that the names represent
abbrev pub old_types_of : List (List ℕ × TypeId) → List (List ℕ) → List TypeId
old_types_of live names = filter_map (id_of live) names

-- whether all names are live
abbrev pub all_live : List (List ℕ × TypeId) → List (List ℕ) → Bool
all_live live names = list_all (λ name. is_some (id_of live name)) names
