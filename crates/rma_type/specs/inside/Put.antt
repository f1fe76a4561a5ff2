-- A datatype put under a name.
use Rattle.std.specs.Prelude.{◌≡◌, ℕ, List, [], ◌∷◌, ◌++◌, length, Bool, true, false, Some, nat_eq}
use Rattle.std.specs.Cmp.Lexicographic.{pointwise}
use Rattle.indexmap.specs.IndexMap.{insert_entry}
use Rattle.rma_datatype.specs.declared.basic.Basic.{Basic}
use Rattle.rma_datatype.specs.Basic.{basic_word}
use Rattle.rma_type.specs.declared.id.TypeId.{TypeId}
use Rattle.rma_type.specs.declared.origin.Origin.{Origin}
use Rattle.rma_type.specs.declared.origin.Origin.TheVariants as origin
use Rattle.rma_type.specs.Table.{Table}
use Rattle.rma_type.specs.Names.{id_of}

-- the table after a datatype, committed or not, is put under a name
pub record IsPut (old new : Table) (name : List ℕ) (origin : Origin) (committed : Bool) (id : TypeId) : Type 0 where
  pub number : id.0 ≡ length old.origins
  pub origins : new.origins ≡ old.origins ++ origin ∷ []
  pub commits : new.committed ≡ old.committed ++ committed ∷ []
  pub entries : new.live ≡ insert_entry (pointwise nat_eq) old.live name id
  pub named : id_of new.live name ≡ Some id
  pub others : (other : List ℕ) → pointwise nat_eq name other ≡ false → id_of new.live other ≡ id_of old.live other

-- the table after a basic datatype is put under its word, committed
pub record IsWithBasic (old new : Table) (basic : Basic) : Type 0 where
  pub origins : new.origins ≡ old.origins ++ origin.Basic basic ∷ []
  pub commits : new.committed ≡ old.committed ++ true ∷ []
  pub entries : new.live ≡ insert_entry (pointwise nat_eq) old.live (basic_word basic) (record { 0 = length old.origins })
