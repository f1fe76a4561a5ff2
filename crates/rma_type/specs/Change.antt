-- What a call changes in a table of datatypes.
use Rattle.std.specs.Prelude.{◌≡◌, ℕ, List, [], ◌∷◌, ◌++◌, length, slice_set, IfSome, Some, None, true, false, nat_eq}
use Rattle.std.specs.Cmp.Lexicographic.{pointwise}
use Rattle.rma_datatype.specs.declared.make.Make.{Make}
use Rattle.rma_type.specs.declared.id.TypeId.{TypeId}
use Rattle.rma_type.specs.declared.origin.Origin.TheVariants.{Derived}
use Rattle.rma_type.specs.Names.{id_of, old_names, old_types_of}
use Rattle.rma_type.specs.Table.{Table}

-- the table after a datatype is made under a name
pub record IsMade (old new : Table) (name : List ℕ) (constructor : Make) (id : TypeId) : Type 0 where
  pub number : id.0 ≡ length old.origins
  pub origins : new.origins ≡ old.origins ++ Derived constructor (old_types_of old.live (old_names constructor)) ∷ []
  pub committed : new.committed ≡ old.committed ++ false ∷ []
  pub named : id_of new.live name ≡ Some id
  pub others : (other : List ℕ) → pointwise nat_eq name other ≡ false → id_of new.live other ≡ id_of old.live other

-- the table after the datatype of a live name is committed
pub record IsCommitted (old new : Table) (name : List ℕ) : Type 0 where
  pub origins : new.origins ≡ old.origins
  pub live : new.live ≡ old.live
  pub committed : IfSome (id_of old.live name) (λ id. new.committed ≡ slice_set old.committed id.0 true)

-- the table after a name is taken away
pub record IsFreed (old new : Table) (name : List ℕ) : Type 0 where
  pub origins : new.origins ≡ old.origins
  pub committed : new.committed ≡ old.committed
  pub freed : id_of new.live name ≡ None
  pub others : (other : List ℕ) → pointwise nat_eq name other ≡ false → id_of new.live other ≡ id_of old.live other
