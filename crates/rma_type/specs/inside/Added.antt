-- What a new datatype of a table has to meet.
use Rattle.std.specs.Prelude.{◌≡◌, ℕ, List, [], ◌∷◌, ◌++◌, length, Some, false, nat_eq}
use Rattle.std.specs.Cmp.Lexicographic.{pointwise}
use Rattle.rma_datatype.specs.declared.make.Make.{Make}
use Rattle.rma_typemap.specs.declared.summary.Summary.{Summary}
use Rattle.rma_typemap.specs.inside.Summary.{summary}
use Rattle.rma_type.specs.declared.id.TypeId.{TypeId}
use Rattle.rma_type.specs.declared.origin.Origin.{Origin}
use Rattle.rma_type.specs.declared.origin.Origin.TheVariants.{Derived}
use Rattle.rma_type.specs.Names.{id_of}
use Rattle.rma_type.specs.Table.{Table, typemaps, typemap_of}

-- the summary of the typemap of a constructor in a table
abbrev pub summary_of_new : List Origin → Make → List TypeId → Summary
summary_of_new origins constructor old_types = summary (typemap_of (typemaps origins) (Derived constructor old_types))

-- the table after a datatype is put under a name
pub record IsAdded (old new : Table) (name : List ℕ) (origin : Origin) (id : TypeId) : Type 0 where
  pub number : id.0 ≡ length old.origins
  pub origins : new.origins ≡ old.origins ++ origin ∷ []
  pub committed : new.committed ≡ old.committed ++ false ∷ []
  pub named : id_of new.live name ≡ Some id
  pub others : (other : List ℕ) → pointwise nat_eq name other ≡ false → id_of new.live other ≡ id_of old.live other
