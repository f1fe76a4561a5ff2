-- What a table keeps, and what it represents.
use Rattle.std.specs.Prelude.{◌≡◌, ℕ, ◌<◌, ◌≤◌, ◌^◌, List, [], map, length, slice_get, slice_index_or, Some, true}
use Rattle.rma_base.specs.Limits.{element_limit}
use Rattle.rma_type.specs.declared.id.TypeId.{TypeId}
use Rattle.rma_type.specs.declared.origin.Origin.{Origin}
use Rattle.rma_type.specs.declared.table.Kept.{Kept}
use Rattle.rma_type.specs.declared.table.TypeTable.TheInside.{Inside}
use Rattle.rma_typemap.specs.Typemap.{Typemap}
use Rattle.rma_typemap.specs.Bounds.{entry_count, signature}
use Rattle.rma_typemap.specs.Space.{is_all_in_space}
use Rattle.rma_typemap.specs.inside.Summary.{summary}
use Rattle.rma_typemap.specs.declared.summary.Summary.{Summary}
use Rattle.rma_type.specs.Table.{ComesAfter, Table, typemaps}
use Rattle.rma_type.specs.inside.SignatureSource.{HasSignature}
use Rattle.rma_type.specs.Names.{id_of}

abbrev pub origins_of : List Kept → List Origin
origins_of kept = map (λ k. k.origin) kept

abbrev pub table_of : Inside → Table
table_of t = record { origins = origins_of t.types.items; committed = map (λ k. k.committed) t.types.items; live = t.live.entries }

-- what is kept of the n-th datatype is the summary of its typemap, which is in the space
pub record IsKept (parts : Typemap) (n : ℕ) (origin : Origin) (bounds : Summary) : Type 0 where
  pub summary_is : bounds ≡ summary parts
  pub in_space : is_all_in_space parts ≡ true
  pub few : entry_count parts ≤ element_limit
  pub after : ComesAfter n origin

-- what a table keeps represents its typemaps, and live names represent its datatypes
pub record IsTable (t : Inside) : Type 0 where
  pub each : (n : ℕ) (kept : Kept) → slice_get t.types.items n ≡ Some kept → IsKept (slice_index_or (typemaps (origins_of t.types.items)) n []) n kept.origin kept.summary
  pub signed : (n : ℕ) (kept : Kept) → slice_get t.types.items n ≡ Some kept → HasSignature t.signatures.items (signature (slice_index_or (typemaps (origins_of t.types.items)) n [])) kept.signature
  pub ids : (name : List ℕ) (id : TypeId) → id_of t.live.entries name ≡ Some id → id.0 < length t.types.items
  pub small : length t.types.items < 2 ^ 32
