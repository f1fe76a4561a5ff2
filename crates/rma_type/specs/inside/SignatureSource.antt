-- Where a new datatype takes its signature.
use Rattle.std.specs.Prelude.{◌≡◌, ℕ, ◌<◌, List, length, map, flat_map, slice_get, Some, Vec}
use Rattle.std.specs.List.{zip}
use Rattle.std.specs.declared.alloc.Global.{Global}
use Rattle.rma_datatype.specs.declared.basic.Basic.{Basic}
use Rattle.rma_datatype.specs.declared.make.Member.{Member}
use Rattle.rma_typemap.specs.Bounds.{signature}
use Rattle.rma_typemap.specs.Constructors.{times}
use Rattle.rma_typemap.specs.Signature.{copies}
use Rattle.rma_type.specs.declared.id.TypeId.{TypeId}
use Rattle.rma_type.specs.declared.sig_run.SigRun.{SigRun}
use Rattle.rma_type.specs.declared.origin.Origin.{Origin}
use Rattle.rma_type.specs.declared.signature_source.SignatureSource.{SignatureSource}
use Rattle.rma_type.specs.declared.signature_source.SignatureSource.TheVariants.{Shared, Own}
use Rattle.rma_type.specs.Table.{typemaps, typemap_in}
use Rattle.rma_type.specs.Signature.{IsRunsOf}

-- the signature of a datatype of a table
abbrev pub signature_in : List Origin → TypeId → List Basic
signature_in origins id = signature (typemap_in (typemaps origins) id)

-- a datatype of the table has the signature, or runs of its own represent it
abbrev pub IsSourceOf : List Origin → List Basic → SignatureSource → Type 0
IsSourceOf origins basics (Shared id) = (id.0 < length origins) × (signature_in origins id ≡ basics)
IsSourceOf origins basics (Own runs) = IsRunsOf basics runs.items

-- each member beside the signature of its old datatype
abbrev pub with_signatures : List Origin → List Member → List TypeId → List (Member × List Basic)
with_signatures origins members old_types = zip members (map (signature_in origins) old_types)

-- the signature of members, each as copies of that of its old datatype
abbrev pub struct_signature : List (Member × List Basic) → List Basic
struct_signature members = flat_map (λ m. copies (times m.0.length) m.1) members

-- the signature of a number represents basic datatypes
pub record HasSignature (signatures : List (Vec SigRun Global)) (basics : List Basic) (number : ℕ) : Type 0 where
  pub runs : Vec SigRun Global
  pub at : slice_get signatures number ≡ Some runs
  pub represents : IsRunsOf basics runs.items
