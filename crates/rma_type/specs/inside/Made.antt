-- What is known of a new datatype before it is put into a table.
use Rattle.std.specs.Prelude.{◌≡◌, ℕ, ◌≤◌, List, length, Option, None, true, false, not, ◌||◌, nat_lt}
use Rattle.rma_base.specs.Limits.{element_limit}
use Rattle.rma_datatype.specs.declared.make.Make.{Make}
use Rattle.rma_type.specs.declared.id.TypeId.{TypeId}
use Rattle.rma_type.specs.declared.fault.TypeFault.{TypeFault}
use Rattle.rma_typemap.specs.declared.summary.Summary.{Summary}
use Rattle.rma_type.specs.declared.origin.Origin.{Origin}
use Rattle.rma_type.specs.declared.origin.Origin.TheVariants.{Derived}
use Rattle.rma_typemap.specs.Typemap.{Typemap}
use Rattle.rma_typemap.specs.Bounds.{entry_count}
use Rattle.rma_typemap.specs.Space.{is_all_in_space}
use Rattle.rma_typemap.specs.inside.Summary.{summary}
use Rattle.rma_type.specs.Table.{Table, typemaps, typemap_of, ComesAfter}
use Rattle.rma_type.specs.Names.{id_of, old_names, old_types_of, all_live}
use Rattle.rma_type.specs.Refusal.{has_negative, breaks_array, has_large_array, first_fault}

-- the old datatypes of a constructor whose names are in order, and whose arguments are
pub record IsChecked (table : Table) (name : List ℕ) (constructor : Make) (old_types : List TypeId) : Type 0 where
  pub old_types_are : old_types ≡ old_types_of table.live (old_names constructor)
  pub after : ComesAfter (length table.origins) (Derived constructor old_types)
  pub known : all_live table.live (old_names constructor) ≡ true
  pub fresh : id_of table.live name ≡ None
  pub counts : has_negative constructor ≡ false
  pub parts : breaks_array constructor ≡ false

-- the typemap of a constructor over old datatypes of a table
abbrev pub typemap_of_new : List Origin → Make → List TypeId → Typemap
typemap_of_new origins constructor old_types = typemap_of (typemaps origins) (Derived constructor old_types)

-- why a table refuses a typemap of a constructor in order, if it does
abbrev pub refusal_of_new : Typemap → Make → Option TypeFault
refusal_of_new parts constructor =
    first_fault false false false false (nat_lt element_limit (entry_count parts)) (not (is_all_in_space parts) || has_large_array constructor)

-- the summary of a typemap that a table takes
pub record IsMeasured (parts : Typemap) (constructor : Make) (result : Summary) : Type 0 where
  pub summary_is : result ≡ summary parts
  pub taken : refusal_of_new parts constructor ≡ None
  pub in_space : is_all_in_space parts ≡ true
  pub few : entry_count parts ≤ element_limit
