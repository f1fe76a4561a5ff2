-- Tables of datatypes: the constructors in the order in which they were made, and the live names.
use Rattle.std.specs.Prelude.{◌≡◌, ℕ, ◌<◌, pos, List, [], ◌∷◌, ◌++◌, map, length, fold, slice_index_or, slice_get, option_and_then, Option, Some, None, Bool, true, false, All}
use Rattle.rma_datatype.specs.declared.make.Make.{Make}
use Rattle.rma_type.specs.declared.id.TypeId.{TypeId}
use Rattle.rma_type.specs.declared.origin.Origin.{Origin}
use Rattle.rma_type.specs.declared.origin.Origin.TheVariants.{Basic, Derived}
use Rattle.rma_typemap.specs.Typemap.{Typemap, element}
use Rattle.rma_typemap.specs.Constructors.{constructed}
use Rattle.rma_type.specs.Names.{id_of, old_names}

-- a table: where each datatype comes from, whether it is committed, and what each live name represents
pub record Table : Type 0 where
  pub origins : List Origin
  pub committed : List Bool
  pub live : List (List ℕ × TypeId)

-- the typemap of a number, which is empty where there is none
abbrev pub typemap_in : List Typemap → TypeId → Typemap
typemap_in maps id = slice_index_or maps id.0 []

-- the typemap that a datatype has, once those before it have theirs
abbrev pub typemap_of : List Typemap → Origin → Typemap
typemap_of earlier (Basic basic) = element basic (pos 0) ∷ []
typemap_of earlier (Derived constructor old_types) = constructed constructor (map (typemap_in earlier) old_types)

abbrev pub with_typemap : List Typemap → Origin → List Typemap
with_typemap earlier origin = earlier ++ typemap_of earlier origin ∷ []

-- the typemaps of all datatypes, in their order: each is that of its constructor over those before it
unfoldable pub typemaps : List Origin → List Typemap
typemaps origins = fold with_typemap [] origins

-- the constructor of a datatype that one made
abbrev pub constructor_of : Origin → Option Make
constructor_of (Basic basic) = None
constructor_of (Derived constructor old_types) = Some constructor

-- the datatypes that its old names represented when it was made
abbrev pub old_types_in : Origin → List TypeId
old_types_in (Basic basic) = []
old_types_in (Derived constructor old_types) = old_types

-- a constructor made the datatype, and it has an i-th old name
abbrev pub HasOld : ℕ → Origin → Type 0
HasOld i (Basic basic) = ⊥
HasOld i (Derived constructor old_types) = i < length (old_names constructor)

-- whether a datatype of a table is one that a constructor made
abbrev pub is_derived : Option Origin → Bool
is_derived None = false
is_derived (Some (Basic basic)) = false
is_derived (Some (Derived constructor old_types)) = true

-- whether a name is live and represents a datatype that a constructor made
abbrev pub names_derived : Table → List ℕ → Bool
names_derived table name = is_derived (option_and_then (λ id. slice_get table.origins id.0) (id_of table.live name))

-- the old datatypes of a constructor are as many as its old names, and come before it
abbrev pub ComesAfter : ℕ → Origin → Type 0
ComesAfter n (Basic basic) = Unit {0}
ComesAfter n (Derived constructor old_types) = (length old_types ≡ length (old_names constructor)) × All (λ id. id.0 < n) old_types
