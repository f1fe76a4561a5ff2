-- The steps of datatypes of a table, one at a time.
use Rattle.std.proofs.Common.{◌≡◌, ℕ, zero, suc, ◌<◌, ◌≤◌, List, [], ◌∷◌, length, get_or, slice_get, Option, Some, None, Result, Ok, Err, IfOk, refl, sym, ap, subst, ◌∙◌, arith}
use Rattle.std.specs.Prelude.{option_map}
use Rattle.rma_layout.proofs.Words.{Again, Copies, LayoutError, Step, a_row, member_steps, steps_by, steps_of, steps_in, single_steps}
use Rattle.rma_layout.specs.inside.Steps.{IsStructOf, IsStepBefore, IsStepOver}
use Rattle.rma_datatype.specs.declared.make.Member.{Member}
use Rattle.rma_datatype.specs.declared.make.Make.{Make}
use Rattle.rma_datatype.specs.declared.make.Make.TheVariants.{Contiguous, Vector, Hvector, Indexed, Hindexed, IndexedBlock, Struct, Resized, Subarray}
use Rattle.rma_typemap.proofs.Words.{Typemap, extent, times}
use Rattle.rma_type.specs.Table.{constructor_of}
use Rattle.rma_type.specs.declared.id.TypeId.{TypeId}
use Rattle.rma_type.specs.declared.origin.Origin.{Origin}
use Rattle.rma_type.specs.declared.origin.Origin.TheVariants.{Derived}
use Rattle.rma_type.specs.declared.origin.Origin.TheVariants as origin
use Rattle.rma_type.proofs.Words.{typemap_in, typemaps}
use Rattle.rma_type.proofs.CheckLemmas.{HasOneOld}

-- ---- members

pub member_at : (ms : List Member) (olds : List TypeId) (i : ℕ) (m : Member) (old : TypeId) → i < length ms → m ≡ get_or ms i m → slice_get olds i ≡ Some old →
    slice_get (member_steps ms olds) i ≡ Some (a_row old (times m.length) m.displacement)
member_at [] olds i m old lt at found = absurd (omega arith)
member_at (x ∷ ms) [] i m old lt at found = absurd (cc)
member_at (x ∷ ms) (y ∷ olds) zero m old lt at found =
    let same : y ≡ old = cc in
    ap (λ z. Some (a_row z (times x.length) x.displacement)) same ∙ ap (λ (z : Member). Some (a_row old (times z.length) z.displacement)) (sym at)
member_at (x ∷ ms) (y ∷ olds) (suc i) m old lt at found = member_at ms olds i m old (omega arith) at found

pub past_members : (ms : List Member) (olds : List TypeId) (i : ℕ) → length ms ≤ i → slice_get (member_steps ms olds) i ≡ None
past_members [] olds i le = refl
past_members (x ∷ ms) [] i le = refl
past_members (x ∷ ms) (y ∷ olds) zero le = absurd (omega arith)
past_members (x ∷ ms) (y ∷ olds) (suc i) le = past_members ms olds i (omega arith)

module _ (members : List Member) (maps : List Typemap) where
  pub steps_of_struct : (found : Option Origin) → IsStructOf members found → (olds : List TypeId) × (found ≡ Some (Derived (Struct members) olds))
  steps_of_struct None h = absurd h
  steps_of_struct (Some (origin.Basic b)) h = absurd h
  steps_of_struct (Some (Derived constructor olds)) h = (olds, ap (λ c. Some (Derived c olds)) h)

-- ---- all

pub no_constructor : (maps : List Typemap) (found : Option Origin) → Some None ≡ option_map constructor_of found → steps_of maps found ≡ []
no_constructor maps None h = absurd (cc)
no_constructor maps (Some (origin.Basic b)) h = refl
no_constructor maps (Some (Derived constructor olds)) h = absurd (cc)

pub derived_by : (constructor : Make) (found : Option Origin) → Some (Some constructor) ≡ option_map constructor_of found → (olds : List TypeId) × (found ≡ Some (Derived constructor olds))
derived_by constructor None h = absurd (cc)
derived_by constructor (Some (origin.Basic b)) h = absurd (cc)
derived_by constructor (Some (Derived other olds)) h = let same : constructor ≡ other = cc in (olds, ap (λ c. Some (Derived c olds)) (sym same))

over_first : (maps : List Typemap) (constructor : Make) → HasOneOld constructor → (olds : List TypeId) (old : TypeId) → slice_get olds 0 ≡ Some old →
    steps_by maps constructor olds ≡ single_steps constructor old (extent (typemap_in maps old))
over_first maps (Struct members) one olds old at = absurd one
over_first maps (Contiguous count name) one [] old at = absurd (cc)
over_first maps (Contiguous count name) one (x ∷ olds) old at = let same : x ≡ old = cc in ap (λ y. single_steps (Contiguous count name) y (extent (typemap_in maps y))) same
over_first maps (Vector count len stride name) one [] old at = absurd (cc)
over_first maps (Vector count len stride name) one (x ∷ olds) old at = let same : x ≡ old = cc in ap (λ y. single_steps (Vector count len stride name) y (extent (typemap_in maps y))) same
over_first maps (Hvector count len stride name) one [] old at = absurd (cc)
over_first maps (Hvector count len stride name) one (x ∷ olds) old at = let same : x ≡ old = cc in ap (λ y. single_steps (Hvector count len stride name) y (extent (typemap_in maps y))) same
over_first maps (Indexed name blocks) one [] old at = absurd (cc)
over_first maps (Indexed name blocks) one (x ∷ olds) old at = let same : x ≡ old = cc in ap (λ y. single_steps (Indexed name blocks) y (extent (typemap_in maps y))) same
over_first maps (Hindexed name blocks) one [] old at = absurd (cc)
over_first maps (Hindexed name blocks) one (x ∷ olds) old at = let same : x ≡ old = cc in ap (λ y. single_steps (Hindexed name blocks) y (extent (typemap_in maps y))) same
over_first maps (IndexedBlock len name ats) one [] old at = absurd (cc)
over_first maps (IndexedBlock len name ats) one (x ∷ olds) old at = let same : x ≡ old = cc in ap (λ y. single_steps (IndexedBlock len name ats) y (extent (typemap_in maps y))) same
over_first maps (Resized name low e) one [] old at = absurd (cc)
over_first maps (Resized name low e) one (x ∷ olds) old at = let same : x ≡ old = cc in ap (λ y. single_steps (Resized name low e) y (extent (typemap_in maps y))) same
over_first maps (Subarray order name ds) one [] old at = absurd (cc)
over_first maps (Subarray order name ds) one (x ∷ olds) old at = let same : x ≡ old = cc in ap (λ y. single_steps (Subarray order name ds) y (extent (typemap_in maps y))) same

pub steps_of_one : (origins : List Origin) (id : TypeId) (constructor : Make) (olds : List TypeId) (old : TypeId) → HasOneOld constructor → slice_get origins id.0 ≡ Some (Derived constructor olds) →
    slice_get olds 0 ≡ Some old → steps_in origins id ≡ single_steps constructor old (extent (typemap_in (typemaps origins) old))
unfolding steps_in
steps_of_one origins id constructor olds old one at first = ap (steps_of (typemaps origins)) at ∙ over_first (typemaps origins) constructor one olds old first

pub steps_of_members : (origins : List Origin) (id : TypeId) (members : List Member) (olds : List TypeId) → slice_get origins id.0 ≡ Some (Derived (Struct members) olds) → steps_in origins id ≡ member_steps members olds
unfolding steps_in
steps_of_members origins id members olds at = ap (steps_of (typemaps origins)) at

pub steps_of_none : (origins : List Origin) (id : TypeId) → Some None ≡ option_map constructor_of (slice_get origins id.0) → steps_in origins id ≡ []
unfolding steps_in
steps_of_none origins id h = no_constructor (typemaps origins) (slice_get origins id.0) h

-- ---- the numbers of old datatypes

over_is_before : (old : TypeId) (n : ℕ) (step : Option Step) → old.0 < n → IsStepOver old step → IsStepBefore n step
over_is_before old n None lt h = tt
over_is_before old n (Some (Copies row)) lt h = subst (λ (x : TypeId). x.0 < n) (sym h) lt
over_is_before old n (Some (Again count stride)) lt h = tt

pub all_before : (old : TypeId) (n : ℕ) (r : Result (Option Step) LayoutError) → old.0 < n → IfOk r (IsStepOver old) → IfOk r (IsStepBefore n)
all_before old n (Ok step) lt h = over_is_before old n step lt h
all_before old n (Err e) lt h = tt
