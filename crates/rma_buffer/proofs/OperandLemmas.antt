-- What is known of the elements of buffers.
use Rattle.std.proofs.Common.{◌≡◌, ℤ, pos, ◌*◌, List, [], ◌∷◌, length, flat_map, option_to_list, slice_get, Option, Some, None, option_map, Bool, true, false, if◌then◌else◌, refl, sym, ap, ◌∙◌}
use Rattle.rma_layout.proofs.TableLemmas.{typemap_at}
use Rattle.rma_type.specs.Table.{constructor_of, typemap_in, typemaps}
use Rattle.rma_type.specs.declared.component.Component.TheVariants.{Empty, One, Mixed}
use Rattle.rma_type.specs.declared.id.TypeId.{TypeId}
use Rattle.rma_type.specs.declared.origin.Origin.{Origin}
use Rattle.rma_type.specs.declared.origin.Origin.TheVariants.{Derived}
use Rattle.rma_type.specs.declared.origin.Origin.TheVariants as origin
use Rattle.rma_typemap.specs.Bounds.{signature}
use Rattle.rma_typemap.specs.Typemap.{Typemap, element}
use Rattle.rma_typemap.proofs.SignatureLemmas.{length_copies, length_signature}
use Rattle.rma_buffer.specs.Operands.{entries_in}
use Rattle.rma_buffer.specs.Rules.{basic_in, basics_in, signature_of}
use Rattle.rma_buffer.specs.declared.operand.Operand.{Operand}
use Rattle.rma_buffer.proofs.Words.{Basic, Component, IsComponentOf, All-cons, All-nil, All-head, append-nil}

-- ---- a buffer that an operation may leave alone

pub chosen_none : (f : Operand → List Basic) (t : Bool) (it : Operand) (chosen : Option Operand) → chosen ≡ None → t ≡ true → flat_map f (option_to_list chosen) ≡ (if t then [] else f it)
chosen_none f t it chosen e h = rw (e, h)

pub chosen_some : (f : Operand → List Basic) (t : Bool) (it : Operand) (chosen : Option Operand) → chosen ≡ Some it → t ≡ false → flat_map f (option_to_list chosen) ≡ (if t then [] else f it)
chosen_some f t it chosen e h = rw (e, h) (append-nil (f it))

-- ---- a buffer of a basic datatype

no_constructor : (found : Option Origin) → Some None ≡ option_map constructor_of found → (basic : Basic) × (found ≡ Some (origin.Basic basic))
no_constructor None h = absurd (cc)
no_constructor (Some (origin.Basic basic)) h = (basic, refl)
no_constructor (Some (Derived constructor olds)) h = absurd (cc)

signature_one : (m : Typemap) (basic : Basic) (at : ℤ) → m ≡ element basic at ∷ [] → signature m ≡ basic ∷ []
unfolding signature
signature_one m basic at e = rw e

module _ (origins : List Origin) (id : TypeId) (none : Some None ≡ option_map constructor_of (slice_get origins id.0)) where
  basic_there : (basic : Basic) × (slice_get origins id.0 ≡ Some (origin.Basic basic))
  basic_there = no_constructor (slice_get origins id.0) none

  its_signature : signature (typemap_in (typemaps origins) id) ≡ basic_there.0 ∷ []
  its_signature = signature_one _ basic_there.0 (pos 0) (typemap_at origins id (origin.Basic basic_there.0) basic_there.1 tt)

  pub basic_one : (component : Component) (basic : Basic) → component ≡ One basic → IsComponentOf (signature (typemap_in (typemaps origins) id)) component →
      Some basic ≡ basic_in (slice_get origins id.0)
  basic_one component basic is h =
      let one = rw (is, its_signature) at h in
      ap Some (sym (All-head (λ b. b ≡ basic) basic_there.0 [] one.1)) ∙ sym (ap basic_in basic_there.1)

  pub basic_not_empty : (component : Component) → component ≡ Empty → IsComponentOf (signature (typemap_in (typemaps origins) id)) component → ⊥
  basic_not_empty component is h = let none = rw (is, its_signature) at h in cc

  pub basic_not_mixed : (component : Component) → component ≡ Mixed → IsComponentOf (signature (typemap_in (typemaps origins) id)) component → ⊥
  basic_not_mixed component is h =
      let mixed = rw (is, its_signature) at h in
      mixed basic_there.0 (All-cons (λ b. b ≡ basic_there.0) basic_there.0 [] refl (All-nil (λ b. b ≡ basic_there.0)))

-- ---- how many elements

pub length_signature_of : (maps : List Typemap) (it : Operand) → length (signature_of maps it) ≡ entries_in maps it
length_signature_of maps it = length_copies it.count (basics_in maps it) ∙ ap (λ n. it.count * n) (length_signature (typemap_in maps it.datatype))
