-- Buffers that are laid out, or refused.
use Rattle.std.proofs.Common.{◌≡◌, ℕ, ℤ, pos, List, Option, Some, None, Result, Ok, Err, IfOk, IfErr, OnOk, option_map, refl, ap, subst, ◌∙◌}
use Rattle.std.specs.Option.{option_and_then}
use Rattle.rma_base.specs.Limits.{element_limit}
use Rattle.std.specs.Prelude.{◌≤◌}
use Rattle.rma_bytes.specs.Layout.{Layout}
use Rattle.rma_call.specs.declared.rma.RmaKind.{RmaKind}
use Rattle.rma_layout.specs.Layout.{IsLayoutOf}
use Rattle.rma_layout.specs.Refusal.{IsErrorOf, refusal}
use Rattle.rma_layout.specs.Touched.{touched}
use Rattle.rma_layout.specs.declared.fault.LayoutError.{LayoutError}
use Rattle.rma_layout.specs.declared.fault.LayoutFault.{LayoutFault}
use Rattle.rma_layout.specs.declared.space.Space.{Space}
use Rattle.rma_layout.specs.declared.space.Space.TheVariants.{Target}
use Rattle.rma_type.specs.Table.{typemap_in}
use Rattle.rma_typemap.specs.Typemap.{Typemap}
use Rattle.rma_buffer.specs.Rules.{layout_reason, touched_in}
use Rattle.rma_buffer.specs.declared.layouts.Layouts.{Layouts}
use Rattle.rma_buffer.specs.declared.operand.Operand.{Operand}
use Rattle.rma_buffer.specs.declared.operand.Operands.{Operands}
use Rattle.rma_buffer.specs.inside.Layouts.{fault_of, layout_of, layouts_in, space_reason, touched_origin, worse}
use Rattle.rma_buffer.specs.inside.Placed.{ArePlaced, IsPlaced, fault_in}
use Rattle.rma_buffer.proofs.FaultLemmas.{first_reason, layouts_are}
use Rattle.rma_buffer.proofs.LayoutLemmas.{all_in, layout_is}
use Rattle.rma_buffer.proofs.Words.{Basic}

-- ---- one buffer

module _ (maps : List Typemap) (m : ℕ) (space : Space) (it : Operand) (address : ℤ) (at : address ≡ pos it.address) where
  abbrev elements_at : ℤ → List (Basic × ℤ)
  elements_at z = touched (typemap_in maps it.datatype) it.count z m

  pub is_placed : (result : Result Layout LayoutError) → IfOk result (IsLayoutOf (elements_at address)) → OnOk result (refusal space (elements_at address) m ≡ None)
      → IfOk result (λ layout. IsPlaced maps m space it (Ok layout))
  is_placed (Ok layout) ok taken =
      let es = touched_in maps m it in
      let none : refusal space es m ≡ None = subst (λ (z : ℤ). refusal space (elements_at z) m ≡ None) at taken in
      let is : IsLayoutOf es layout = subst (λ (z : ℤ). IsLayoutOf (elements_at z) layout) at ok in
      (layout_is space es layout (all_in space es m none) is, none)
  is_placed (Err error) ok taken = tt

  pub is_refused : (result : Result Layout LayoutError) → IfErr result (IsErrorOf (refusal space (elements_at address) m)) → IfErr result (IsErrorOf (fault_in maps m space it))
  is_refused result fault = subst (λ (z : ℤ). IfErr result (IsErrorOf (refusal space (elements_at z) m))) at fault

-- ---- all buffers of a call

none_refused : (o : Option Layout) → option_and_then fault_of (option_map Ok o) ≡ None
none_refused None = refl
none_refused (Some layout) = refl

each_laid_out : (o : Option Layout) → option_and_then layout_of (option_map Ok o) ≡ o
each_laid_out None = refl
each_laid_out (Some layout) = refl

module _ (maps : List Typemap) (kind : RmaKind) (m : ℕ) (it : Operands) (target : Layout) (origin result compare : Option Layout)
    (t : IsPlaced maps m Target it.target (Ok target)) (o : ArePlaced maps m (touched_origin kind it) (option_map Ok origin))
    (r : ArePlaced maps m it.result (option_map Ok result)) (c : ArePlaced maps m it.compare (option_map Ok compare)) where
  abbrev refusals : Option LayoutFault
  refusals = worse (option_and_then fault_of (option_map Ok origin)) (worse (option_and_then fault_of (option_map Ok result)) (option_and_then fault_of (option_map Ok compare)))

  no_refusals : refusals ≡ None
  no_refusals = rw (none_refused origin, none_refused result, none_refused compare) refl

  pub no_reason : m ≤ element_limit → space_reason maps kind m it ≡ None
  no_reason few =
      first_reason maps kind m it few (Ok target) (option_map Ok origin) (option_map Ok result) (option_map Ok compare) t o r c
      ∙ ap (option_map layout_reason) no_refusals

  pub all_laid_out : (let laid : Layouts = record { target = target; origin = origin; result = result; compare = compare } in laid) ≡ layouts_in maps kind m it
  all_laid_out =
      rw (each_laid_out origin, each_laid_out result, each_laid_out compare) at
      (layouts_are maps kind m it (Ok target) (option_map Ok origin) (option_map Ok result) (option_map Ok compare) target refl t o r c no_refusals)
