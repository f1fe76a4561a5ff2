-- Elements that share bytes in buffers that are written, the last of the reasons.
use Rattle.std.proofs.Common.{◌≡◌, ℕ, List, [], ◌∷◌, Bool, true, false, ◌||◌, option_to_list, option_map, Option, Some, None, refl, sym, ap, ◌∙◌}
use Rattle.std.proofs.Math.Bool.{or-false}
use Rattle.rma_base.specs.declared.form_reason.FormReason.{FormReason}
use Rattle.rma_base.specs.declared.form_reason.FormReason.TheVariants as reason
use Rattle.rma_call.specs.declared.rma.RmaKind.{RmaKind}
use Rattle.rma_call.specs.declared.rma.RmaKind.TheVariants.{Put, Get, Accumulate, GetAccumulate, FetchAndOp, CompareAndSwap}
use Rattle.rma_typemap.specs.Typemap.{Typemap}
use Rattle.rma_buffer.specs.Calls.{layout_in}
use Rattle.rma_buffer.specs.Layouts.{layout_of, shares_byte}
use Rattle.rma_buffer.specs.Rules.{IsErrorOf, first_that_holds, have_many_blocks, leave_space, overlap, touched_in}
use Rattle.rma_buffer.specs.declared.fault.BufferError.{BufferError}
use Rattle.rma_buffer.specs.declared.fault.BufferError.TheVariants.{Fault, Memory}
use Rattle.rma_buffer.specs.declared.layouts.Layouts.{Layouts}
use Rattle.rma_buffer.specs.declared.operand.Operand.{Operand}
use Rattle.rma_buffer.specs.declared.operand.Operands.{Operands}
use Rattle.rma_buffer.specs.inside.Layouts.{bytes_reason, layouts_in, overlaps_if, overlaps_in, space_reason}
use Rattle.rma_buffer.proofs.ReasonLemmas.{first_now, first_later}
use Rattle.rma_buffer.proofs.Words.{list_any}

-- ---- the layouts say where elements share bytes

module _ (maps : List Typemap) (m : ℕ) where
  in_one : (it : Operand) → (layout_in maps m it).overlaps ≡ shares_byte (touched_in maps m it)
  unfolding layout_of
  in_one it = refl

  in_result : (it : Option Operand) → overlaps_if (option_map (layout_in maps m) it) ≡ list_any (λ one. shares_byte (touched_in maps m one)) (option_to_list it)
  in_result None = refl
  in_result (Some it) = in_one it ∙ sym (or-false (shares_byte (touched_in maps m it)))

  in_both : (it : Operand) (result : Option Operand) →
      ((layout_in maps m it).overlaps || overlaps_if (option_map (layout_in maps m) result))
      ≡ (shares_byte (touched_in maps m it) || list_any (λ one. shares_byte (touched_in maps m one)) (option_to_list result))
  in_both it result = rw (in_one it, in_result result)

  overlap_is : (kind : RmaKind) (it : Operands) → overlaps_in kind (layouts_in maps kind m it) ≡ overlap maps kind m it
  overlap_is Put it = in_both it.target it.result
  overlap_is Get it = in_both it.origin it.result
  overlap_is (Accumulate op) it = in_both it.target it.result
  overlap_is (GetAccumulate op) it = in_both it.target it.result
  overlap_is (FetchAndOp op) it = in_both it.target it.result
  overlap_is CompareAndSwap it = in_both it.target it.result

-- ---- the reasons

module _ (maps : List Typemap) (kind : RmaKind) (m : ℕ) (it : Operands) where
  pub overlaps_laid : (laid : Layouts) (answer : Bool) → laid ≡ layouts_in maps kind m it → answer ≡ overlaps_in kind laid → overlap maps kind m it ≡ answer
  overlaps_laid laid answer is h = sym (h ∙ ap (overlaps_in kind) is ∙ overlap_is maps m kind it)

  earlier : List (FormReason × Bool)
  earlier = (reason.TooManyBlocks, have_many_blocks maps kind m it) ∷ (reason.OutOfSpace, leave_space maps kind m it) ∷ []

  pub first_of_all : (error : BufferError) → IsErrorOf (space_reason maps kind m it) error → IsErrorOf (bytes_reason maps kind m it) error
  unfolding earlier
  first_of_all Memory h = tt
  first_of_all (Fault fault) h = first_now earlier ((reason.OverlappingType, overlap maps kind m it) ∷ []) fault h

  last : space_reason maps kind m it ≡ None → bytes_reason maps kind m it ≡ first_that_holds ((reason.OverlappingType, overlap maps kind m it) ∷ [])
  unfolding earlier
  last none = first_later earlier ((reason.OverlappingType, overlap maps kind m it) ∷ []) none

  pub overlap_first : space_reason maps kind m it ≡ None → overlap maps kind m it ≡ true → bytes_reason maps kind m it ≡ Some reason.OverlappingType
  overlap_first none h = last none ∙ ap (λ t. first_that_holds ((reason.OverlappingType, t) ∷ [])) h

  pub overlap_none : space_reason maps kind m it ≡ None → overlap maps kind m it ≡ false → bytes_reason maps kind m it ≡ None
  overlap_none none h = last none ∙ ap (λ t. first_that_holds ((reason.OverlappingType, t) ∷ [])) h
