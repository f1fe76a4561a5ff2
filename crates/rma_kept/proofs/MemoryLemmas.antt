-- What good calls touch.
use Rattle.std.proofs.Common.{◌≡◌, ℤ, true, List, [], All, Option, Some, None, option_map, refl, subst}
use Rattle.std.proofs.lemmas.List.Elements.{All-cons, All-nil}
use Rattle.rma_buffer.proofs.LayoutLemmas.{all_in}
use Rattle.rma_buffer.specs.Calls.{local_call_of, rma_call_of}
use Rattle.rma_buffer.specs.Layouts.{layout_of}
use Rattle.rma_buffer.specs.Operands.{entries_in, kind_of, operand_of, operands_of}
use Rattle.rma_buffer.specs.Rules.{buffers_reason, layout_reason, memory_reason, touched_in}
use Rattle.rma_buffer.specs.declared.operand.Operand.{Operand}
use Rattle.rma_buffer.specs.declared.operand.Operands.{Operands}
use Rattle.rma_bytes.specs.Layout.{Layout}
use Rattle.rma_call.specs.declared.local.LocalAccess.{LocalAccess}
use Rattle.rma_call.specs.declared.rma.RmaCall.{RmaCall}
use Rattle.rma_call.specs.declared.what.What.{What}
use Rattle.rma_call.specs.declared.what.What.TheVariants as what
use Rattle.rma_datatype.specs.declared.basic.Basic.{Basic}
use Rattle.rma_form.specs.declared.event.Event.{Event}
use Rattle.rma_form.specs.declared.event.Event.TheVariants.{Header, End, Call, Datatype, Rma, Local}
use Rattle.rma_judge.specs.Calls.{what_in}
use Rattle.rma_judge.specs.Judging.{type_reason}
use Rattle.rma_layout.specs.Refusal.{is_all_in, refusal}
use Rattle.rma_layout.specs.declared.fault.LayoutFault.{LayoutFault}
use Rattle.rma_layout.specs.declared.space.Space.TheVariants.{Local as LocalSpace}
use Rattle.rma_type.specs.Table.{Table, typemaps}
use Rattle.rma_type.specs.declared.origin.Origin.{Origin}
use Rattle.std.specs.Option.{option_and_then}
use Rattle.rma_kept.specs.Touched.{HasCanonicalRuns, IsInSpace, buffers_of}
use Rattle.rma_kept.proofs.AccessLemmas.{IsGoodAccess, access_good}
use Rattle.rma_kept.proofs.LayoutLemmas.{canonical, in_space}

-- ---- the memory of a local access

not_refused : (found : Option LayoutFault) → option_map layout_reason found ≡ None → found ≡ None
not_refused None none = refl
not_refused (Some fault) none = cc

-- what holds of the layout of all elements in the space holds of it
local_in : (P : Layout → Type 0) → ((es : List (Basic × ℤ)) → is_all_in LocalSpace es ≡ true → P (layout_of es)) → (origins : List Origin) (access : LocalAccess) (it : Operand)
    → memory_reason origins it ≡ None → All P (buffers_of (what.Local (local_call_of origins access it)))
unfolding memory_reason local_call_of
local_in P holds origins access it none =
    let es = touched_in (typemaps origins) (entries_in (typemaps origins) it) it in
    let within = all_in LocalSpace es (entries_in (typemaps origins) it) (not_refused (refusal LocalSpace es (entries_in (typemaps origins) it)) none) in
    All-cons P (layout_of es) [] (holds es within) (All-nil P)

-- ---- all calls

-- what a call does touches what it may
pub record TouchesGood (does : What) : Type 0 where
  pub buffers : All IsInSpace (buffers_of does)
  pub canonical : All HasCanonicalRuns (buffers_of does)
  pub access : (access : RmaCall) → does ≡ what.Rma access → IsGoodAccess access

of_access : (access : RmaCall) → IsGoodAccess access → TouchesGood (what.Rma access)
of_access access good = record {
  buffers = good.own;
  canonical = good.own_canonical;
  access = λ other is. let same : access ≡ other = cc in subst IsGoodAccess same good;
}

pub touches_good : (types : Table) (event : Event) (does : What) → what_in types event ≡ Some does → type_reason types event ≡ None → TouchesGood does
touches_good types (Header version rank size) does is good = let none : None ≡ Some does = is in cc none
touches_good types End does is good = let none : None ≡ Some does = is in cc none
touches_good types (Datatype line) does is good = let none : None ≡ Some does = is in cc none
touches_good types (Call call request) does is good =
    let same : what.Sync call ≡ does = cc in subst TouchesGood same (record { buffers = All-nil IsInSpace; canonical = All-nil HasCanonicalRuns; access = λ access wrong. cc })
touches_good types (Rma line request) does is good = by (operands_of types.live line.access) is good
  where
    by : (operands : Option Operands) → option_map (λ operands. what.Rma (rma_call_of types.origins line operands)) operands ≡ Some does
        → option_and_then (buffers_reason types.origins types.committed (kind_of line.access) line.target) operands ≡ None → TouchesGood does
    by None is good = cc
    by (Some it) is good =
        let same : what.Rma (rma_call_of types.origins line it) ≡ does = cc in
        subst TouchesGood same (of_access (rma_call_of types.origins line it) (access_good types.origins types.committed line it good))
touches_good types (Local line) does is good = by (operand_of types.live line.buffer) is good
  where
    by : (memory : Option Operand) → option_map (λ memory. what.Local (local_call_of types.origins line.access memory)) memory ≡ Some does
        → option_and_then (memory_reason types.origins) memory ≡ None → TouchesGood does
    by None is good = cc
    by (Some it) is good =
        let same : what.Local (local_call_of types.origins line.access it) ≡ does = cc in
        subst TouchesGood same (record {
          buffers = local_in IsInSpace in_space types.origins line.access it good;
          canonical = local_in HasCanonicalRuns (canonical LocalSpace) types.origins line.access it good;
          access = λ access wrong. cc;
        })
