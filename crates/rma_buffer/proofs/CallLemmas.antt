-- The calls of lines, where their buffers are good.
use Rattle.std.proofs.Common.{◌≡◌, ℕ, List, Bool, true, false, not, Option, Some, None, is_none, is_some, Result, Ok, Err, OnOk, option_map, refl, sym, ap, ◌∙◌}
use Rattle.rma_base.specs.declared.form_reason.FormReason.{FormReason}
use Rattle.rma_bytes.specs.Layout.{Layout}
use Rattle.rma_call.specs.declared.local.LocalAccess.{LocalAccess}
use Rattle.rma_call.specs.declared.local.LocalCall.{LocalCall}
use Rattle.rma_call.specs.declared.rma.RmaCall.{RmaCall}
use Rattle.rma_call.specs.declared.rma.RmaKind.{RmaKind}
use Rattle.rma_layout.specs.declared.fault.LayoutFault.{LayoutFault}
use Rattle.rma_layout.specs.declared.space.Space.TheVariants.{Local}
use Rattle.rma_form.specs.declared.event.rma_line.RmaLine.{RmaLine}
use Rattle.rma_type.specs.Table.{typemaps}
use Rattle.rma_type.specs.declared.origin.Origin.{Origin}
use Rattle.rma_buffer.specs.Calls.{layout_in, local_call_of, moved_count, rma_call_of}
use Rattle.rma_buffer.specs.Operands.{entries_in, kind_of}
use Rattle.rma_buffer.specs.Rules.{layout_reason, memory_reason}
use Rattle.rma_buffer.specs.declared.layouts.Layouts.{Layouts}
use Rattle.rma_buffer.specs.declared.operand.Operand.{Operand}
use Rattle.rma_buffer.specs.declared.operand.Operands.{Operands}
use Rattle.rma_buffer.specs.inside.Layouts.{layouts_in}
use Rattle.rma_buffer.specs.inside.Placed.{fault_in}

pub on_ok : {A E : Type 0} (r : Result A E) (P Q : Type 0) → (P → Q) → OnOk r P → OnOk r Q
on_ok (Ok x) P Q f p = f p
on_ok (Err e) P Q f p = tt

pub on_any : {A E : Type 0} (r : Result A E) (P : Type 0) → P → OnOk r P
on_any (Ok x) P p = p
on_any (Err e) P p = tt

pub none_from : {A : Type 0} (o : Option A) (r : Bool) → is_some o ≡ not r → is_none o ≡ r
none_from None true h = refl
none_from None false h = sym h
none_from (Some x) true h = sym h
none_from (Some x) false h = refl

pub call_is : (origins : List Origin) (line : RmaLine) (it : Operands) (kind : RmaKind) (window : List ℕ) (laid : Layouts) →
    window ≡ line.window → kind ≡ kind_of line.access → laid ≡ layouts_in (typemaps origins) kind (moved_count (typemaps origins) kind line.target it) it →
    (let call : RmaCall = record {
      window = window;
      target = line.target;
      kind = kind;
      displacement = line.displacement;
      at_target = laid.target;
      origin = laid.origin;
      result = laid.result;
      compare = laid.compare;
    } in call) ≡ rma_call_of origins line it
unfolding rma_call_of
call_is origins line it kind window laid w k l = rw (l, w, k)

-- ---- a local access

pub local_is : (origins : List Origin) (access : LocalAccess) (it : Operand) (m : ℕ) (layout : Layout) → m ≡ entries_in (typemaps origins) it → layout ≡ layout_in (typemaps origins) m it →
    (let call : LocalCall = record { access = access; layout = layout } in call) ≡ local_call_of origins access it
unfolding local_call_of
local_is origins access it m layout e l = rw (l, e)

pub memory_good : (origins : List Origin) (it : Operand) (m : ℕ) → m ≡ entries_in (typemaps origins) it → fault_in (typemaps origins) m Local it ≡ None → memory_reason origins it ≡ None
unfolding memory_reason
memory_good origins it m e h = ap (λ n. option_map layout_reason (fault_in (typemaps origins) n Local it)) (sym e) ∙ ap (option_map layout_reason) h

pub memory_bad : (origins : List Origin) (it : Operand) (m : ℕ) (fault : LayoutFault) (reason : FormReason) → m ≡ entries_in (typemaps origins) it →
    fault_in (typemaps origins) m Local it ≡ Some fault → reason ≡ layout_reason fault → memory_reason origins it ≡ Some reason
unfolding memory_reason
memory_bad origins it m fault reason e h is =
    ap (λ n. option_map layout_reason (fault_in (typemaps origins) n Local it)) (sym e) ∙ ap (option_map layout_reason) h ∙ ap Some (sym is)
