use Rattle.std.proofs.Common.{◌≡◌, Bool, true, false, not, Option, Some, None, refl, sym, ap, is_none, is_some, ◌∙◌}
use Rattle.std.specs.Option.{option_and_then, option_copied}
use Rattle.std.specs.Prelude.{option_map}
use Rattle.rma_base.specs.declared.form_reason.FormReason.TheVariants.{UnknownType}
use Rattle.rma_call.specs.declared.rma.RmaCall.{RmaCall}
use Rattle.rma_call.specs.declared.what.What.TheVariants as what
use Rattle.rma_form.specs.declared.event.Event.TheVariants.{Rma}
use Rattle.rma_buffer.specs.Calls.{rma_call_of}
use Rattle.rma_buffer.specs.declared.operand.Operands.{Operands}
use Rattle.rma_buffer.specs.Operands.{kind_of, operands_of}
use Rattle.rma_buffer.specs.Rules.{buffers_reason}
use Rattle.rma_judge.specs.Types.{types_after}
use Rattle.rma_judge.specs.inside.BookState.{BookState}
use Rattle.rma_judge.specs.Naming.{attributes_of}
use Rattle.rma_judge.proofs.AccessLemmas.{bad_name, bad_type, good_type, was_told}
use Rattle.rma_judge.proofs.TypeLemmas.{what_in_same}
use Rattle.rma_judge.proofs.JudgingLemmas.{IsJudged_bad}
use Rattle.rma_judge.proofs.book.Book.access.Goals as goal

lacks_from : {X : Type 0} → (o : Option X) (b : Bool) → is_some o ≡ not b → b ≡ is_none o
lacks_from None true is = refl
lacks_from None false is = cc
lacks_from (Some x) true is = cc
lacks_from (Some x) false is = refl

pub returns-in-Some-clause-judged : goal.returns-in-Some-clause-judged
returns-in-Some-clause-judged c =
    let book = c.args.self.now in
    let line = c.args.line.now in
    let event = Rma line (option_copied c.args.request) in
    let looked = sym (ap (λ (b : BookState). operands_of b.types.live line.access) c.self.view_is) ∙ sym (rw c.types.ensures at c.of-operands.ensures.is) in
    bad_name book event (attributes_of event) c.is_none.result c.access_reason.result refl
    (lacks_from c.of-operands.result c.is_none.result c.is_none.ensures ∙ ap is_none (sym looked)) refl (λ rank logs. refl) refl c.access_reason.ensures c.in-Some.reason c.in-Some.is

pub returns-in_default-operands-clause-judged : goal.returns-in_default-operands-clause-judged
returns-in_default-operands-clause-judged c =
    let book = c.args.self.now in
    let line = c.args.line.now in
    let event = Rma line (option_copied c.args.request) in
    let looked = sym (ap (λ (b : BookState). operands_of b.types.live line.access) c.self.view_is) ∙ sym (rw c.types.ensures at c.of-operands.ensures.is) in
    let lacking = lacks_from c.of-operands.result c.is_none.result c.is_none.ensures in
    IsJudged_bad book event UnknownType
    (λ events h.
    absurd
    (was_told book event (attributes_of event) c.is_none.result c.access_reason.result refl (lacking ∙ ap is_none (sym looked)) refl (λ rank logs. refl) refl c.access_reason.ensures
    (lacking ∙ ap is_none c.in_default-operands.is) c.in_default.is events h))

pub returns-in_ok-request-in-Ok-clause-judged : goal.returns-in_ok-request-in-Ok-clause-judged
returns-in_ok-request-in-Ok-clause-judged c =
    let book = c.args.self.now in
    let line = c.args.line.now in
    let event = Rma line (option_copied c.args.request) in
    let looked = sym (ap (λ (b : BookState). operands_of b.types.live line.access) c.self.view_is) ∙ sym (rw c.types.ensures at c.of-operands.ensures.is) in
    let judge = λ (b : BookState) (it : Operands). buffers_reason b.types.origins b.types.committed (kind_of line.access) line.target it in
    good_type book event (attributes_of event) c.is_none.result c.access_reason.result refl
    (lacks_from c.of-operands.result c.is_none.result c.is_none.ensures ∙ ap is_none (sym looked)) refl (λ rank logs. refl) refl c.access_reason.ensures c.note_access.new.self c.in_default.is
    (ap (option_and_then (judge book)) (looked ∙ c.in-Some-operands.is) ∙ c.in-Ok.ensures.taken)
    (rw c.one_sided.ensures.same at c.in_ok-request-in-Ok.ensures.taken)

pub returns-in_ok-request-in-Ok-clause-good : goal.returns-in_ok-request-in-Ok-clause-good
returns-in_ok-request-in-Ok-clause-good c = λ events h.
    let book = c.args.self.now in
    let line = c.args.line.now in
    let event = Rma line (option_copied c.args.request) in
    let looked = sym (ap (λ (b : BookState). operands_of b.types.live line.access) c.self.view_is) ∙ sym (rw c.types.ensures at c.of-operands.ensures.is) in
    let made = λ (b : BookState) (it : Operands). what.Rma (rma_call_of b.types.origins line it) in (
      sym (what_in_same book.types (types_after events) h.types event) ∙ ap (option_map (made book)) (looked ∙ c.in-Some-operands.is)
          ∙ ap (λ (call : RmaCall). Some (what.Rma call)) (sym c.in-Ok.ensures.ok),
      c.in_ok-request-in-Ok.ensures.number events (rw c.one_sided.ensures.same h),
    )

pub returns-in-Err-Fault-clause-judged : goal.returns-in-Err-Fault-clause-judged
returns-in-Err-Fault-clause-judged c =
    let book = c.args.self.now in
    let line = c.args.line.now in
    let event = Rma line (option_copied c.args.request) in
    let looked = sym (ap (λ (b : BookState). operands_of b.types.live line.access) c.self.view_is) ∙ sym (rw c.types.ensures at c.of-operands.ensures.is) in
    let judge = λ (b : BookState) (it : Operands). buffers_reason b.types.origins b.types.committed (kind_of line.access) line.target it in
    let fault = rw c.in-Err-Fault.field-0-is at c.in-Err-Fault.ensures.fault in
    rw (c.in-Err-Fault.reason-is, c.one_sided.ensures.same)
    (bad_type book event (attributes_of event) c.is_none.result c.access_reason.result refl
    (lacks_from c.of-operands.result c.is_none.result c.is_none.ensures ∙ ap is_none (sym looked)) refl (λ rank logs. refl) refl c.access_reason.ensures c.in-Err-Fault.reason c.in_default.is
    (ap (option_and_then (judge book)) (looked ∙ c.in-Some-operands.is) ∙ fault))
