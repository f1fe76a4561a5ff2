use Rattle.std.proofs.Common.{◌≡◌, List, ℕ, Ok, slice_get, ap, sym, subst, ◌∙◌}
use Rattle.std.specs.Result.{OnOk}
use Rattle.rma_reader.specs.Reading.{Reading}
use Rattle.rma_judge.specs.inside.CallEvent.{IsCallOf}
use Rattle.rma_log.specs.inside.Reading.{ReadsNext}
use Rattle.rma_log.specs.declared.reader.Reader.{Reader}
use Rattle.rma_judge.proofs.CallLemmas.{OnOk_then}
use Rattle.rma_log.proofs.LineLemmas.{ReadsNext_bad, ReadsNext_known}
use Rattle.rma_log.proofs.reader.Reader.read_text.Goals as goal

-- what is known of a reader whose lines are the same is known of it
split_is : (old : Reader) (lines : Reading) → lines ≡ old.lines → (P : Reader → Type 0) → P (record old { lines = lines }) → P old
split_is old lines same P known = subst (λ (it : Reading). P (record old { lines = it })) same known

pub returns-in-Ok-Some : goal.returns-in-Ok-Some
returns-in-Ok-Some c =
    let old = record c.args.self.now { lines = c.split-line.new.self } in
    let grown = c.known.new.self in
    let it = rw c.in-Ok-Some.field-0-is at c.in-Ok-Some.ensures.call in
    split_is c.args.self.now c.split-line.new.self c.split-line.ensures.same (λ from. OnOk c.read_call.result (ReadsNext from c.read_call.new.self c.args.no.0 (Ok c.args.text.now)))
    (subst (λ (text : List ℕ). OnOk c.read_call.result (ReadsNext old c.read_call.new.self c.args.no.0 (Ok text))) c.split-line.ensures.line
    (OnOk_then c.read_call.result c.read_call.ensures
    (λ reads. ReadsNext_known old grown c.args.no c.split-line.result it.0 c.requires c.known.ensures.grows it.1 c.read_call.new.self c.in-Ok-Some.call.site it.4
    (λ does event site is call sited.
    reads does event site (ap (slice_get grown.calls.whats) it.2 ∙ is) (subst (λ request. IsCallOf old.book.types does request event) (sym (c.as_ref.ensures.value ∙ it.3)) call) sited))))

pub returns-in-Ok-None : goal.returns-in-Ok-None
returns-in-Ok-None c =
    let old = c.args.self.now in
    let new = c.read_other.new.self in
    let same = c.in-Ok-None.ensures.none (ap Ok c.in-Ok-None.field-0-is) ∙ c.split-line.ensures.same in
    subst (λ (text : List ℕ). OnOk c.read_other.result (ReadsNext old new c.args.no.0 (Ok text))) c.split-line.ensures.line
    (split_is old c.known.new.self same (λ from. OnOk c.read_other.result (ReadsNext from new c.args.no.0 (Ok c.split-line.result.line))) c.read_other.ensures)

pub returns-in-Err-Fault : goal.returns-in-Err-Fault
returns-in-Err-Fault c =
    let old = record c.args.self.now { lines = c.split-line.new.self } in
    let it = rw c.in-Err-Fault.field-0-is at c.in-Err-Fault.ensures.err in
    split_is c.args.self.now c.split-line.new.self c.split-line.ensures.same (λ from. ReadsNext from c.refuse.new.self c.args.no.0 (Ok c.args.text.now))
    (subst (λ (text : List ℕ). ReadsNext old c.refuse.new.self c.args.no.0 (Ok text)) c.split-line.ensures.line
    (ReadsNext_bad old c.known.new.self c.args.no c.split-line.result it.0 c.requires c.known.ensures.grows it.1 c.refuse.new.self c.in-Err-Fault.fault.reason
    it.2 (rw (← c.in-Err-Fault.fault-is) c.refuse.ensures)))
