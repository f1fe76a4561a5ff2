use Rattle.std.proofs.Common.{[], ◌++◌, Ok, subst}
use Rattle.std.specs.Prelude.{option_copied}
use Rattle.std.proofs.lemmas.List.{append-nil}
use Rattle.rma_report.specs.ExplainText.{explain_text}
use Rattle.rma_report.specs.inside.Buffering.{IsBuffered}
use Rattle.rma_report.specs.Writing.{IsWritten}
use Rattle.rma_report.proofs.BufferLemmas.{passed_then, written_of}
use Rattle.rma_report.proofs.explain.write_explain.Goals as goal

pub returns : goal.returns
returns g c =
    let text = explain_text c.args.findings.now.ranks c.args.findings.now.lines c.args.findings.now.list c.args.number (option_copied c.args.cuts) in
    let output = g.S.Sink.output in
    let held = subst (λ h. IsBuffered (output c.args.out.now) h text (Ok tt) c.write_explanation.new.buffer.bytes (output c.write_explanation.new.out)) c.new-buffer.ensures c.in_ok-write_explanation.ensures in
    subst (λ t. IsWritten (output c.args.out.now) t c.flush.result (output c.flush.new.out)) (append-nil text)
    (written_of _ _ [] (text ++ []) c.flush.new.buffer.bytes c.flush.result c.flush.ensures.empty
    (passed_then _ _ _ [] text _ [] _ _ held c.flush.ensures.passed))
