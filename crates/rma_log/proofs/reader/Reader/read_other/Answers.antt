use Rattle.std.proofs.Common.{◌≡◌, Ok, OnOk, ap, subst}
use Rattle.rma_log.specs.declared.reader.Reader.{Reader}
use Rattle.rma_log.specs.inside.Reading.{ReadsNext}
use Rattle.rma_judge.proofs.CallLemmas.{OnOk_then}
use Rattle.rma_log.proofs.reader.Reader.read_other.Goals as goal

pub returns-in-Some : goal.returns-in-Some
returns-in-Some c =
    let added = rw c.in-Some.is at c.in_ok-what.ensures.added in
    OnOk_then c.read_added.result c.read_added.ensures (λ reads. reads c.args.self.now c.requires (rw c.request.ensures added))

pub returns : goal.returns
returns c =
    let same : c.add_elsewhere.new.self ≡ c.args.self.now = c.in_ok-what.ensures.none (ap Ok c.in-None.is) in
    subst (λ (old : Reader). OnOk c.read_new.result (ReadsNext old c.read_new.new.self c.args.no.0 (Ok c.args.line.now.line))) same c.read_new.ensures
