use Rattle.std.proofs.Common.{◌≡◌, ℕ, List, subst, ap, ◌∙◌, arith}
use Rattle.rma_io.specs.MemoryLogs.{MemorySource, File, files_of, IsFirstNamedAt, AddsFile}
use Rattle.std.proofs.lemmas.Bool.{false≢true}
use Rattle.rma_io.proofs.SourceLemmas.{IsOpened_memory, IsMemoryOpen_added}
use Rattle.rma_io.proofs.memory_logs.MemoryLogsLogs.open.Goals as goal

pub returns-in-Some-clause-exactly : goal.returns-in-Some-clause-exactly
returns-in-Some-clause-exactly c =
    let call = c.if-not-fails.ensures in
    let now = c.args.self.now in
    let name = c.args.name.now in
    let files : files_of c.deref.result.now ≡ now.files =
    ap files_of c.deref.ensures.value ∙ ap (λ (m : MemorySource). m.files) (c.self.view_is ∙ call.counted) in
    let first = subst (λ (fs : List File). IsFirstNamedAt fs name c.in-Some.index) files c.in-Some.ensures in
    let named = subst (λ (n : List ℕ). AddsFile c.is_to_fail-fails.new.self n c.in-Some.index c.add.result c.add.new.self) c.in-Ok.ensures.ok c.add.ensures in
    let added = subst (λ (m : MemorySource). AddsFile m name c.in-Some.index c.add.result c.add.new.self) call.counted named in
    IsMemoryOpen_added now name c.in-Some.index c.add.result c.add.new.self (λ fails. false≢true (call.planned.1 fails)) first added

pub returns-in-Some-clause-opened : goal.returns-in-Some-clause-opened
returns-in-Some-clause-opened c =
    let faults : c.self.inside.faults ≡ c.args.self.now.faults = ap (λ (m : MemorySource). m.faults) (c.self.view_is ∙ c.if-not-fails.ensures.counted) in
    IsOpened_memory c.args.self.now c.args.name.now c.add.result c.add.new.self (omega arith) (returns-in-Some-clause-exactly c)
