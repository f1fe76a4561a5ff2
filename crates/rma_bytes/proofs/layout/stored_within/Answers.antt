use Rattle.std.proofs.Common.{sym, ◌∙◌}
use Rattle.rma_bytes.proofs.RegionLemmas.{single}
use Rattle.rma_bytes.proofs.layout.stored_within.Goals as goal

pub returns-in-1-Some : goal.returns-in-1-Some
returns-in-1-Some c = rw (← single c.args.runs.now c.get.result (sym c.len.ensures.value ∙ c.in-1-Some.is-0) c.get.ensures.value, c.in-1-Some.is-1, c.if-overlaps.false) c.elements_of.ensures
