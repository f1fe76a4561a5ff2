use Rattle.std.proofs.Common.{subst, sym, ◌∙◌}
use Rattle.rma_bytes.specs.Runs.{IsCanonical}
use Rattle.rma_bytes.proofs.RegionLemmas.{moved_by_zero, single}
use Rattle.rma_bytes.proofs.region.Region.from_runs.Goals as goal

pub invariant_of-result-in-1 : goal.invariant_of-result-in-1
invariant_of-result-in-1 c = subst IsCanonical (sym (single c.args.runs c.get.result (sym c.len.ensures.value ∙ c.in-1.is) c.get.ensures.value)) c.get.ensures.canonical

pub several-requires-clause-within : goal.several-requires-clause-within
several-requires-clause-within c = rw (moved_by_zero c.in_ok-new-in_default.field-0.value, c.in_ok-new-in_default.ensures.ok) c.len.ensures.canonical

pub returns-in-1-clause-same : goal.returns-in-1-clause-same
returns-in-1-clause-same c = single c.args.runs c.get.result (sym c.len.ensures.value ∙ c.in-1.is) c.get.ensures.value

pub returns-in_ok-new-in_default-clause-same : goal.returns-in_ok-new-in_default-clause-same
returns-in_ok-new-in_default-clause-same c = c.several.ensures ∙ moved_by_zero _ ∙ c.in_ok-new-in_default.ensures.ok
