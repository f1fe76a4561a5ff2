use Rattle.std.proofs.Common.{refl}
use Rattle.rma_findings_probe.proofs.shown.is_shown.Goals as goal

pub are_shown-requires-clause-first : goal.are_shown-requires-clause-first
are_shown-requires-clause-first c = ((c.in-Some.ensures c.in-Some.first).0 refl).0

pub are_shown-requires-clause-second : goal.are_shown-requires-clause-second
are_shown-requires-clause-second c = ((c.in-Some-access_named.ensures c.in-Some-access_named.second).0 refl).0
