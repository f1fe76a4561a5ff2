use Rattle.std.proofs.Common.{ap, ◌∙◌}
use Rattle.rma_base.specs.declared.match_reason.MatchReason.TheVariants.{WindowDiffers, CommDiffers}
use Rattle.rma_member.specs.Attribute.{same_ranks, same_attributes}
use Rattle.rma_member.specs.Difference.{differences}
use Rattle.rma_sync.proofs.AppendLemmas.{appended}
use Rattle.rma_sync.proofs.matching.RoundFaults.of_scan.Goals as goal

pub returns-clause-first : goal.returns-clause-first
returns-clause-first c =
    let found = c.in_ok-members.ensures in
    let calls = appended c.in_ok-append.ensures found.collectives c.in_ok-missing.ensures.calls in
    appended c.in_ok-append-2.ensures calls found.fences

pub returns-clause-last : goal.returns-clause-last
returns-clause-last c =
    let found = c.in_ok-members.ensures in
    let windows = c.in_ok-last.ensures ∙ ap (differences same_attributes WindowDiffers) found.members.creations_are in
    let comms = appended c.in_ok-append-3.ensures windows (c.in_ok-comm_faults.ensures ∙ ap (differences same_ranks CommDiffers) found.members.comms_are) in
    let movings = appended c.in_ok-append-4.ensures comms found.movings in
    appended c.in_ok-append-5.ensures movings c.in_ok-missing.ensures.movings
