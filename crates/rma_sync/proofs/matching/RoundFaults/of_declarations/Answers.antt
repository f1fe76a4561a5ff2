use Rattle.std.proofs.Common.{append-nil, refl, sym, ap, ◌∙◌}
use Rattle.rma_base.specs.declared.match_reason.MatchReason.TheVariants.{WindowDiffers, CommDiffers}
use Rattle.rma_round.specs.declared.kind.Kind.TheVariants as kind
use Rattle.rma_member.specs.Attribute.{same_ranks, same_attributes}
use Rattle.rma_member.specs.Difference.{differences}
use Rattle.rma_missing.proofs.MissingLemmas.{missing_calls_none, missing_data_none}
use Rattle.rma_sync.proofs.AppendLemmas.{appended}
use Rattle.rma_sync.proofs.matching.RoundFaults.of_declarations.Goals as goal

pub returns-clause-first : goal.returns-clause-first
returns-clause-first c =
    let agree = c.requires.agree in
    rw (c.new.ensures, agree kind.Collective, missing_calls_none c.args.ranks.now c.requires.balanced, agree kind.Fence) refl

pub returns-clause-last : goal.returns-clause-last
returns-clause-last c =
    let windows = c.in_ok-last.ensures ∙ ap (differences same_attributes WindowDiffers) c.requires.members.creations_are in
    let comms = c.in_ok-differences.ensures ∙ ap (differences same_ranks CommDiffers) c.requires.members.comms_are in
    let both = appended c.in_ok-append.ensures windows comms in
    rw (c.requires.agree kind.Moving, missing_data_none c.args.ranks.now c.requires.balanced) (both ∙ sym (append-nil _) ∙ sym (append-nil _))
