use Rattle.std.proofs.Common.{sym, subst}
use Rattle.rma_round.specs.Meet.{round_meets, HasMeets}
use Rattle.rma_round.proofs.KeptLemmas.{OnOk_map}
use Rattle.rma_round.proofs.MeetLemmas.{has_meets}
use Rattle.rma_round.proofs.rounds.Rounds.push_meets.Goals as goal

pub returns-clause-meets : goal.returns-clause-meets
returns-clause-meets c =
    let ranks = c.args.ranks.now in
    let before = c.args.links.now.meets in
    OnOk_map c.push_kinds.result
    (λ is. subst (λ all. HasMeets all before (round_meets ranks)) (sym is) (has_meets ranks c.args.self.now c.requires.run.in_order c.requires.represents c.turns.result c.turns.ensures before))
    c.push_kinds.ensures.meets
