use Rattle.std.proofs.Common.{sym, ap, ◌∙◌, cond, None}
use Rattle.rma_run.specs.Run.{calls_of}
use Rattle.rma_round.specs.declared.kind.Kind.TheVariants.{Moving}
use Rattle.rma_round.specs.Round.{match_of}
use Rattle.rma_round.proofs.NumberLemmas.{match_below}
use Rattle.rma_round.proofs.rounds.Rounds.call_of_root.Goals as goal

pub returns-clause-call : goal.returns-clause-call
returns-clause-call c =
    let calls = calls_of c.args.ranks.now in
    c.match_of.ensures Moving calls c.requires.represents.movings_are
    ∙ ap (λ b. cond b None (match_of Moving c.args.at.comm.now calls c.args.rank.0 c.args.number c.args.at.root.0)) (sym (sym c.eq.ensures ∙ c.if-eq.false))

pub returns-clause-below : goal.returns-clause-below
returns-clause-below c =
    match_below Moving c.args.at.comm.now c.args.ranks.now c.args.rank.0 c.args.number c.args.at.root.0 c.match_of.result c.requires.run
    (c.match_of.ensures Moving (calls_of c.args.ranks.now) c.requires.represents.movings_are)
