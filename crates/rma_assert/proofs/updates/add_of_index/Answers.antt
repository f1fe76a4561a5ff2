use Rattle.std.proofs.Common.{sym, ◌∙◌}
use Rattle.rma_accesses.specs.inside.Kept.{rank_of}
use Rattle.rma_accesses.proofs.RankLemmas.{spanned_there}
use Rattle.rma_run.specs.Run.{calls_of}
use Rattle.rma_rules.specs.declared.access_name.Role.TheVariants.{Target}
use Rattle.rma_assert.specs.Updates.{IsByUpdate}
use Rattle.rma_span.specs.Span.{origin_of}
use Rattle.rma_assert.proofs.GatherLemmas.{on_ok}
use Rattle.rma_assert.proofs.UpdateLemmas.{more_of_index, none_of_index}
use Rattle.rma_assert.proofs.updates.add_of_index.Goals as goal

pub returns-in-Some : goal.returns-in-Some
returns-in-Some c =
    let ranks = c.args.ranks.now in
    let own = rank_of c.args.own.now in
    let origin = origin_of ranks own in
    let kept = c.requires.own in
    let (number, call, number_is, call_is) = spanned_there origin origin c.args.own.now.spans c.args.index kept.spans kept.spans c.requires.index in
    let made = sym (c.access.ensures.is ranks number call kept number_is call_is) ∙ c.in-Some.is in
    on_ok c.add_of_access.result (λ more. more_of_index ranks own Target (IsByUpdate (calls_of ranks)) c.args.index number call number_is call_is c.in-Some.access c.args.found.now.items c.add_of_access.new.found.items made more) c.add_of_access.ensures

pub returns-in-None : goal.returns-in-None
returns-in-None c =
    let ranks = c.args.ranks.now in
    let own = rank_of c.args.own.now in
    let origin = origin_of ranks own in
    let kept = c.requires.own in
    let (number, call, number_is, call_is) = spanned_there origin origin c.args.own.now.spans c.args.index kept.spans kept.spans c.requires.index in
    none_of_index ranks own Target (IsByUpdate (calls_of ranks)) c.args.index number call number_is call_is c.args.found.now.items (sym (c.access.ensures.is ranks number call kept number_is call_is) ∙ c.in-None.is)
