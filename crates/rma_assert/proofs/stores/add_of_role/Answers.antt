use Rattle.std.proofs.Common.{sym, ◌∙◌}
use Rattle.rma_accesses.specs.inside.Kept.{rank_of}
use Rattle.rma_accesses.proofs.RankLemmas.{spanned_there}
use Rattle.rma_span.specs.Span.{origin_of}
use Rattle.rma_assert.specs.inside.Stored.{IsStoredBy}
use Rattle.rma_assert.proofs.GatherLemmas.{on_ok}
use Rattle.rma_assert.proofs.StoreLemmas.{made_rank}
use Rattle.rma_assert.proofs.UpdateLemmas.{more_of_index, none_of_index}
use Rattle.rma_assert.proofs.stores.add_of_role.Goals as goal

pub add_of_access-requires-clause-own : goal.add_of_access-requires-clause-own
add_of_access-requires-clause-own c =
    let ranks = c.args.ranks.now in
    let origin = origin_of ranks (rank_of c.args.accesses.now) in
    let kept = c.requires.accesses in
    let (number, call, number_is, call_is) = spanned_there origin origin c.args.accesses.now.spans c.args.index kept.spans kept.spans c.requires.index in
    let made = sym (c.access.ensures.is ranks number call kept number_is call_is) ∙ c.in-Some.is in
    made_rank origin number call c.args.role c.in-Some.access made ∙ c.requires.rank

pub returns-in-Some : goal.returns-in-Some
returns-in-Some c =
    let ranks = c.args.ranks.now in
    let own = rank_of c.args.accesses.now in
    let origin = origin_of ranks own in
    let kept = c.requires.accesses in
    let (number, call, number_is, call_is) = spanned_there origin origin c.args.accesses.now.spans c.args.index kept.spans kept.spans c.requires.index in
    let made = sym (c.access.ensures.is ranks number call kept number_is call_is) ∙ c.in-Some.is in
    on_ok c.add_of_access.result
    (λ more. more_of_index ranks own c.args.role (IsStoredBy c.args.windows.now c.args.given.now) c.args.index number call number_is call_is c.in-Some.access c.args.found.now.items c.add_of_access.new.found.items made more)
    c.add_of_access.ensures

pub returns-in-None : goal.returns-in-None
returns-in-None c =
    let ranks = c.args.ranks.now in
    let own = rank_of c.args.accesses.now in
    let origin = origin_of ranks own in
    let kept = c.requires.accesses in
    let (number, call, number_is, call_is) = spanned_there origin origin c.args.accesses.now.spans c.args.index kept.spans kept.spans c.requires.index in
    none_of_index ranks own c.args.role (IsStoredBy c.args.windows.now c.args.given.now) c.args.index number call number_is call_is c.args.found.now.items
    (sym (c.access.ensures.is ranks number call kept number_is call_is) ∙ c.in-None.is)
