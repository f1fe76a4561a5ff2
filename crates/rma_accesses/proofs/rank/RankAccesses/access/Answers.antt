use Rattle.std.proofs.Common.{sym}
use Rattle.std.proofs.Common.{◌∙◌}
use Rattle.std.specs.Prelude.{Contains}
use Rattle.rma_points.proofs.OptionLemmas.{each_some}
use Rattle.rma_span.specs.Span.{accesses_of, origin_of}
use Rattle.rma_accesses.proofs.RankLemmas.{made_by_rank, spanned_there}
use Rattle.rma_accesses.proofs.rank.RankAccesses.access.Goals as goal

pub returns-clause-is : goal.returns-clause-is
returns-clause-is c = λ ranks number call is spanned there. c.access.ensures (origin_of ranks c.args.self.now.own.now) number call is.spans is.askable (sym c.rank.ensures) spanned there

pub returns-clause-of_rank : goal.returns-clause-of_rank
returns-clause-of_rank c = λ ranks is.
    let origin = origin_of ranks c.args.self.now.own.now in
    let given = c.requires in
    let first = origin_of given.0 c.args.self.now.own.now in
    let there = spanned_there first origin c.args.self.now.spans c.args.index given.1.spans is.spans given.2 in
    each_some (Contains (accesses_of origin)) c.access.result
    (λ a some. made_by_rank origin there.0 there.1 c.args.role a there.3 (sym (c.access.ensures origin there.0 there.1 is.spans is.askable (sym c.rank.ensures) there.2 there.3) ∙ some))
