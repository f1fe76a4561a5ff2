use Rattle.std.proofs.Common.{Option, subst}
use Rattle.std.proofs.lemmas.Option.{slice_get_within}
use Rattle.rma_clock.specs.Reached.{points_of}
use Rattle.rma_exposure.specs.Matching.{partner_of}
use Rattle.rma_run.specs.Run.{calls_of, lens_of}
use Rattle.rma_points.proofs.SpanLemmas.{entered, returned}
use Rattle.rma_assert.specs.declared.asserting.Asserting.{Asserting}
use Rattle.rma_assert.specs.inside.Started.{IsOfPost}
use Rattle.rma_assert.proofs.GatherLemmas.{on_ok}
use Rattle.rma_assert.proofs.StartLemmas.{more_of_target, none_of_target}
use Rattle.rma_assert.proofs.starts.add_of_target.Goals as goal

pub add_pair-requires-clause-clocks : goal.add_pair-requires-clause-clocks
add_pair-requires-clause-clocks g c =
    let ranks = c.args.ranks.now in
    let calls = calls_of ranks in
    let start = c.args.start in
    let post = c.in-Some.post in
    let of = subst (λ (o : Option Asserting). IsOfPost calls (partner_of calls start.rank.0 start.number c.args.target.0) c.args.target o) c.in-Some.is c.post_of.ensures in
    let is = of.2 in
    let own = c.requires.start in (
      points_of (lens_of ranks),
      c.requires.clocks.0,
      c.requires.clocks.1,
      returned ranks post.rank post.number (slice_get_within (calls post.rank.0) post.number is.call is.there),
      entered ranks start.rank start.number (slice_get_within (calls start.rank.0) start.number own.call own.there),
    )

pub returns-in-Some : goal.returns-in-Some
returns-in-Some g c =
    let ranks = c.args.ranks.now in
    let calls = calls_of ranks in
    let start = c.args.start in
    let post = c.in-Some.post in
    let of = subst (λ (o : Option Asserting). IsOfPost calls (partner_of calls start.rank.0 start.number c.args.target.0) c.args.target o) c.in-Some.is c.post_of.ensures in
    let is = of.2 in
    let own = c.requires.start in
    on_ok c.add_pair.result
    (λ told links are.
    more_of_target calls links start c.args.target post c.args.found.now.items c.add_pair.new.found.items of
    (told (points_of (lens_of ranks)) links are (returned ranks post.rank post.number (slice_get_within (calls post.rank.0) post.number is.call is.there))
    (entered ranks start.rank start.number (slice_get_within (calls start.rank.0) start.number own.call own.there))))
    c.add_pair.ensures

pub returns-in-None : goal.returns-in-None
returns-in-None g c = λ links are.
    let calls = calls_of c.args.ranks.now in
    let start = c.args.start in
    none_of_target calls links start c.args.target c.args.found.now.items (subst (λ (o : Option Asserting). IsOfPost calls (partner_of calls start.rank.0 start.number c.args.target.0) c.args.target o) c.in-None.is c.post_of.ensures)
