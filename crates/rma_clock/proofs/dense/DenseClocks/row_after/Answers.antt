use Rattle.std.proofs.Common.{◌≡◌, ◌+◌, length, get_or, take, replicate, sym, subst, ◌∙◌, arith}
use Rattle.std.proofs.lemmas.List.{take_more, take_all, length-replicate, length-set}
use Rattle.std.proofs.lemmas.List.Elements.{Contains-get_or}
use Rattle.rma_walk.specs.declared.source.Source.{Source}
use Rattle.rma_walk.specs.declared.source.Source.TheVariants.{Entry}
use Rattle.rma_link.specs.Order.IsAtOrBefore.{at}
use Rattle.rma_clock.specs.inside.Before.{IsBeforeSome, IsBeforeSource, IsRaised}
use Rattle.rma_clock.specs.inside.Dense.{IsRowOf}
use Rattle.rma_clock.proofs.RowLemmas.{raised_by_more, row_from_none}
use Rattle.rma_clock.proofs.DenseLemmas.{row_of_point}
use Rattle.rma_clock.proofs.dense.DenseClocks.row_after.Goals as goal

pub raise_by-requires-clause-held : goal.raise_by-requires-clause-held
raise_by-requires-clause-held c =
    let none : Source = Entry (record { rank = record { 0 = 0 }; pos = 0 }) in
    let sources = c.args.sources.now in
    let i = c.loop-source.source-index in
    let are = c.requires.sources in (
      are.known i none c.loop-source-test.true,
      λ e is. c.requires.held e (are.from e (get_or sources i none, Contains-get_or sources i none c.loop-source-test.true, (e, is, at))),
    )

pub loop-source-preserved : goal.loop-source-preserved
loop-source-preserved c =
    let none : Source = Entry (record { rank = record { 0 = 0 }; pos = 0 }) in
    let sources = c.args.sources.now in
    let i = c.loop-source.source-index in
    raised_by_more (IsBeforeSource c.args.links.now) (take i sources) (take (i + 1) sources) (get_or sources i none) _ c.loop-source.row c.raise_by.new.row (take_more sources i none c.loop-source-test.true) c.loop-source.invariant c.raise_by.ensures

pub returns : goal.returns
returns c =
    let links = c.args.links.now in
    let n = length c.args.self.now.rows.items in
    let q = c.args.point in
    let sources = c.args.sources.now in
    let old = c.loop-source.row in
    let width : length old ≡ n = c.loop-source.invariant.size ∙ length-replicate n 0 in
    let all : take c.loop-source.source-index sources ≡ sources = take_all c.loop-source.source-index sources (omega arith) in
    let row = subst (λ xs. IsRaised (IsBeforeSome links xs) (replicate n 0) old) all c.loop-source.invariant in
    let there = c.requires.rank in
    subst (IsRowOf n links q) (sym c.raise.ensures)
    (length-set old q.rank.0 _ ∙ width, row_of_point links n q sources old c.requires.sources (omega arith) (row_from_none (IsBeforeSome links sources) n old row))
