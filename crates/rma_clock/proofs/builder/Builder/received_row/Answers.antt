use Rattle.std.proofs.Common.{◌≡◌, ℕ, ◌<◌, [], ◌∷◌, length, subst, arith}
use Rattle.rma_walk.specs.declared.source.Source.TheVariants.{Meet}
use Rattle.rma_walk.proofs.ListLemmas.{ok_later}
use Rattle.rma_clock.specs.inside.Before.{IsBefore, IsBeforeSource, IsRow}
use Rattle.rma_clock.specs.inside.Table.{IsUsable, row_at}
use Rattle.rma_clock.proofs.BeforeLemmas.{row_of_meet}
use Rattle.rma_clock.proofs.BuilderLemmas.{only_one}
use Rattle.rma_clock.proofs.builder.Builder.received_row.Goals as goal

pub share-requires-clause-usable : goal.share-requires-clause-usable
share-requires-clause-usable c =
    let old = c.args.self.now in
    subst (IsUsable (length old.table.steps.items) old.links.now old.table.steps.items) c.in-Meet.is (c.requires.usable 0 _ (omega arith))

pub returns-in-Meet-clause-row : goal.returns-in-Meet-clause-row
returns-in-Meet-clause-row c =
    let links = c.args.self.now.links.now in
    let rows = c.share.new.self.table.rows in
    let sources = c.args.sources.now in
    let one : sources ≡ Meet c.in-Meet.index ∷ [] = only_one sources (Meet c.in-Meet.index) _ c.if-sources-eq1.true c.in-Meet.is in
    let R : ℕ → Type 0 = λ row. (row < length rows) × IsRow (IsBeforeSource links (Meet c.in-Meet.index)) (row_at rows row) in
    let S : ℕ → Type 0 = λ row. (row < length rows) × IsRow (IsBefore links c.args.point) (row_at rows row) in
    ok_later c.share.result R R S c.share.ensures.row c.share.ensures.row
    (λ row here same. (here.0, row_of_meet links c.args.point sources c.in-Meet.index (row_at rows row) c.requires.received one here.1))
