use Rattle.std.proofs.Common.{◌≡◌, ℕ, ◌+◌, ◌⊎◌, ◌++◌, List, [], ◌∷◌, length, get_or, take, replicate, refl, sym, ap, subst, ◌∙◌, arith}
use Rattle.std.proofs.lemmas.List.{take_more, take_all, length-replicate}
use Rattle.rma_link.specs.declared.links.Links.{Links}
use Rattle.rma_link.specs.Order.{IsAtOrBefore, IsPossible}
use Rattle.rma_walk.specs.declared.source.Source.{Source}
use Rattle.rma_walk.specs.declared.source.Source.TheVariants.{Entry}
use Rattle.rma_clock.specs.declared.step.Step.{Step}
use Rattle.rma_clock.specs.inside.Before.{IsBeforeSource, IsBeforeSome, IsRaised}
use Rattle.rma_clock.specs.inside.Table.{IsBuilder, IsUsable}
use Rattle.rma_clock.proofs.RowLemmas.{row_from_none}
use Rattle.rma_clock.proofs.BuilderLemmas.{new_at, table_with_row, shared_with_row, raised_by_source}
use Rattle.rma_clock.proofs.builder.Builder.own_row.Goals as goal

pub raise_by-requires-clause-usable : goal.raise_by-requires-clause-usable
raise_by-requires-clause-usable c =
    let now = c.loop-source.self in
    let none : Source = Entry (record { rank = record { 0 = 0 }; pos = 0 }) in
    let steps : now.table.steps.items ≡ c.args.self.now.table.steps.items = ap (λ v. v.items) c.loop-source.invariant.steps in
    let P : List (List Step) → Type 0 = λ all. IsUsable (length all) c.args.self.now.links.now all (get_or c.args.sources.now c.loop-source.source-index none) in
    let Q : Links → Type 0 = λ links. IsUsable (length now.table.steps.items) links now.table.steps.items (get_or c.args.sources.now c.loop-source.source-index none) in
    subst Q (sym c.loop-source.invariant.links) (subst P (sym steps) (c.requires.usable c.loop-source.source-index _ c.loop-source-test.true))

pub raise_by-requires-clause-possible : goal.raise_by-requires-clause-possible
raise_by-requires-clause-possible c = subst IsPossible (sym c.loop-source.invariant.links) c.requires.possible

pub loop-source-preserved : goal.loop-source-preserved
loop-source-preserved c =
    let first = c.args.self.now in
    let now = c.loop-source.self in
    let new = c.raise_by.new.self in
    let i = c.loop-source.source-index in
    let none : Source = Entry (record { rank = record { 0 = 0 }; pos = 0 }) in
    let steps : now.table.steps.items ≡ first.table.steps.items = ap (λ v. v.items) c.loop-source.invariant.steps in
    let P : ℕ → Type 0 = λ n. IsBuilder n now.links.now new in
    let Q : Links → Type 0 = λ links. IsBuilder (length first.table.steps.items) links new in
    let R : Links → Type 0 = λ links. IsRaised (IsBeforeSource links (get_or c.args.sources.now i none)) c.loop-source.numbers c.raise_by.new.row in
    record {
      links = c.raise_by.ensures.links ∙ c.loop-source.invariant.links;
      steps = c.raise_by.ensures.steps ∙ c.loop-source.invariant.steps;
      builder = subst Q c.loop-source.invariant.links (subst P (ap length steps) c.in_ok-raise_by.ensures.builder);
      raised = raised_by_source first.links.now c.args.own (take i c.args.sources.now) (take (i + 1) c.args.sources.now) _ _ c.loop-source.numbers c.raise_by.new.row
          (take_more c.args.sources.now i _ c.loop-source-test.true) c.loop-source.invariant.raised (subst R c.loop-source.invariant.links c.in_ok-raise_by.ensures.raised);
    }

pub returns-clause-builder : goal.returns-clause-builder
returns-clause-builder c =
    let n = length c.args.self.now.table.steps.items in
    let links = c.args.self.now.links.now in
    let now = c.loop-source.self in
    let more : c.add.new.self ≡ now.table.rows ++ c.loop-source.numbers ∷ [] = c.in_ok-row.ensures.ok in
    let width : length c.loop-source.numbers ≡ n = c.loop-source.invariant.raised.size ∙ length-replicate n 0 in
    record {
      links_are = c.loop-source.invariant.links;
      rows = table_with_row n links now.table _ c.loop-source.numbers c.loop-source.invariant.builder.rows refl more width;
      shared = shared_with_row links now.table.rows c.add.new.self c.loop-source.numbers now.meets.items more c.loop-source.invariant.builder.shared;
    }

pub returns-clause-row : goal.returns-clause-row
returns-clause-row c =
    let n = length c.args.self.now.table.steps.items in
    let links = c.args.self.now.links.now in
    let now = c.loop-source.self in
    let sources = c.args.sources.now in
    let more : c.add.new.self ≡ now.table.rows ++ c.loop-source.numbers ∷ [] = c.in_ok-row.ensures.ok in
    let last : c.in_ok-row.row ≡ length now.table.rows = c.in_ok-row.ensures.index in
    let all : take c.loop-source.source-index sources ≡ sources = take_all c.loop-source.source-index sources (omega arith) in
    let P : List Source → Type 0 = λ xs. IsRaised (λ p. IsAtOrBefore links p c.args.own ⊎ IsBeforeSome links xs p) (replicate n 0) c.loop-source.numbers in
    new_at (λ p. IsAtOrBefore links p c.args.own ⊎ IsBeforeSome links sources p) now.table.rows c.add.new.self c.loop-source.numbers c.in_ok-row.row more last
    (row_from_none (λ p. IsAtOrBefore links p c.args.own ⊎ IsBeforeSome links sources p) n c.loop-source.numbers (subst P all c.loop-source.invariant.raised))
