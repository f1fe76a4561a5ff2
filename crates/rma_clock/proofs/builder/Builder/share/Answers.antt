use Rattle.std.proofs.Common.{◌≡◌, ◌<◌, ◌++◌, [], ◌∷◌, None, length, refl, sym, ◌∙◌, arith}
use Rattle.std.proofs.lemmas.List.{get_or_read}
use Rattle.rma_walk.specs.declared.source.Source.TheVariants.{Meet}
use Rattle.rma_clock.specs.inside.Before.{IsBeforeSource}
use Rattle.rma_clock.proofs.BuilderLemmas.{new_at, table_with_row, shared_with_row, shared_with_meet}
use Rattle.rma_clock.proofs.builder.Builder.share.Goals as goal

pub returns-in-Some-clause-row : goal.returns-in-Some-clause-row
returns-in-Some-clause-row c =
    let meets = c.args.self.now.meets.items in
    let shared = c.requires.builder.shared in
    let size = shared.size in
    let fits = c.requires.usable.0 in
    let there : c.args.index < length meets = omega arith in
    let at : c.index.result.now ≡ _ = get_or_read meets c.args.index c.index.result.now there c.index.ensures None in
    shared.right c.args.index c.in-Some.row (sym at ∙ c.in-Some.is)

pub returns-clause-builder : goal.returns-clause-builder
returns-clause-builder c =
    let old = c.args.self.now in
    let links = old.links.now in
    let n = length old.table.steps.items in
    let shared = c.requires.builder.shared in
    let size = shared.size in
    let fits = c.requires.usable.0 in
    let there : c.args.index < length old.meets.items = omega arith in
    let numbers = c.in_ok-numbers.numbers in
    let rows = c.add.new.self in
    let more : rows ≡ old.table.rows ++ numbers ∷ [] = c.in_ok-row.ensures.ok in
    record {
      links_are = refl;
      rows = table_with_row n links old.table _ numbers c.requires.builder.rows refl more c.in_ok-numbers.ensures.size;
      shared = shared_with_meet links rows old.meets.items c.args.index c.in_ok-row.row
          (shared_with_row links old.table.rows rows numbers old.meets.items more shared) there
          (new_at (IsBeforeSource links (Meet c.args.index)) old.table.rows rows numbers c.in_ok-row.row more c.in_ok-row.ensures.index c.in_ok-numbers.ensures.row);
    }

pub returns-clause-row : goal.returns-clause-row
returns-clause-row c =
    let old = c.args.self.now in
    new_at (IsBeforeSource old.links.now (Meet c.args.index)) old.table.rows c.add.new.self c.in_ok-numbers.numbers c.in_ok-row.row c.in_ok-row.ensures.ok c.in_ok-row.ensures.index c.in_ok-numbers.ensures.row
