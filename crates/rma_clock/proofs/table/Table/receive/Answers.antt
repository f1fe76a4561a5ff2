use Rattle.std.proofs.Common.{◌≡◌, ◌<◌, ◌++◌, List, [], ◌∷◌, length, map, set, refl, sym, ap, ◌∙◌, inl, arith}
use Rattle.std.proofs.lemmas.Bool.{eqb-true}
use Rattle.std.proofs.lemmas.List.{get_or_read, set-get_or, length-map}
use Rattle.std.proofs.lemmas.Result.{on_ok_weaker, on_err_weaker}
use Rattle.rma_walk.specs.declared.source.Source.TheVariants.{Entry}
use Rattle.rma_clock.specs.declared.step.Step.{Step}
use Rattle.rma_clock.specs.declared.table.Table.{Table}
use Rattle.rma_clock.specs.Reached.{with_edges, edges_to}
use Rattle.rma_clock.specs.inside.Before.{IsBefore}
use Rattle.rma_clock.specs.inside.Table.{steps_of}
use Rattle.rma_clock.proofs.BuilderLemmas.{new_at, table_with_row, settled_with_step, table_with_step}
use Rattle.rma_clock.proofs.LiveLemmas.{on_err, table_as, live_as, rank_there, table_more, earlier_steps, live_more}
use Rattle.rma_clock.proofs.table.Table.receive.Goals as goal

pub returns-then-is_empty-clause-ok : goal.returns-then-is_empty-clause-ok
returns-then-is_empty-clause-ok c points links live can =
    let table = c.args.self.now in
    let q = c.args.point in
    let sources = c.args.sources.now in
    let none : length sources ≡ 0 = eqb-true (length sources) 0 (sym c.is_empty.ensures ∙ c.if-is_empty.true) in
    let size : length (map Entry sources) ≡ length sources = length-map sources Entry in
    live_more points links table live q sources can table (table_more points links table live q sources can)
    (record {
      size = refl;
      kept = λ r s has. has;
      added = λ some. absurd (omega arith);
      only = λ r s has. inl has;
    })

pub index_mut-steps-requires : goal.index_mut-steps-requires
index_mut-steps-requires c =
    let there = rank_there c.requires.0 c.requires.1 c.args.self.now c.requires.2 c.args.point c.args.sources.now c.requires.3 in
    let size = c.requires.2.whole.rows.size in
    omega arith

pub returns-in_err-row-clause-err : goal.returns-in_err-row-clause-err
returns-in_err-row-clause-err c =
    on_err c.from_residual-in_err-row.result
    (λ points links live. live_as points links c.args.self.now _ live (table_as (length points) links c.args.self.now _ live.whole.rows refl c.in_err-row.ensures.err) refl)

pub returns-clause-ok : goal.returns-clause-ok
returns-clause-ok c =
    let old = c.args.self.now in
    let q = c.args.point in
    let rank = q.rank.0 in
    let sources = c.args.sources.now in
    let numbers = c.in_ok-numbers.numbers in
    let s : Step = record { pos = q.pos; row = c.in_ok-row.row } in
    let mid : Table = record { steps = old.steps; rows = c.add.new.self } in
    on_ok_weaker c.push.result
    (λ pushed points links live can.
    let more = with_edges links (edges_to q sources) in
    let size = live.whole.rows.size in
    let there_points = rank_there points links old live q sources can in
    let there : rank < length old.steps.items = omega arith in
    let read : c.index_mut-steps.result.now ≡ steps_of old.steps.items rank = get_or_read old.steps.items rank c.index_mut-steps.result.now there c.index_mut-steps.ensures.value [] in
    let is : set old.steps.items rank c.push.new.self ≡ set old.steps.items rank (steps_of old.steps.items rank ++ s ∷ []) =
    ap (set old.steps.items rank) (pushed ∙ ap (λ (xs : List Step). xs ++ s ∷ []) read) in
    let row = c.in_ok-numbers.ensures.row points links live can in
    let width : length numbers ≡ length points = c.in_ok-numbers.ensures.size ∙ size in
    let with_row = table_with_row (length points) more old mid numbers (table_more points links old live q sources can) refl c.in_ok-row.ensures.ok width in
    let right = new_at (IsBefore more q) old.rows c.add.new.self numbers c.in_ok-row.row c.in_ok-row.ensures.ok c.in_ok-row.ensures.index row in
    live_more points links old live q sources can _
    (table_with_step (length points) more old.steps.items _ rank s there is mid _ with_row refl refl refl (earlier_steps points links old live q sources can) right)
    (settled_with_step (length points) more old.steps.items _ rank s there is q (map Entry sources) refl refl))
    c.push.ensures.ok

pub returns-clause-err : goal.returns-clause-err
returns-clause-err c =
    let old = c.args.self.now in
    let rank = c.args.point.rank.0 in
    let numbers = c.in_ok-numbers.numbers in
    let mid : Table = record { steps = old.steps; rows = c.add.new.self } in
    on_err_weaker c.push.result
    (λ kept points links live.
    let size = live.whole.rows.size in
    let known = rank_there c.requires.0 c.requires.1 old c.requires.2 c.args.point c.args.sources.now c.requires.3 in
    let known_size = c.requires.2.whole.rows.size in
    let there : rank < length old.steps.items = omega arith in
    let read : c.index_mut-steps.result.now ≡ steps_of old.steps.items rank = get_or_read old.steps.items rank c.index_mut-steps.result.now there c.index_mut-steps.ensures.value [] in
    let same : set old.steps.items rank c.push.new.self ≡ old.steps.items = ap (set old.steps.items rank) (kept ∙ read) ∙ set-get_or old.steps.items rank [] in
    let width : length numbers ≡ length points = c.in_ok-numbers.ensures.size ∙ size in
    let with_row = table_with_row (length points) links old mid numbers live.whole.rows refl c.in_ok-row.ensures.ok width in
    live_as points links old _ live (table_as (length points) links mid _ with_row same refl) same)
    c.push.ensures.err
