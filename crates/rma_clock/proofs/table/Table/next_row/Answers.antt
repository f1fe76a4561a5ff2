use Rattle.std.proofs.Common.{◌≡◌, ◌+◌, ◌⊎◌, ◌≤◌, List, length, get_or, take, sym, subst, ◌∙◌, arith}
use Rattle.std.specs.Prelude.{slice_index, sum}
use Rattle.std.proofs.lemmas.List.{take_more, take_all}
use Rattle.std.proofs.lemmas.List.Sums.{get_or-le-sum_by}
use Rattle.rma_base.specs.declared.point.Point.{Point}
use Rattle.rma_clock.specs.Reached.{IsReached}
use Rattle.rma_clock.specs.inside.Before.{IsRow}
use Rattle.rma_clock.specs.inside.Table.{IsTable}
use Rattle.rma_clock.specs.inside.Live.{IsBeforeOwn, IsBeforePoints}
use Rattle.rma_clock.proofs.ReachedLemmas.{in_reach}
use Rattle.rma_clock.proofs.LiveLemmas.{no_source, one_source, row_of_next}
use Rattle.rma_clock.proofs.table.Table.next_row.Goals as goal

pub loop-source-init : goal.loop-source-init
loop-source-init c = record {
  size = c.in_ok-row.ensures.size;
  row = λ points links live can. no_source links c.args.point c.in_ok-row.row (c.in_ok-row.ensures.row points links live can.next);
}

pub raise_to-requires-clause-table : goal.raise_to-requires-clause-table
raise_to-requires-clause-table c =
    let points = c.requires.0 in
    let links = c.requires.1 in
    let rows = c.requires.2.whole.rows in
    let width : length c.loop-source.row ≡ length points = c.loop-source.invariant.size ∙ rows.size in
    (links, subst (λ n. IsTable n links c.args.self.now) (sym width) rows)

pub raise_to-requires-clause-rank : goal.raise_to-requires-clause-rank
raise_to-requires-clause-rank c =
    let points = c.requires.0 in
    let d : Point = record { rank = record { 0 = 0 }; pos = 0 } in
    let source = get_or c.args.sources.now c.loop-source.source-index d in
    let there = in_reach points source (c.requires.3.known c.loop-source.source-index d c.loop-source-test.true) in
    let width : length c.loop-source.row ≡ length points = c.loop-source.invariant.size ∙ c.requires.2.whole.rows.size in
    omega arith

pub raise_to-requires-clause-pos : goal.raise_to-requires-clause-pos
raise_to-requires-clause-pos c =
    let points = c.requires.0 in
    let d : Point = record { rank = record { 0 = 0 }; pos = 0 } in
    let source = get_or c.args.sources.now c.loop-source.source-index d in
    let reached : IsReached points source = c.requires.3.known c.loop-source.source-index d c.loop-source-test.true in
    let within : slice_index points source.rank.0 ≤ sum points = get_or-le-sum_by (λ n. n) points source.rank.0 0 (in_reach points source reached) in
    let fits = c.requires.3.fits in
    omega arith

pub loop-source-preserved : goal.loop-source-preserved
loop-source-preserved c =
    let sources = c.args.sources.now in
    let i = c.loop-source.source-index in
    let d : Point = record { rank = record { 0 = 0 }; pos = 0 } in
    let source = get_or sources i d in
    record {
      size = c.raise_to.ensures.size ∙ c.loop-source.invariant.size;
      row = λ points links live can.
          let width : length c.loop-source.row ≡ length points = c.loop-source.invariant.size ∙ live.whole.rows.size in
          let table = subst (λ n. IsTable n links c.args.self.now) (sym width) live.whole.rows in
          one_source links c.args.point source (take i sources) (take (i + 1) sources) c.loop-source.row c.raise_to.new.row (take_more sources i d c.loop-source-test.true)
          (c.loop-source.invariant.row points links live can)
          (c.raise_to.ensures.raised links table live.whole.possible (live.whole.caught source (can.known i d c.loop-source-test.true)));
    }

pub returns-clause-row : goal.returns-clause-row
returns-clause-row c points links live can =
    let sources = c.args.sources.now in
    let i = c.loop-source.source-index in
    let all : take i sources ≡ sources = take_all i sources (omega arith) in
    let P : List Point → Type 0 = λ xs. IsRow (λ p. IsBeforeOwn links c.args.point p ⊎ IsBeforePoints links xs p) c.loop-source.row in
    row_of_next points links c.args.self.now live c.args.point sources can c.loop-source.row (subst P all (c.loop-source.invariant.row points links live can))
