use Rattle.std.proofs.Common.{◌≡◌, ℕ, ◌<◌, List, length, replicate, sym, ap, subst, ◌∙◌, arith}
use Rattle.std.proofs.lemmas.List.{length-replicate}
use Rattle.std.proofs.lemmas.Option.{get_or_from_slice_get}
use Rattle.rma_base.specs.declared.point.Point.{Point}
use Rattle.rma_link.specs.Order.{IsAtOrBefore}
use Rattle.rma_clock.specs.inside.Before.{IsRow, IsRaised}
use Rattle.rma_clock.specs.inside.Table.{IsTable, entry_before}
use Rattle.rma_clock.specs.inside.Live.{IsBeforeOwn}
use Rattle.rma_clock.proofs.RowLemmas.{row_from_none, row_as, raised_by_nothing}
use Rattle.rma_clock.proofs.table.Table.own_row.Goals as goal
use Rattle.rma_clock.proofs.table.Table.own_row.Goals.{then-point-gt0, else-point-gt0}

pub returns-clause-row : goal.returns-clause-row
returns-clause-row c points links live next =
    let point = c.args.point in
    let own : Point = entry_before point in
    let none = c.in_ok-row.ensures in
    let at_next = get_or_from_slice_get points point.rank.0 point.pos 0 next in
    elim c.if-point-gt0.branch [
      | then-point-gt0 w ↦
          let size = live.whole.rows.size in
          let count : c.len.result ≡ length points = omega (arith, c.len.ensures) in
          let some : 0 < point.pos = w.if-point-gt0.true in
          let width : length c.in_ok-row.row ≡ length points = ap length none ∙ length-replicate c.len.result 0 ∙ count in
          let table = subst (λ n. IsTable n links c.args.self.now) (sym width) live.whole.rows in
          let raised = w.raise_to.ensures.raised links table live.whole.possible (live.whole.caught own (omega arith)) in
          let R : List ℕ → Type 0 = λ old. IsRaised (λ p. IsAtOrBefore links p own) old w.raise_to.new.row in
          let row = row_from_none (λ p. IsAtOrBefore links p own) c.len.result w.raise_to.new.row (subst R none raised) in
          subst (IsRow (IsBeforeOwn links point)) (sym w.row-is) (row_as (λ p. IsAtOrBefore links p own) (IsBeforeOwn links point) w.raise_to.new.row row (λ p before. before.1) (λ p le. (some, le)))
      | else-point-gt0 w ↦
          let P = IsBeforeOwn links point in
          let first = w.if-point-gt0.false in
          subst (IsRow P) (sym (w.row-is ∙ none)) (row_from_none P c.len.result (replicate c.len.result 0) (raised_by_nothing P (replicate c.len.result 0) (λ p before. let some = before.0 in absurd (omega arith))))
    ]
