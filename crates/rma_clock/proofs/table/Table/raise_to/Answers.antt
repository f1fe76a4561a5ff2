use Rattle.std.proofs.Common.{◌≡◌, ℕ, ◌<◌, ◌+◌, List, [], length, Some, None, refl, sym, subst, ◌∙◌, arith}
use Rattle.std.specs.List.Sorted.{IsNonDecreasingBy}
use Rattle.std.proofs.lemmas.List.{get_or_read}
use Rattle.rma_clock.specs.declared.step.Step.{Step}
use Rattle.rma_clock.specs.inside.Before.{IsRaised}
use Rattle.rma_clock.specs.inside.Table.{IsLastStep, steps_of, row_at}
use Rattle.rma_clock.proofs.RowLemmas.{IsAmong, raised, raised_by_max, raised_by_one}
use Rattle.rma_clock.proofs.BeforeLemmas.{raised_by_step, raised_by_none}
use Rattle.rma_clock.proofs.table.Table.raise_to.Goals as goal
use Rattle.rma_clock.proofs.table.Table.raise_to.Goals.{in-Some, in_default}

pub last_step-requires : goal.last_step-requires
last_step-requires c =
    let steps = c.args.self.now.steps.items in
    let r = c.args.point.rank.0 in
    let size = c.requires.table.1.size in
    let there : r < length steps = omega (arith, c.requires.rank) in
    let is : c.as_slice.result.now ≡ steps_of steps r = c.as_slice.ensures ∙ get_or_read steps r c.index-steps.result.now there c.index-steps.ensures [] in
    subst (λ xs. IsNonDecreasingBy (λ (s : Step). s.pos) xs) (sym is) (c.requires.table.1.sorted r)

pub raise-requires-clause-index : goal.raise-requires-clause-index
raise-requires-clause-index c =
    let steps = c.args.self.now.steps.items in
    let r = c.args.point.rank.0 in
    let size = c.requires.table.1.size in
    let there : r < length steps = omega (arith, c.requires.rank) in
    let is : c.as_slice.result.now ≡ steps_of steps r = c.as_slice.ensures ∙ get_or_read steps r c.index-steps.result.now there c.index-steps.ensures [] in
    let P : List Step → Type 0 = λ xs. IsLastStep xs c.args.point.pos (Some c.in-Some.step) in
    let last = subst P is c.in-Some.ensures in
    let lt = (c.requires.table.1.right r c.in-Some.step last.0).0 in
    omega arith

pub raise-requires-clause-size : goal.raise-requires-clause-size
raise-requires-clause-size c =
    let rows = c.args.self.now.rows in
    let steps = c.args.self.now.steps.items in
    let r = c.args.point.rank.0 in
    let size = c.requires.table.1.size in
    let there : r < length steps = omega (arith, c.requires.rank) in
    let is : c.as_slice.result.now ≡ steps_of steps r = c.as_slice.ensures ∙ get_or_read steps r c.index-steps.result.now there c.index-steps.ensures [] in
    let P : List Step → Type 0 = λ xs. IsLastStep xs c.args.point.pos (Some c.in-Some.step) in
    let last = subst P is c.in-Some.ensures in
    let lt = (c.requires.table.1.right r c.in-Some.step last.0).0 in
    c.requires.table.1.widths c.in-Some.step.row [] lt

pub returns-clause-raised : goal.returns-clause-raised
returns-clause-raised c links table possible caught =
    let rows = c.args.self.now.rows in
    let steps = c.args.self.now.steps.items in
    let q = c.args.point in
    let size = table.size in
    let there : q.rank.0 < length steps = omega (arith, c.requires.rank) in
    let is : c.as_slice.result.now ≡ steps_of steps q.rank.0 = c.as_slice.ensures ∙ get_or_read steps q.rank.0 c.index-steps.result.now there c.index-steps.ensures [] in
    let one : (mid : List ℕ) → c.match-last_step.row ≡ mid → length mid ≡ length c.args.row.now → IsRaised (IsAmong q.rank.0 (q.pos + 1)) mid c.raise-2.new.self =
    λ mid same width.
    let R : List ℕ → Type 0 = λ new. IsRaised (IsAmong q.rank.0 (q.pos + 1)) mid new in
    let S : List ℕ → Type 0 = λ old. IsRaised (IsAmong q.rank.0 (q.pos + 1)) mid (raised old q.rank.0 (q.pos + 1)) in
    subst R (sym c.raise-2.ensures) (subst S (sym same) (raised_by_one mid q.rank.0 (q.pos + 1) (omega (arith, c.requires.rank)))) in
    elim c.match-last_step.branch [
      | in-Some w ↦
          let P : List Step → Type 0 = λ xs. IsLastStep xs q.pos (Some w.in-Some.step) in
          let last = subst P is w.in-Some.ensures in
          let right = table.right q.rank.0 w.in-Some.step last.0 in
          let row = row_at rows w.in-Some.step.row in
          raised_by_step links steps possible q caught w.in-Some.step row c.args.row.now w.raise.new.row c.raise-2.new.self last right.1
          (raised_by_max row c.args.row.now w.raise.new.row w.raise.ensures.size w.raise.ensures.each)
          (one w.raise.new.row w.row-is w.raise.ensures.size)
      | in_default w ↦
          let P : List Step → Type 0 = λ xs. IsLastStep xs q.pos None in
          raised_by_none links steps possible q caught c.args.row.now c.raise-2.new.self (subst P is w.in_default.ensures) (one c.args.row.now w.row-is refl)
    ]
