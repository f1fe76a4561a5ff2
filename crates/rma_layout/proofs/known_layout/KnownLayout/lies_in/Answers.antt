use Rattle.std.proofs.Common.{arith, w64}
use Rattle.std.specs.Prelude.{◌+ℤ◌}
use Rattle.std.specs.Int.{w128}
use Rattle.std.proofs.lemmas.Int.{to_z-of_z}
use mir.Val.{SFits}
use Rattle.rma_layout.proofs.Words.{ints}
use Rattle.rma_layout.proofs.KnownLemmas.{end_near, moved_decide, start_near}
use Rattle.rma_layout.proofs.known_layout.KnownLayout.lies_in.Goals as goal

pub overflow_add-ends : goal.overflow_add-ends
overflow_add-ends c =
    let start = c.in-Some.ends.start in
    let near = start_near c.args.self.now.layout.runs c.in-Some.ends c.requires.canonical (rw c.in-Some.is at c.requires.ends) in
    let fits : SFits w64 start = omega (arith, ints, near.low, near.high) in
    rw (to_z-of_z w64 start fits, to_z-of_z w64 c.args.by c.ranges.by) (omega (arith, ints, near.low, near.high, c.requires.near.low, c.requires.near.high))

pub overflow_add-ends-in-Some : goal.overflow_add-ends-in-Some
overflow_add-ends-in-Some c =
    let end = c.in-Some.ends.end in
    let near = end_near c.args.self.now.layout.runs c.in-Some.ends c.requires.canonical (rw c.in-Some.is at c.requires.ends) in
    let fits : SFits w64 end = omega (arith, ints, near.low, near.high) in
    rw (to_z-of_z w64 end fits, to_z-of_z w64 c.args.by c.ranges.by) (omega (arith, ints, near.low, near.high, c.requires.near.low, c.requires.near.high))

pub returns-in-Some : goal.returns-in-Some
returns-in-Some c =
    let runs = c.args.self.now.layout.runs in
    let ends = c.in-Some.ends in
    let by = c.args.by in
    let are = rw c.in-Some.is at c.requires.ends in
    let low = start_near runs ends c.requires.canonical are in
    let high = end_near runs ends c.requires.canonical are in
    let start_fits : SFits w64 ends.start = omega (arith, ints, low.low, low.high) in
    let end_fits : SFits w64 ends.end = omega (arith, ints, high.low, high.high) in
    let start_moves : SFits w64 (ends.start +ℤ by) = omega (arith, ints, low.low, low.high, c.requires.near.low, c.requires.near.high) in
    let end_moves : SFits w64 (ends.end +ℤ by) = omega (arith, ints, high.low, high.high, c.requires.near.low, c.requires.near.high) in
    rw (
      c.has.ensures,
      to_z-of_z w128 c.from.result (record { sfits = c.from.type_inv }),
      to_z-of_z w128 c.from-in-Some.result (record { sfits = c.from-in-Some.type_inv }),
      c.from.ensures,
      c.from-in-Some.ensures,
      to_z-of_z w64 ends.start start_fits,
      to_z-of_z w64 ends.end end_fits,
      to_z-of_z w64 by c.ranges.by,
      to_z-of_z w64 (ends.start +ℤ by) start_moves,
      to_z-of_z w64 (ends.end +ℤ by) end_moves,
    ) (moved_decide runs ends c.requires.canonical are c.args.space by)
