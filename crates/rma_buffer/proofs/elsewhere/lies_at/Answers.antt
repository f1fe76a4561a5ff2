use Rattle.std.proofs.Common.{◌≡◌, ◌<◌, ◌-◌, ◌+ℤ◌, Some, length, slice_get, get_or, sym, w64, arith}
use Rattle.std.proofs.lemmas.Int.{ints, to_z-of_z}
use Rattle.std.proofs.lemmas.Option.{get_or_from_slice_get}
use mir.Val.{SFits}
use Rattle.rma_bytes.specs.Runs.{end_of}
use Rattle.rma_bytes.proofs.RunLemmas.{canonical_at, no_run}
use Rattle.rma_layout.specs.declared.ends.Ends.{Ends}
use Rattle.rma_layout.specs.declared.space.Space.TheVariants.{Local}
use Rattle.rma_layout.proofs.KnownLemmas.{end_near, moved_decide, start_near}
use Rattle.rma_buffer.proofs.AddressLemmas.{ends_are, some_at}
use Rattle.rma_buffer.proofs.elsewhere.lies_at.Goals as goal

pub end_of-requires : goal.end_of-requires
end_of-requires c =
    let runs = c.args.layout.now.runs in
    let last : slice_get runs (length runs - 1) ≡ Some c.get-last.result = rw c.len.ensures at c.get-last.ensures in
    let is : c.get-last.result ≡ get_or runs (length runs - 1) no_run = sym (get_or_from_slice_get runs (length runs - 1) c.get-last.result no_run last) in
    let some : 0 < length runs = some_at runs c.get-first.result c.get-first.ensures in
    rw is (canonical_at runs (length runs - 1) no_run c.is_empty.ensures.in_order (omega (arith, some))).0

pub overflow_add-start : goal.overflow_add-start
overflow_add-start c =
    let runs = c.args.layout.now.runs in
    let start = c.get-first.result.start in
    let ends : Ends = record { start = start; end = end_of c.get-last.result } in
    let are = ends_are runs c.get-first.result c.get-last.result c.len.result c.len.ensures c.get-first.ensures c.get-last.ensures in
    let near = start_near runs ends c.is_empty.ensures.in_order are in
    let fits : SFits w64 start = omega (arith, ints, near.low, near.high) in
    rw (to_z-of_z w64 start fits, to_z-of_z w64 c.args.by c.ranges.by) (omega (arith, ints, near.low, near.high, c.requires.low, c.requires.high))

pub overflow_add-end : goal.overflow_add-end
overflow_add-end c =
    let runs = c.args.layout.now.runs in
    let end = c.end_of.result in
    let ends : Ends = record { start = c.get-first.result.start; end = end_of c.get-last.result } in
    let are = ends_are runs c.get-first.result c.get-last.result c.len.result c.len.ensures c.get-first.ensures c.get-last.ensures in
    let near = end_near runs ends c.is_empty.ensures.in_order are in
    let fits : SFits w64 end = omega (arith, ints, near.low, near.high, c.end_of.ensures) in
    rw (to_z-of_z w64 end fits, to_z-of_z w64 c.args.by c.ranges.by) (omega (arith, ints, near.low, near.high, c.end_of.ensures, c.requires.low, c.requires.high))

pub returns : goal.returns
returns c =
    let runs = c.args.layout.now.runs in
    let by = c.args.by in
    let start = c.get-first.result.start in
    let end = c.end_of.result in
    let ends : Ends = record { start = start; end = end_of c.get-last.result } in
    let are = ends_are runs c.get-first.result c.get-last.result c.len.result c.len.ensures c.get-first.ensures c.get-last.ensures in
    let good = c.is_empty.ensures.in_order in
    let low = start_near runs ends good are in
    let high = end_near runs ends good are in
    let start_fits : SFits w64 start = omega (arith, ints, low.low, low.high) in
    let end_fits : SFits w64 end = omega (arith, ints, high.low, high.high, c.end_of.ensures) in
    let start_moves : SFits w64 (start +ℤ by) = omega (arith, ints, low.low, low.high, c.requires.low, c.requires.high) in
    let end_moves : SFits w64 (end +ℤ by) = omega (arith, ints, high.low, high.high, c.end_of.ensures, c.requires.low, c.requires.high) in
    rw (
      c.is_in_space.ensures,
      to_z-of_z w64 start start_fits,
      to_z-of_z w64 end end_fits,
      to_z-of_z w64 by c.ranges.by,
      to_z-of_z w64 (start +ℤ by) start_moves,
      to_z-of_z w64 (end +ℤ by) end_moves,
      c.end_of.ensures,
    ) (moved_decide runs ends good are Local by)
