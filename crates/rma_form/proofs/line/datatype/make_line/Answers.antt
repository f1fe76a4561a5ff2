use Rattle.std.proofs.Common.{◌≡◌, ℕ, List, [], ◌∷◌, ap, SFits, to_z-of_z, w32, w64, rules}
use Rattle.std.specs.Prelude.{codes}
use Rattle.std.specs.Fmt.{signed_decimal}
use Rattle.rma_datatype.specs.declared.make.Make.{Make}
use Rattle.rma_field.specs.Kinds.{order_word}
use Rattle.rma_form.specs.declared.event.Event.TheVariants.{Datatype}
use Rattle.rma_form.specs.declared.event.type_line.TypeLine.TheVariants as typed
use Rattle.rma_form.specs.Groups as group
use Rattle.rma_form.proofs.WrittenLemmas.{grouped_as, written_as}
use Rattle.rma_form.proofs.line.datatype.make_line.Goals as goal

-- events of equal constructors
same : (name : List ℕ) (make at : Make) → make ≡ at → Datatype (typed.Make name make) ≡ Datatype (typed.Make name at)
same name make at is = ap (λ it. Datatype (typed.Make name it)) is

pub returns-in-Contiguous : goal.returns-in-Contiguous
returns-in-Contiguous c =
    let count : SFits w32 c.in-Contiguous.count = search rules in
    written_as _ _ _ (same c.args.name.now _ _ c.in-Contiguous.is) (simp to_z-of_z at c.counted_line.ensures)

pub returns-in-Vector : goal.returns-in-Vector
returns-in-Vector c =
    let count : SFits w32 c.in-Vector.count = search rules in
    let long : SFits w32 c.in-Vector.length = search rules in
    let stride : SFits w32 c.in-Vector.stride = search rules in
    let wide : SFits w64 c.from-stride.result = search rules in
    let is : c.from-stride.result ≡ c.in-Vector.stride = simp to_z-of_z at c.from-stride.ensures in
    written_as _ _ _ (same c.args.name.now _ _ c.in-Vector.is) (rw is at (simp to_z-of_z at c.strided_line.ensures))

pub returns-in-Hvector : goal.returns-in-Hvector
returns-in-Hvector c =
    let count : SFits w32 c.in-Hvector.count = search rules in
    let long : SFits w32 c.in-Hvector.length = search rules in
    let stride : SFits w64 c.in-Hvector.stride = search rules in
    written_as _ _ _ (same c.args.name.now _ _ c.in-Hvector.is) (simp to_z-of_z at c.strided_line-in-Hvector.ensures)

pub returns-in-Resized : goal.returns-in-Resized
returns-in-Resized c =
    let lower : SFits w64 c.in-Resized.lower = search rules in
    let extent : SFits w64 c.in-Resized.extent = search rules in
    written_as _ _ _ (same c.args.name.now _ _ c.in-Resized.is) (simp to_z-of_z at c.resized_line.ensures)

pub returns-in_ok-front-in-Indexed : goal.returns-in_ok-front-in-Indexed
returns-in_ok-front-in-Indexed c =
    written_as _ _ _ (same c.args.name.now _ _ c.in-Indexed.is)
    (grouped_as _ c.in_ok-front-in-Indexed.front group.block c.in-Indexed.blocks (codes "type indexed") (c.args.name.now ∷ c.in-Indexed.old ∷ [])
    c.grouped_line.ensures c.in_ok-front-in-Indexed.ensures)

pub returns-in_ok-front-in-Hindexed : goal.returns-in_ok-front-in-Hindexed
returns-in_ok-front-in-Hindexed c =
    written_as _ _ _ (same c.args.name.now _ _ c.in-Hindexed.is)
    (grouped_as _ c.in_ok-front-in-Hindexed.front group.byte_block c.in-Hindexed.blocks (codes "type hindexed") (c.args.name.now ∷ c.in-Hindexed.old ∷ [])
    c.grouped_line-in-Hindexed.ensures c.in_ok-front-in-Hindexed.ensures)

pub returns-in_ok-front-in-IndexedBlock : goal.returns-in_ok-front-in-IndexedBlock
returns-in_ok-front-in-IndexedBlock c =
    let long : SFits w32 c.in-IndexedBlock.length = search rules in
    written_as _ _ _ (same c.args.name.now _ _ c.in-IndexedBlock.is)
    (grouped_as _ c.in_ok-front-in-IndexedBlock.front group.displacement c.in-IndexedBlock.displacements (codes "type indexed_block") (c.args.name.now ∷ signed_decimal c.in-IndexedBlock.length ∷ c.in-IndexedBlock.old ∷ [])
    c.grouped_line-in-IndexedBlock.ensures (simp to_z-of_z at c.in_ok-front-in-IndexedBlock.ensures))

pub returns-in_ok-front-in-Struct : goal.returns-in_ok-front-in-Struct
returns-in_ok-front-in-Struct c =
    written_as _ _ _ (same c.args.name.now _ _ c.in-Struct.is)
    (grouped_as _ c.in_ok-front-in-Struct.front group.member c.in-Struct.members (codes "type struct") (c.args.name.now ∷ [])
    c.grouped_line-in-Struct.ensures c.in_ok-front-in-Struct.ensures)

pub returns-in_ok-front-in-Subarray : goal.returns-in_ok-front-in-Subarray
returns-in_ok-front-in-Subarray c =
    written_as _ _ _ (same c.args.name.now _ _ c.in-Subarray.is)
    (grouped_as _ c.in_ok-front-in-Subarray.front group.dimension c.in-Subarray.dimensions (codes "type subarray") (c.args.name.now ∷ order_word c.in-Subarray.order ∷ c.in-Subarray.old ∷ [])
    c.grouped_line-in-Subarray.ensures c.in_ok-front-in-Subarray.ensures)
