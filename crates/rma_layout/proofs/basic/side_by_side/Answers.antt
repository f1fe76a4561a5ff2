use Rattle.std.proofs.Common.{◌≡◌, ◌<◌, ◌≤◌, ◌*◌, pos, ◌+ℤ◌, w64, sym, ◌∙◌, arith}
use Rattle.std.specs.Prelude.{◌≤ℤ◌}
use Rattle.std.proofs.lemmas.Int.{to_z-of_z}
use Rattle.rma_base.specs.Limits.{element_limit}
use Rattle.rma_type.specs.declared.origin.Origin.TheVariants as origin
use Rattle.rma_type.specs.Table.{typemap_in, typemaps}
use Rattle.rma_layout.proofs.Words.{ints, address_limit, basic_size}
use Rattle.rma_layout.proofs.BasicLemmas.{basic_layout, basic_taken, one}
use Rattle.rma_layout.proofs.TableLemmas.{typemap_at}
use Rattle.rma_layout.proofs.basic.side_by_side.Goals as goal

map_is : (c : goal.After-side_by_side) → typemap_in (typemaps c.args.types.now.origins) c.args.datatype ≡ one c.in_ok-basic.basic
map_is c = typemap_at c.args.types.now.origins c.args.datatype (origin.Basic c.in_ok-basic.basic) c.in_ok-basic.ensures.is tt

all : (c : goal.After-side_by_side) → c.args.entries ≡ c.args.count
all c = sym c.if-from-entries.true ∙ c.from-2.ensures

some : (c : goal.After-side_by_side) → 0 < c.args.count
some c = omega (arith, all c, c.if-entries-gt0.true)

few : (c : goal.After-side_by_side) → c.args.count ≤ element_limit
few c = omega (arith, all c, c.if-entries-le-ELEMENTS.true)

high : (c : goal.After-side_by_side) → (c.args.address +ℤ pos (c.args.count * basic_size c.in_ok-basic.basic)) ≤ℤ pos address_limit
high c =
    let end = rw (c.from.ensures, c.size.ensures, to_z-of_z w64 c.args.address c.ranges.address) at c.if-end-le-SPACE.true in
    let bytes = c.args.count * basic_size c.in_ok-basic.basic in
    omega (arith, ints, end, c.requires.low)

pub returns-then-end-le-SPACE-clause-is : goal.returns-then-end-le-SPACE-clause-is
returns-then-end-le-SPACE-clause-is c =
    rw (c.side_by_side.ensures, to_z-of_z w64 c.args.address c.ranges.address, map_is c, all c)
    (basic_layout c.in_ok-basic.basic c.args.count c.args.address (some c) (few c) c.requires.low (high c))

pub returns-then-end-le-SPACE-clause-taken : goal.returns-then-end-le-SPACE-clause-taken
returns-then-end-le-SPACE-clause-taken c = λ space.
    rw (map_is c, all c) (basic_taken c.in_ok-basic.basic c.args.count c.args.address (some c) (few c) c.requires.low (high c) space)
