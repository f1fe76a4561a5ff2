use Rattle.std.proofs.Common.{w64}
use Rattle.std.proofs.lemmas.Int.{to_z-of_z}
use Rattle.rma_layout.specs.declared.space.Space.TheVariants.{Target}
use Rattle.rma_layout.proofs.KnownLemmas.{placed_ok, placed_taken, placed_fault}
use Rattle.rma_layout.proofs.layout_table.LayoutTable.place_at_target.Goals as goal

pub returns-in-Some-known-clause-ok : goal.returns-in-Some-known-clause-ok
returns-in-Some-known-clause-ok c =
    let is = c.in-Some-known.ensures in
    placed_ok c.args.self.now.origins c.in-Some-known.known.now is.known Target c.args.datatype c.args.count c.args.address c.args.entries is.datatype is.count is.entries c.placed_at.result
    (rw (to_z-of_z w64 c.args.address c.ranges.address) at c.placed_at.ensures.ok) (rw (to_z-of_z w64 c.args.address c.ranges.address) at c.placed_at.ensures.within)

pub returns-in-Some-known-clause-taken : goal.returns-in-Some-known-clause-taken
returns-in-Some-known-clause-taken c =
    let is = c.in-Some-known.ensures in
    placed_taken c.args.self.now.origins c.in-Some-known.known.now is.known Target c.args.datatype c.args.count c.args.address c.args.entries is.datatype is.count is.entries c.placed_at.result
    (rw (to_z-of_z w64 c.args.address c.ranges.address) at c.placed_at.ensures.ok) (rw (to_z-of_z w64 c.args.address c.ranges.address) at c.placed_at.ensures.within)

pub returns-in-Some-known-clause-fault : goal.returns-in-Some-known-clause-fault
returns-in-Some-known-clause-fault c =
    let is = c.in-Some-known.ensures in
    placed_fault c.args.self.now.origins c.in-Some-known.known.now is.known Target c.args.datatype c.args.count c.args.address c.args.entries is.datatype is.count is.entries c.placed_at.result
    (rw (to_z-of_z w64 c.args.address c.ranges.address) at c.placed_at.ensures.fault)
