use Rattle.std.proofs.Common.{w64, to_z, of_z}
use Rattle.std.proofs.lemmas.Int.{to_z-of_z}
use Rattle.rma_layout.specs.inside.Known.{IsKnown}
use Rattle.rma_layout.specs.declared.known_layout.KnownLayout.{KnownLayout}
use Rattle.rma_layout.proofs.KnownLemmas.{may_stay, kept_known}
use Rattle.rma_layout.proofs.layout_table.LayoutTable.place_anew.Goals as goal

pub moved-requires : goal.moved-requires
moved-requires c = may_stay c.in-Ok.layout.runs c.in-Ok.ensures.ok.canonical

pub invariant_of-self : goal.invariant_of-self
invariant_of-self c =
    let known : KnownLayout = record { datatype = c.args.datatype; count = c.args.count; entries = c.args.entries; address = to_z w64 (of_z w64 c.args.address); ends = c.ends_of.result; layout = c.in-Ok-moved.same } in
    let is : IsKnown c.args.self.now.origins known =
    kept_known c.args.self.now.origins known c.in-Ok.layout c.args.address c.args.space c.requires.within c.requires.low c.requires.high (to_z-of_z w64 c.args.address c.ranges.address) (rw (c.self.view_is, to_z-of_z w64 c.args.address c.ranges.address) at c.in-Ok.ensures.taken)
    (rw (c.self.view_is, to_z-of_z w64 c.args.address c.ranges.address) at c.in-Ok.ensures.ok) c.in-Ok-moved.ensures c.ends_of.ensures in
    c.keep.ensures c.self.inside.types.origins c.self.invariant (rw c.self.view_is is)
