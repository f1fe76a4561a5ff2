use Rattle.std.proofs.Common.{ℤ, ◌-ℤ◌, refl, w64, arith}
use Rattle.std.proofs.lemmas.Int.{to_z-of_z}
use mir.Val.{SFits}
use Rattle.rma_layout.proofs.Words.{ints}
use Rattle.rma_layout.proofs.KnownLemmas.{may_be_moved}
use Rattle.rma_layout.proofs.known_layout.KnownLayout.placed_at.Goals as goal

pub moved-requires : goal.moved-requires
moved-requires c =
    let own = c.args.self.now.address in
    let d : ℤ = c.args.address -ℤ own in
    let own_fits : SFits w64 own = omega (arith, ints, c.requires.own_low, c.requires.own_high) in
    let fits : SFits w64 d = omega (arith, ints, c.requires.low, c.requires.high, c.requires.own_low, c.requires.own_high) in
    let lie = rw (to_z-of_z w64 own own_fits, to_z-of_z w64 c.args.address c.ranges.address, to_z-of_z w64 d fits) at c.if-not-lies_in.ensures.0 refl in
    rw (to_z-of_z w64 own own_fits, to_z-of_z w64 c.args.address c.ranges.address, to_z-of_z w64 d fits) (may_be_moved c.args.space d c.args.self.now.layout.runs lie)

pub returns-in-Ok-clause-within : goal.returns-in-Ok-clause-within
returns-in-Ok-clause-within c =
    let own = c.args.self.now.address in
    let d : ℤ = c.args.address -ℤ own in
    let own_fits : SFits w64 own = omega (arith, ints, c.requires.own_low, c.requires.own_high) in
    let fits : SFits w64 d = omega (arith, ints, c.requires.low, c.requires.high, c.requires.own_low, c.requires.own_high) in
    rw (to_z-of_z w64 own own_fits, to_z-of_z w64 c.args.address c.ranges.address, to_z-of_z w64 d fits) at c.if-not-lies_in.ensures.0 refl
