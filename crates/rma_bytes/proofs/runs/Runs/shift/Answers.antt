use Rattle.std.proofs.Common.{map, subst, sym, w64}
use Rattle.std.proofs.lemmas.Int.{to_z-of_z}
use Rattle.rma_bytes.specs.Runs.{IsCanonical, moved}
use Rattle.rma_bytes.proofs.RunLemmas.{canonical_at}
use Rattle.rma_bytes.proofs.IndexLemmas.{canonical_moved, moved_bytes, refilled}
use Rattle.rma_bytes.proofs.runs.Runs.shift.Goals as goal

pub shift-requires : goal.shift-requires
shift-requires c =
    let canonical = canonical_moved c.args.by c.self.inside.runs.items c.self.invariant (rw c.self.view_is c.requires) in
    rw (to_z-of_z w64 c.args.by c.ranges.by, c.as_mut_slice.ensures.value) (λ k d lt. (canonical_at (map (moved c.args.by) c.self.inside.runs.items) k d canonical lt).0)

pub invariant_of-self : goal.invariant_of-self
invariant_of-self c =
    let made = rw (to_z-of_z w64 c.args.by c.ranges.by) at c.shift.ensures in
    subst IsCanonical (sym (refilled c.args.by c.self.inside.runs.items _ _ c.as_mut_slice.ensures.value made))
    (canonical_moved c.args.by c.self.inside.runs.items c.self.invariant (rw c.self.view_is c.requires))

pub returns-clause-bytes : goal.returns-clause-bytes
returns-clause-bytes c =
    let made = rw (to_z-of_z w64 c.args.by c.ranges.by) at c.shift.ensures in
    rw (refilled c.args.by c.self.inside.runs.items _ _ c.as_mut_slice.ensures.value made, c.self.view_is) (moved_bytes c.args.by c.args.self.now)
