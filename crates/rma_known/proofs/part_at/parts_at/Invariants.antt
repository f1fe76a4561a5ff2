use Rattle.std.proofs.Common.{◌∷◌, drop}
use Rattle.rma_known.specs.declared.call_form.Place.TheVariants.{Same}
use Rattle.rma_known.specs.inside.Templates.{AreGoneOver}
use Rattle.rma_known.proofs.part_at.parts_at.Given as goal

-- the words before were gone over
abbrev pub invariant-loop-i : goal.invariant-loop-i
invariant-loop-i l = AreGoneOver l.version l.words (Same ∷ l.places) l.parts.items l.before l.rest (drop l.i l.places)
