use Rattle.std.proofs.Common.{drop}
use Rattle.rma_known.specs.Elsewhere.{Details, joined}
use Rattle.rma_known.specs.inside.Templates.{AreAlike, Fit}
use Rattle.rma_known.proofs.call_template.are_alike.Given as goal

-- where what is left is alike, all is
abbrev pub invariant-loop-i : goal.invariant-loop-i
invariant-loop-i l = record {
  fit : Fit (drop l.i l.parts) l.known;
  alike : (more : Details) → AreAlike (drop l.i l.parts) l.known l.rest more → AreAlike l.parts l.own l.words (joined l.found more);
}
