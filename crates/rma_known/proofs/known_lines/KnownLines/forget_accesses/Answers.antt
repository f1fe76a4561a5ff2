use Rattle.std.proofs.Common.{List, Option, subst, map}
use Rattle.rma_known.specs.Known.{Known, IsAmong}
use Rattle.rma_known.specs.inside.Dated.{kept_at}
use Rattle.rma_known.proofs.SlotLemmas.{next_era}
use Rattle.rma_known.proofs.known_lines.KnownLines.forget_accesses.Goals as goal

pub returns-in-Some-clause-among : goal.returns-in-Some-clause-among
returns-in-Some-clause-among c = λ known there.
    let slots = c.self.inside.slots.items in
    subst (λ (them : List (Option Known)). IsAmong them known) c.self.view_is
    (next_era c.self.inside.era slots known c.self.invariant (subst (λ era. IsAmong (map (kept_at era) slots) known) c.in-Some.ensures.1 there)).0

pub returns-in-Some-clause-lasting : goal.returns-in-Some-clause-lasting
returns-in-Some-clause-lasting c = λ known there.
    let slots = c.self.inside.slots.items in
    (next_era c.self.inside.era slots known c.self.invariant (subst (λ era. IsAmong (map (kept_at era) slots) known) c.in-Some.ensures.1 there)).1
