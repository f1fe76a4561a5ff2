use Rattle.std.proofs.Common.{arith}
use Rattle.rma_lex.proofs.CutterLemmas.{Represents_cut, NoFeed_left}
use Rattle.rma_lex.proofs.cutter.LineCutter.shorten.Goals as goal

pub returns-then-has_none-clause-text : goal.returns-then-has_none-clause-text
returns-then-has_none-clause-text c text represents =
    let inside = c.self.inside in
    let none = rw (c.deref.ensures.value) at (c.has_none.ensures.none c.if-has_none.true).0 in
    rw (c.truncate.ensures.items, c.cut_off.ensures.start, c.has_none.ensures.start)
    (Represents_cut inside.text.items inside.feeds.start inside.fed inside.handed inside.closed text _ (omega (arith, c.has_none.ensures.start)) (omega (arith, c.has_none.ensures.start)) none (rw (← c.self.view_is) at represents))

pub returns-else-has_none-clause-bound : goal.returns-else-has_none-clause-bound
returns-else-has_none-clause-bound c none =
    absurd (c.has_none.ensures.some c.if-has_none.false (rw c.deref.ensures.value (NoFeed_left c.self.inside.text.items c.self.inside.feeds.start (rw (← c.self.view_is) at none))))
