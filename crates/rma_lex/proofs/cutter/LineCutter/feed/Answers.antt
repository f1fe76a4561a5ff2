use Rattle.rma_lex.specs.inside.Kept.{cutting_of}
use Rattle.rma_lex.proofs.CutterLemmas.{Represents_fed}
use Rattle.rma_lex.proofs.cutter.LineCutter.feed.Goals as goal

pub returns-clause-text : goal.returns-clause-text
returns-clause-text c text represents =
    rw (c.move_down.ensures.start, c.in_ok-extend_from_slice.ensures.items, c.drop_prefix.ensures)
    (Represents_fed (cutting_of c.self.inside) text c.args.piece.now (rw (← c.self.view_is) at c.requires.open) (rw (← c.self.view_is) at represents))
