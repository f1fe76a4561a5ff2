use Rattle.rma_known.proofs.SlotLemmas.{none_known}
use Rattle.rma_known.proofs.known_lines.KnownLines.new.Goals as goal

pub returns : goal.returns
returns c = λ known there. none_known 0 c.in_ok-no_lines.field-0.items known c.in_ok-no_lines.ensures there
