use Rattle.rma_judge.specs.Names.{is_same}
use Rattle.rma_judge.proofs.StateLemmas.{put_or}
use Rattle.rma_judge.proofs.book.Book.declare.Goals as goal

pub returns-in-Ok-clause-comms : goal.returns-in-Ok-clause-comms
returns-in-Ok-clause-comms c = λ name.
    rw (c.in-Some.is, ← c.self.view_is, c.in-Ok.ensures.updates.0 name, c.in_ok-copy.ensures, c.in_ok-copy-2.ensures) (put_or (is_same c.in-Some.comm.now name) _ _)
