use Rattle.std.proofs.Common.{refl}
use Rattle.rma_judge.proofs.TypeLemmas.{types_after_none}
use Rattle.rma_judge.proofs.book.Book.new.Goals as goal

pub returns-clause-empty : goal.returns-clause-empty
returns-clause-empty c = record {
  begun = refl;
  ended = refl;
  comms = λ name. rw c.new-3.ensures.empty refl;
  windows = λ name. rw c.new-5.ensures.empty refl;
  pending = λ name. rw c.new-7.ensures refl;
  made = rw c.new-7.ensures refl;
  completed = rw c.new-7.ensures refl;
  types = rw (c.in_ok-types.ensures, c.in_ok-new.ensures, ← types_after_none) (record { origins = refl; committed = refl; live = λ name. refl });
}
