use Rattle.rma_window.proofs.WholeLemmas.{found_at_number}
use Rattle.rma_window.proofs.laws.names_have_their_numbers.Goals as goal

pub returns : goal.returns
returns c = found_at_number
