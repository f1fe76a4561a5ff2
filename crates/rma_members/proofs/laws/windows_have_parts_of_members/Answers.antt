use Rattle.rma_members.proofs.PartLemmas.{parts_of_members}
use Rattle.rma_members.proofs.laws.windows_have_parts_of_members.Goals as goal

pub returns : goal.returns
returns c = λ ranks window rank matched. parts_of_members ranks matched window rank
