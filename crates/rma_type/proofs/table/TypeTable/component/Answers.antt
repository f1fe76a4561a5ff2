use Rattle.std.proofs.Common.{◌≡◌, length, arith}
use Rattle.rma_type.proofs.Words.{signature_in}
use Rattle.rma_type.proofs.ComponentLemmas.{one_component, mixed_component}
use Rattle.rma_type.proofs.table.TypeTable.component.Goals as goal

pub returns-in-len1 : goal.returns-in-len1
returns-in-len1 c =
    let one : length c.signature.result.now ≡ 1 = omega arith in
    one_component (signature_in c.args.self.now.origins c.args.id) c.signature.result.now c.signature.ensures.runs one

pub returns-in_default : goal.returns-in_default
returns-in_default c = mixed_component (signature_in c.args.self.now.origins c.args.id) c.signature.result.now c.signature.ensures.runs c.in_default.len_at_least
