use Rattle.rma_rules.proofs.WalkLemmas.{shared_is_clash}
use Rattle.rma_rules.proofs.bytes.Bytes.meets.Goals as goal

pub returns : goal.returns
returns c =
    let same = shared_is_clash c.args.self.now c.args.other.now in
    (λ test. same.0 (c.clash.ensures.0 test), λ shared. c.clash.ensures.1 (same.1 shared))
