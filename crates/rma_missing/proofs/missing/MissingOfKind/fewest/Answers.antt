use Rattle.rma_missing.proofs.MissingLemmas.{Tells_fewest, IsMissingOfKind_known}
use Rattle.rma_missing.proofs.missing.MissingOfKind.fewest.Goals as goal

pub returns-clause-fewest : goal.returns-clause-fewest
returns-clause-fewest c = λ kind ranks members missing.
    Tells_fewest kind ranks c.args.self.now c.args.name.now c.as_slice.result.now c.of.result.now c.fewest-fewest.result
    missing c.as_slice.ensures (c.of.ensures ranks members) c.fewest-fewest.ensures

pub returns-clause-missing : goal.returns-clause-missing
returns-clause-missing c = λ kind ranks members missing.
    let tells = Tells_fewest kind ranks c.args.self.now c.args.name.now c.as_slice.result.now c.of.result.now c.fewest-fewest.result
    missing c.as_slice.ensures (c.of.ensures ranks members) c.fewest-fewest.ensures in
    IsMissingOfKind_known kind ranks c.args.self.now c.insert.new.self c.in_ok-name.name c.args.name.now c.fewest-fewest.result
    missing c.in_ok-name.ensures tells (λ other. c.in_ok-insert.ensures.updates.0 other)
