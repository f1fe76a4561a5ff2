use Rattle.rma_report.proofs.line.write_finding.Goals as goal

pub returns-in-Malformed : goal.returns-in-Malformed
returns-in-Malformed g c = rw c.in-Malformed.is c.write_malformed.ensures

pub returns-in-Mismatch : goal.returns-in-Mismatch
returns-in-Mismatch g c = rw c.in-Mismatch.is c.write_mismatch.ensures

pub returns-in-Impossible : goal.returns-in-Impossible
returns-in-Impossible g c = rw c.in-Impossible.is c.write_impossible.ensures

pub returns-in-Epoch : goal.returns-in-Epoch
returns-in-Epoch g c = rw c.in-Epoch.is c.write_epoch.ensures

pub returns-in-Pair : goal.returns-in-Pair
returns-in-Pair g c = rw c.in-Pair.is c.write_pair.ensures

pub returns-in-Strict : goal.returns-in-Strict
returns-in-Strict g c = rw c.in-Strict.is c.write_strict.ensures
