use Rattle.std.proofs.Common.{refl, arith}
use Rattle.rma_gen.proofs.TrialLemmas.{all_read, pulled_done, pulled, keeps_texts, some_served}
use Rattle.rma_gen.proofs.trial_logs.TrialLogsPulls.pull.Goals as goal

pub returns-in_default-clause-pulled : goal.returns-in_default-clause-pulled
returns-in_default-clause-pulled c = pulled_done c.args.self.now c.args.room.now c.in_default.ensures.none

pub returns-in_default-clause-exactly : goal.returns-in_default-clause-exactly
returns-in_default-clause-exactly c = (all_read c.args.self.now.tapes c.in_default.ensures.none, refl, refl)

pub overflow_cast-result : goal.overflow_cast-result
overflow_cast-result c = omega (arith, c.in-Some.ensures.some.2)

pub returns-clause-pulled : goal.returns-clause-pulled
returns-clause-pulled c =
    pulled c.args.self.now c.args.room.now c.in-Some.rank c.serve-len.result c.serve-len.new.self c.serve-len.new.room c.serve-len.ensures
    (some_served c.args.self.now c.args.room.now c.in-Some.rank c.serve-len.result c.serve-len.new.self c.serve-len.new.room c.serve-len.ensures c.requires.room c.in-Some.ensures.some.0.0)

pub returns-clause-stays : goal.returns-clause-stays
returns-clause-stays c = keeps_texts c.args.self.now c.args.room.now c.in-Some.rank c.serve-len.result c.serve-len.new.self c.serve-len.new.room c.serve-len.ensures
