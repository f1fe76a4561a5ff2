use Rattle.std.proofs.Common.{refl, sym}
use Rattle.rma_call.specs.Call.{call_of}
use Rattle.rma_round.proofs.KeptLemmas.{AreOfKind_same, AreOfKind_added, OnOk_both}
use Rattle.rma_round.proofs.kind_rounds.KindRounds.take.Goals as goal

pub returns-in_default : goal.returns-in_default
returns-in_default c = λ kind calls len are.
    AreOfKind_same kind calls c.args.rank.0 (call_of c.args.call) c.args.self.now (sym c.in_default.ensures) are

pub returns : goal.returns
returns c =
    OnOk_both c.add.result
    (λ own others kind calls len are.
    AreOfKind_added kind calls c.args.rank.0 c.args.number (call_of c.args.call) c.in-Some.name.now c.args.self.now (record c.args.self.now { names = c.add.new.names }) (sym c.in-Some.ensures) len refl own others are)
    c.add.ensures.own c.add.ensures.others
