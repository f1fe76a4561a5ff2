use Rattle.std.proofs.Common.{refl}
use Rattle.rma_call.specs.Call.{call_of}
use Rattle.rma_round.proofs.KeptLemmas.{OnOk_both}
use Rattle.rma_match.proofs.GroupLemmas.{AreGroups_same, AreGroups_more}
use Rattle.rma_match.proofs.groups.Groups.take.Goals as goal

pub returns-then-not-declares : goal.returns-then-not-declares
returns-then-not-declares c = λ ranks calls are.
    let not = c.if-not-declares.true in
    AreGroups_same ranks calls c.args.rank.0 (call_of c.args.call) c.args.self.now (c.declares.ensures.comms not) (c.declares.ensures.windows not) are

pub returns : goal.returns
returns c =
    let old = c.args.self.now in
    let call = call_of c.args.call in
    let rank = c.args.rank.0 in
    OnOk_both c.take.result
    (λ own others ranks calls are.
    AreGroups_more ranks calls rank call old (record old { ranks = c.take.new.ranks }) refl (own (calls rank) call refl) others are)
    c.take.ensures.own c.take.ensures.others
