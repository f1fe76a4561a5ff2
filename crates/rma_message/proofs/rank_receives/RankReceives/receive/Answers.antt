use Rattle.std.proofs.Common.{◌++◌, ◌∷◌, [], Some, None, refl, subst}
use Rattle.rma_message.specs.Receive.{posted}
use Rattle.rma_message.specs.declared.receive.Completion.{Completion}
use Rattle.rma_message.specs.inside.Live.{IsOnComm, keys_on, kept_on}
use Rattle.rma_message.proofs.KeptLemmas.{received}
use Rattle.rma_message.proofs.rank_receives.RankReceives.receive.Goals as goal

pub returns : goal.returns
returns c = λ receives line before are.
    let old = c.args.self.now in
    let comm = c.args.comm.now in
    let rank = c.args.rank in
    let done : Completion = record { from = c.args.from; tag = c.args.tag; call = c.args.number } in
    let keys = keys_on rank.0 comm receives in
    let post = c.in_ok-place.ensures in
    received rank.0 receives (posted comm line None (Some done)) old (record old { comms = c.post.new.comms; completed = c.insert.new.self }) are done c.in_ok-place.place refl refl before
    (post.place keys (are.comms_are comm))
    (subst (λ name. IsOnComm (keys ++ Some (record { from = c.args.from; to = rank; comm = name; tag = c.args.tag }) ∷ []) (kept_on c.post.new.comms.entries comm)) c.in_ok-copy.ensures (post.own keys (are.comms_are comm)))
    post.others refl (λ q. c.in_ok-insert.ensures.updates.0 q)
