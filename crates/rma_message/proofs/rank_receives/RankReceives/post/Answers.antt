use Rattle.std.proofs.Common.{None, refl}
use Rattle.rma_message.specs.Receive.{posted}
use Rattle.rma_message.specs.inside.Live.{keys_on}
use Rattle.rma_message.proofs.KeptLemmas.{requested, left_open}
use Rattle.rma_message.proofs.rank_receives.RankReceives.post.Goals as goal

pub returns-in_ok-insert : goal.returns-in_ok-insert
returns-in_ok-insert c = λ rank receives line are.
    let old = c.args.self.now in
    let comm = c.args.comm.now in
    let keys = keys_on rank comm receives in
    let post = c.in_ok-place.ensures in
    requested rank receives (posted comm line c.args.request None) old (record old { comms = c.post.new.comms; pending = c.insert.new.self }) are c.in-Some.request c.in_ok-place.place c.in-Some.is refl
    (post.place keys (are.comms_are comm)) (post.own keys (are.comms_are comm)) post.others (λ q. c.in_ok-insert.ensures.updates.0 q) refl

pub returns-in_default : goal.returns-in_default
returns-in_default c = λ rank receives line are.
    let old = c.args.self.now in
    let comm = c.args.comm.now in
    let post = c.in_ok-place.ensures in
    left_open rank receives (posted comm line c.args.request None) old (record old { comms = c.post.new.comms }) are c.in_default.is refl
    (post.own (keys_on rank comm receives) (are.comms_are comm)) post.others refl refl
