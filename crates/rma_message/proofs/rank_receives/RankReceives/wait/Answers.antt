use Rattle.std.proofs.Common.{◌≡◌, ◌<◌, List, Option, None, Some, length, set, refl, sym, subst}
use Rattle.rma_message.specs.declared.key.Key.{Key}
use Rattle.rma_message.specs.declared.receive.Completion.{Completion}
use Rattle.rma_message.specs.inside.Live.{IsOnComm, kept_on, key_at}
use Rattle.rma_message.proofs.KeptLemmas.{not_waited, waited_for}
use Rattle.rma_message.proofs.rank_receives.RankReceives.wait.Goals as goal

pub returns-in_default-swap_remove : goal.returns-in_default-swap_remove
returns-in_default-swap_remove c = λ receives before are.
    let old = c.args.self.now in
    let received = c.in-Some-Some.received in
    let done : Completion = record { from = received.from; tag = received.tag; call = c.args.number } in
    rw (c.in-Some-Some.is-0, c.in-Some-Some.is-1)
    (not_waited c.args.rank.0 receives c.in-Some-Some.request done old (record old { pending = c.swap_remove.new.self }) are (sym c.in_default-swap_remove.ensures.value)
    (λ q. c.in_default-swap_remove.ensures.updates.0 q) refl refl)

pub returns : goal.returns
returns c = λ receives before are.
    let old = c.args.self.now in
    let received = c.in-Some-Some.received in
    let place = c.in-Some.place in
    let rank = c.args.rank in
    let done : Completion = record { from = received.from; tag = received.tag; call = c.args.number } in
    rw (c.in-Some-Some.is-0, c.in-Some-Some.is-1)
    (waited_for rank.0 receives c.in-Some-Some.request place done old (record { comms = c.complete.new.comms; pending = c.swap_remove.new.self; completed = c.insert.new.self }) are before (sym c.in-Some.ensures.value)
    (subst (λ name. (keys : List (Option Key)) → IsOnComm keys (kept_on old.comms.entries place.comm) → place.index < length keys → key_at keys place.index ≡ None
    → IsOnComm (set keys place.index (Some (record { from = received.from; to = rank; comm = name; tag = received.tag }))) (kept_on c.complete.new.comms.entries place.comm)) c.in_ok-copy.ensures c.in_ok-complete.ensures.own)
    c.in_ok-complete.ensures.others
    (λ q. c.in-Some.ensures.updates.0 q)
    (λ q. c.in_ok-insert.ensures.updates.0 q))
