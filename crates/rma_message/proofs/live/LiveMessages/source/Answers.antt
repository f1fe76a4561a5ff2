use Rattle.std.proofs.Common.{◌≡◌, [], Some, None, refl, sym, ap, ◌∙◌}
use Rattle.std.proofs.lemmas.Option.{MatchOption-at_some}
use Rattle.rma_message.specs.Source.{messages_at}
use Rattle.rma_message.specs.inside.Live.{AreReceives, keys_on, key_at, number_at}
use Rattle.rma_message.proofs.SourceLemmas.{sent_in, source_by}
use Rattle.rma_message.proofs.live.LiveMessages.source.Goals as goal

pub returns-in_default-on : goal.returns-in_default-on
returns-in_default-on c = λ calls are.
    let rank = c.args.rank.0 in
    let rs = (messages_at calls rank).receives in
    let own = MatchOption-at_some (rs ≡ []) (AreReceives rank rs) c.in-Some.receives.now (sym c.in-Some.ensures.value) (are.receives_are rank) in
    let place = c.in-Some-completed.place.now in
    let none : keys_on rank place.comm rs ≡ [] = c.in_default-on.ensures rank rs own in
    source_by calls rank c.args.number place None None (c.in-Some-completed.ensures rank rs own) (sym (ap (λ keys. key_at keys place.index) none)) (sym (ap (λ keys. number_at keys place.index) none))

pub returns-in_default-key : goal.returns-in_default-key
returns-in_default-key c = λ calls are.
    let rank = c.args.rank.0 in
    let rs = (messages_at calls rank).receives in
    let own = MatchOption-at_some (rs ≡ []) (AreReceives rank rs) c.in-Some.receives.now (sym c.in-Some.ensures.value) (are.receives_are rank) in
    let place = c.in-Some-completed.place.now in
    let keys = keys_on rank place.comm rs in
    source_by calls rank c.args.number place None (number_at keys place.index) (c.in-Some-completed.ensures rank rs own) (c.in_default-key.ensures keys (c.in-Some-on.ensures rank rs own)) refl

pub returns-in-Some-number : goal.returns-in-Some-number
returns-in-Some-number c = λ calls are.
    let rank = c.args.rank.0 in
    let rs = (messages_at calls rank).receives in
    let own = MatchOption-at_some (rs ≡ []) (AreReceives rank rs) c.in-Some.receives.now (sym c.in-Some.ensures.value) (are.receives_are rank) in
    let place = c.in-Some-completed.place.now in
    let keys = keys_on rank place.comm rs in
    let on = c.in-Some-on.ensures rank rs own in
    let key = c.in-Some-key.key.now in
    let number = c.in-Some-number.number in
    c.sent.ensures
    ∙ ap (λ entries. sent_in entries key number) (are.sends_are key)
    ∙ source_by calls rank c.args.number place (Some key) (Some number) (c.in-Some-completed.ensures rank rs own) (c.in-Some-key.ensures keys on) (c.in-Some-number.ensures keys on)

pub returns-in-None : goal.returns-in-None
returns-in-None c = λ calls are.
    let rank = c.args.rank.0 in
    let rs = (messages_at calls rank).receives in
    let own = MatchOption-at_some (rs ≡ []) (AreReceives rank rs) c.in-Some.receives.now (sym c.in-Some.ensures.value) (are.receives_are rank) in
    let place = c.in-Some-completed.place.now in
    let keys = keys_on rank place.comm rs in
    let on = c.in-Some-on.ensures rank rs own in
    source_by calls rank c.args.number place (Some c.in-Some-key.key.now) None (c.in-Some-completed.ensures rank rs own) (c.in-Some-key.ensures keys on) (c.in-None.ensures keys on)
