use Rattle.std.proofs.Common.{◌≡◌, ◌++◌, ◌∷◌, [], ◌*◌, length, cond, ⊎_elim, refl, sym, ap, subst, ◌∙◌}
use Rattle.rma_call.specs.Call.{call_of, what_of}
use Rattle.rma_call.specs.declared.what.What.TheVariants.{Sync}
use Rattle.rma_call.specs.declared.what.SyncCall.TheVariants.{Message}
use Rattle.rma_message.specs.declared.key.Key.{Key}
use Rattle.rma_message.specs.declared.end.End.{End}
use Rattle.rma_message.specs.declared.live.LiveMessages.{LiveMessages}
use Rattle.rma_message.specs.Key.{same_key}
use Rattle.rma_message.specs.RankMessages.{RankMessages, sent_end, with_what}
use Rattle.rma_message.specs.Source.{messages_at}
use Rattle.rma_message.specs.inside.Live.{IsOfRank, kept_of, kept_sends}
use Rattle.std.proofs.lemmas.Result.{on_ok_weaker}
use Rattle.rma_message.proofs.LiveLemmas.{no_message, no_send, receives_before, represents_same, represents_received, represents_sent, OnOk_both}
use Rattle.rma_message.proofs.NumberLemmas.{calls_rank}
use Rattle.rma_message.proofs.live.LiveMessages.take.Goals as goal

pub returns-in_default : goal.returns-in_default
returns-in_default c = λ calls len are.
    let call = c.args.call in
    let rank = c.args.rank.0 in
    let old = c.args.self.now in
    represents_same calls rank (call_of call) old old are (no_message (messages_at calls rank) (length (calls rank)) call.line call.request call.what c.in_default.not-Message)

pub returns-in_default-message : goal.returns-in_default-message
returns-in_default-message c =
    let call = c.args.call in
    let rank = c.args.rank.0 in
    let old = c.args.self.now in
    let new : LiveMessages = record old { receives = c.receive.new.ranks } in
    let message = c.in-Message.message.now in
    let number = c.args.number in
    OnOk_both c.receive.result (λ own others calls len are.
    let m = messages_at calls rank in
    let is : with_what m (length (calls rank)) call.line call.request (what_of call.what) ≡ with_what m number call.line call.request (Sync (Message message)) =
    ap (λ n. with_what m n call.line call.request (what_of call.what)) len ∙ ap (λ w. with_what m number call.line call.request (what_of w)) c.in-Message.is in
    represents_received calls rank (call_of call) old new are
    (ap (λ (x : RankMessages). x.sends) is ∙ no_send m number call.line call.request message c.in_default-message.not-Send c.in_default-message.not-Isend)
    refl
    (subst (λ (x : RankMessages). IsOfRank rank x.receives (kept_of new.receives.entries rank)) (sym is) (own m call.line (receives_before calls rank number len) (are.receives_are rank)))
    (λ other apart. others (record { 0 = other }) apart))
    c.receive.ensures.own c.receive.ensures.others

pub returns-in_ok-copy-in-Send : goal.returns-in_ok-copy-in-Send
returns-in_ok-copy-in-Send c =
    let call = c.args.call in
    let rank = c.args.rank.0 in
    let old = c.args.self.now in
    let new : LiveMessages = record old { sends = c.send.new.sends } in
    let message = c.in-Message.message.now in
    let number = c.args.number in
    let to = c.in-Send.to in
    let tag = c.in-Send.tag in
    let comm = c.in-Send.comm in
    let e : End = sent_end c.args.rank number call.line to tag comm in
    on_ok_weaker c.send.result (λ step calls len are.
    let m = messages_at calls rank in
    let sent : with_what m number call.line call.request (Sync (Message message)) ≡ record m { sends = m.sends ++ sent_end m.rank number call.line to tag comm ∷ [] } =
    ⊎_elim (λ is. ap (λ x. with_what m number call.line call.request (Sync (Message x))) is) (λ is. ap (λ x. with_what m number call.line call.request (Sync (Message x))) is) c.in-Send.is in
    let is : with_what m (length (calls rank)) call.line call.request (what_of call.what) ≡ record m { sends = m.sends ++ e ∷ [] } =
    ap (λ n. with_what m n call.line call.request (what_of call.what)) len
    ∙ ap (λ w. with_what m number call.line call.request (what_of w)) c.in-Message.is
    ∙ sent
    ∙ ap (λ r. record m { sends = m.sends ++ sent_end r number call.line to tag comm ∷ [] }) (calls_rank c.args.rank (calls rank)) in
    represents_sent calls rank (call_of call) old new are e is refl
    (subst (λ name. (other : Key) → kept_sends c.send.new.sends.entries other
    ≡ cond (same_key (record { from = c.args.rank; to = to; comm = name; tag = tag }) other) (kept_sends old.sends.entries (record { from = c.args.rank; to = to; comm = name; tag = tag }) ++ 2 * number ∷ []) (kept_sends old.sends.entries other))
    c.in_ok-copy-in-Send.ensures step)
    refl)
    c.send.ensures
