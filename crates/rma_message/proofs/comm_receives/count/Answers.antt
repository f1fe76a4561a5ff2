use Rattle.std.proofs.Common.{cond, ◌+◌, unwrap_or, ap, ◌∙◌}
use Rattle.rma_message.specs.Key.{same_key}
use Rattle.rma_message.specs.inside.Live.{count_of}
use Rattle.rma_message.proofs.KeyListLemmas.{count_put}
use Rattle.rma_message.proofs.comm_receives.count.Goals as goal

pub returns-clause-counted : goal.returns-clause-counted
returns-clause-counted c = λ other.
    let own = c.args.key.now in
    let old = c.args.counts.now.entries in
    let same = ap (λ m. m.entries) c.get_mut.follows.holds-at-none in
    let absent = ap (λ o. unwrap_or o 0) c.in_default.ensures.value in
    count_put c.get_mut.follows.lender-at-none.entries c.insert.new.self.entries c.in_ok-key.key 1 (λ k. c.in_ok-insert.ensures.updates.0 k) other
    ∙ ap (λ k. cond (same_key k other) 1 (count_of c.get_mut.follows.lender-at-none.entries other)) c.in_ok-key.ensures
    ∙ ap (λ es. cond (same_key own other) 1 (count_of es other)) same
    ∙ ap (λ n. cond (same_key own other) (n + 1) (count_of old other)) absent
