use Rattle.std.proofs.Common.{◌≡◌, ℕ, List, Some, ap, filter, sym, ◌∙◌}
use Rattle.std.proofs.lemmas.Result.{IfOk-weaker, on_ok_weaker}
use Rattle.rma_base.specs.declared.rank.Rank.{Rank}
use Rattle.rma_epoch.specs.declared.epoch.Epoch.{Epoch}
use Rattle.rma_window.specs.Windows.{Window}
use Rattle.rma_cover.specs.Cover.{IsFrom, own_locks}
use Rattle.rma_cover.specs.inside.Held.{Represents, keys_of, lasts_until}
use Rattle.rma_cover.proofs.HeldLemmas.{held_cover}
use Rattle.rma_cover.proofs.own_locks.OwnLocks.cover.Goals as goal

keys_are : (c : goal.After-number_of) (windows : List Window) (rank : Rank) (epochs : List Epoch) (number : ℕ) → IsFrom number c.args.done → Represents windows rank epochs number c.args.self.now →
    c.deref-2.result.now ≡ own_locks windows rank epochs number c.args.done
keys_are c windows rank epochs number from holds =
    c.deref-2.ensures.value
    ∙ c.in_ok-put_keys.ensures
    ∙ ap (λ l. keys_of (filter (lasts_until c.args.done) l)) c.deref.ensures.value
    ∙ held_cover windows rank epochs number c.args.done c.args.self.now from holds

pub returns-clause-list : goal.returns-clause-list
returns-clause-list c = IfOk-weaker c.number_of.result _ _ (λ list there windows rank epochs number from holds. there ∙ ap Some (keys_are c windows rank epochs number from holds)) c.number_of.ensures.list

pub returns-clause-lists : goal.returns-clause-lists
returns-clause-lists c = on_ok_weaker c.number_of.result (λ are windows rank epochs number from holds. rw (sym (keys_are c windows rank epochs number from holds)) are) c.number_of.ensures.all
