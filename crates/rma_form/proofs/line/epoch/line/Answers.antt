use Rattle.std.proofs.Common.{◌≡◌, ℕ, List, [], ◌∷◌, Option, ap}
use Rattle.std.specs.Prelude.{codes, decimal}
use Rattle.rma_field.specs.Kinds.{lock_word}
use Rattle.rma_field.specs.Ranks.{ranks_text}
use Rattle.rma_call.specs.declared.what.SyncCall.TheVariants.{Epoch}
use Rattle.rma_call.specs.declared.epoch.EpochCall.{EpochCall}
use Rattle.rma_form.specs.declared.event.Event.TheVariants.{Call}
use Rattle.rma_form.proofs.WrittenLemmas.{asserted_as, written_as}
use Rattle.rma_form.proofs.line.epoch.line.Goals as goal

-- events of equal calls
same : (request : Option (List ℕ)) (call at : EpochCall) → call ≡ at → Call (Epoch call) request ≡ Call (Epoch at) request
same request call at is = ap (λ it. Call (Epoch it) request) is

pub returns-in_ok-line-in-Fence : goal.returns-in_ok-line-in-Fence
returns-in_ok-line-in-Fence c request =
    written_as _ _ _ (same request _ _ c.in-Fence.is)
    (asserted_as _ c.in_ok-line-in-Fence.line _ (codes "fence") (c.in-Fence.window ∷ []) c.asserted_line.ensures c.in_ok-line-in-Fence.ensures)

pub returns-in_ok-line-in-Post : goal.returns-in_ok-line-in-Post
returns-in_ok-line-in-Post c request =
    written_as _ _ _ (same request _ _ c.in-Post.is)
    (asserted_as _ c.in_ok-line-in-Post.line _ (codes "post") (c.in-Post.window ∷ ranks_text c.in-Post.origins ∷ []) c.asserted_line-in-Post.ensures c.in_ok-line-in-Post.ensures)

pub returns-in_ok-line-in-Start : goal.returns-in_ok-line-in-Start
returns-in_ok-line-in-Start c request =
    written_as _ _ _ (same request _ _ c.in-Start.is)
    (asserted_as _ c.in_ok-line-in-Start.line _ (codes "start") (c.in-Start.window ∷ ranks_text c.in-Start.targets ∷ []) c.asserted_line-in-Start.ensures c.in_ok-line-in-Start.ensures)

pub returns-in_ok-line-in-Lock : goal.returns-in_ok-line-in-Lock
returns-in_ok-line-in-Lock c request =
    written_as _ _ _ (same request _ _ c.in-Lock.is)
    (asserted_as _ c.in_ok-line-in-Lock.line _ (codes "lock") (c.in-Lock.window ∷ decimal c.in-Lock.target.0 ∷ lock_word c.in-Lock.kind ∷ []) c.asserted_line-in-Lock.ensures c.in_ok-line-in-Lock.ensures)

pub returns-in_ok-line-in-LockAll : goal.returns-in_ok-line-in-LockAll
returns-in_ok-line-in-LockAll c request =
    written_as _ _ _ (same request _ _ c.in-LockAll.is)
    (asserted_as _ c.in_ok-line-in-LockAll.line _ (codes "lockall") (c.in-LockAll.window ∷ []) c.asserted_line-in-LockAll.ensures c.in_ok-line-in-LockAll.ensures)

pub returns-in-Complete : goal.returns-in-Complete
returns-in-Complete c request = written_as _ _ _ (same request _ _ c.in-Complete.is) c.named_line-in-Complete.ensures

pub returns-in-Expwait : goal.returns-in-Expwait
returns-in-Expwait c request = written_as _ _ _ (same request _ _ c.in-Expwait.is) c.named_line-in-Expwait.ensures

pub returns-in-Unlock : goal.returns-in-Unlock
returns-in-Unlock c request = written_as _ _ _ (same request _ _ c.in-Unlock.is) c.target_line.ensures

pub returns-in-UnlockAll : goal.returns-in-UnlockAll
returns-in-UnlockAll c request = written_as _ _ _ (same request _ _ c.in-UnlockAll.is) c.named_line-in-UnlockAll.ensures

pub returns-in-Flush : goal.returns-in-Flush
returns-in-Flush c request = written_as _ _ _ (same request _ _ c.in-Flush.is) c.target_line-in-Flush.ensures

pub returns-in-FlushAll : goal.returns-in-FlushAll
returns-in-FlushAll c request = written_as _ _ _ (same request _ _ c.in-FlushAll.is) c.named_line-in-FlushAll.ensures

pub returns-in-FlushLocal : goal.returns-in-FlushLocal
returns-in-FlushLocal c request = written_as _ _ _ (same request _ _ c.in-FlushLocal.is) c.target_line-in-FlushLocal.ensures

pub returns-in-FlushLocalAll : goal.returns-in-FlushLocalAll
returns-in-FlushLocalAll c request = written_as _ _ _ (same request _ _ c.in-FlushLocalAll.is) c.named_line-in-FlushLocalAll.ensures

pub returns-in-Sync : goal.returns-in-Sync
returns-in-Sync c request = written_as _ _ _ (same request _ _ c.in-Sync.is) c.named_line-in-Sync.ensures
