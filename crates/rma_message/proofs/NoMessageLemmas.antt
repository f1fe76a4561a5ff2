-- Calls that are of no message.
use Rattle.std.proofs.Common.{◌≡◌, ℕ, suc, ◌+◌, List, [], ◌∷◌, Option, Some, slice_get, refl, ap, ◌∙◌}
use Rattle.rma_base.specs.declared.line.LineNo.{LineNo}
use Rattle.rma_call.specs.Call.{Call}
use Rattle.rma_call.specs.declared.what.What.{What}
use Rattle.rma_call.specs.declared.what.What.TheVariants.{Sync, Rma, Local}
use Rattle.rma_call.specs.declared.what.SyncCall.TheVariants.{Frame, Message, Window, Epoch, Moving}
use Rattle.rma_message.specs.RankMessages.{RankMessages, with_what, with_call, with_calls}
use Rattle.rma_call.specs.declared.group.Group.TheVariants as group
use Rattle.rma_call.specs.Group.{group_of}

-- the call is of no message
abbrev IsOfNoMessage : What → Type 0
IsOfNoMessage what = group_of what ≡ group.Message → ⊥

unchanged : (m : RankMessages) (number : ℕ) (line : LineNo) (request : Option ℕ) (what : What) → IsOfNoMessage what → with_what m number line request what ≡ m
unchanged m number line request (Sync (Frame call)) none = refl
unchanged m number line request (Sync (Message call)) none = absurd (none refl)
unchanged m number line request (Sync (Window call)) none = refl
unchanged m number line request (Sync (Epoch call)) none = refl
unchanged m number line request (Sync (Moving call)) none = refl
unchanged m number line request (Rma call) none = refl
unchanged m number line request (Local call) none = refl

-- such a call changes nothing
call_changes_nothing : (m : RankMessages) (number : ℕ) (call : Call) → IsOfNoMessage call.what → with_call m number call ≡ m
call_changes_nothing m number call none = unchanged m number call.line call.request call.what none

-- calls that are of no message change nothing
pub calls_change_nothing : (m : RankMessages) (number : ℕ) (calls : List Call) → ((i : ℕ) (call : Call) → slice_get calls i ≡ Some call → group_of call.what ≡ group.Message → ⊥) → with_calls m number calls ≡ m
calls_change_nothing m number [] none = refl
calls_change_nothing m number (call ∷ calls) none =
    ap (λ n. with_calls n (number + 1) calls) (call_changes_nothing m number call (none 0 call refl))
    ∙ calls_change_nothing m (number + 1) calls (λ i c at. none (suc i) c at)
