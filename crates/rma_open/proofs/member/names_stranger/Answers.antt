use Rattle.std.proofs.Common.{◌≡◌, ◌∷◌, [], ap, ◌∙◌}
use Rattle.std.specs.List.{list_any}
use Rattle.rma_call.specs.declared.epoch.EpochCall.{EpochCall}
use Rattle.rma_window.specs.Windows.{number_of}
use Rattle.rma_open.specs.Calls.{window_in}
use Rattle.rma_open.specs.Reason.{lacks_part}
use Rattle.rma_open.proofs.MemberLemmas.{lacks_at_number}
use Rattle.rma_open.proofs.member.names_stranger.Goals as goal

pub returns-in-Post : goal.returns-in-Post
returns-in-Post c =
    let windows = c.args.windows.now in
    let at : c.args.window ≡ number_of windows c.in-Post.window = c.requires ∙ ap (λ (call : EpochCall). number_of windows (window_in call)) c.in-Post.is in
    rw c.in-Post.is (c.any_lacks.ensures ∙ lacks_at_number windows c.in-Post.window c.numbers.result.now c.args.window at
    ∙ ap (list_any (lacks_part windows c.in-Post.window)) c.numbers.ensures.numbers)

pub returns-in-Start : goal.returns-in-Start
returns-in-Start c =
    let windows = c.args.windows.now in
    let at : c.args.window ≡ number_of windows c.in-Start.window = c.requires ∙ ap (λ (call : EpochCall). number_of windows (window_in call)) c.in-Start.is in
    rw c.in-Start.is (c.any_lacks-in-Start.ensures ∙ lacks_at_number windows c.in-Start.window c.numbers-in-Start.result.now c.args.window at
    ∙ ap (list_any (lacks_part windows c.in-Start.window)) c.numbers-in-Start.ensures.numbers)

pub returns-in-Lock : goal.returns-in-Lock
returns-in-Lock c =
    let windows = c.args.windows.now in
    let at : c.args.window ≡ number_of windows c.in-Lock.window = c.requires ∙ ap (λ (call : EpochCall). number_of windows (window_in call)) c.in-Lock.is in
    rw c.in-Lock.is (c.any_lacks-in-Lock.ensures ∙ lacks_at_number windows c.in-Lock.window (c.in-Lock.target.0 ∷ []) c.args.window at)

pub returns-in-Unlock : goal.returns-in-Unlock
returns-in-Unlock c =
    let windows = c.args.windows.now in
    let at : c.args.window ≡ number_of windows c.in-Unlock.window = c.requires ∙ ap (λ (call : EpochCall). number_of windows (window_in call)) c.in-Unlock.is in
    rw c.in-Unlock.is (c.any_lacks-in-Unlock.ensures ∙ lacks_at_number windows c.in-Unlock.window (c.in-Unlock.target.0 ∷ []) c.args.window at)

pub returns-in-Flush : goal.returns-in-Flush
returns-in-Flush c =
    let windows = c.args.windows.now in
    let at : c.args.window ≡ number_of windows c.in-Flush.window = c.requires ∙ ap (λ (call : EpochCall). number_of windows (window_in call)) c.in-Flush.is in
    rw c.in-Flush.is (c.any_lacks-in-Flush.ensures ∙ lacks_at_number windows c.in-Flush.window (c.in-Flush.target.0 ∷ []) c.args.window at)

pub returns-in-FlushLocal : goal.returns-in-FlushLocal
returns-in-FlushLocal c =
    let windows = c.args.windows.now in
    let at : c.args.window ≡ number_of windows c.in-FlushLocal.window = c.requires ∙ ap (λ (call : EpochCall). number_of windows (window_in call)) c.in-FlushLocal.is in
    rw c.in-FlushLocal.is (c.any_lacks-in-FlushLocal.ensures ∙ lacks_at_number windows c.in-FlushLocal.window (c.in-FlushLocal.target.0 ∷ []) c.args.window at)
