use Rattle.std.proofs.Common.{sym, ap, ◌∙◌}
use Rattle.std.specs.Option.{option_and_then}
use Rattle.rma_call.specs.Rma.{access_of}
use Rattle.rma_window.specs.declared.window_id.WindowId.{WindowId}
use Rattle.rma_window.specs.Windows.{part_of}
use Rattle.rma_open.proofs.MemberLemmas.{part_at_number}
use Rattle.rma_open.proofs.member.target_part.Goals as goal

pub returns-in-Some : goal.returns-in-Some
returns-in-Some c =
    let windows = c.args.windows.now in
    let name = (access_of c.args.access).window in
    let part =
    c.part_at.ensures
    ∙ ap (option_and_then (λ (id : WindowId). part_of windows id c.in-Some.target)) c.requires
    ∙ part_at_number windows name c.in-Some.target in
    rw (sym c.target.ensures ∙ c.in-Some.is) part
