use Rattle.std.specs.Prelude.{option_map}
use Rattle.std.proofs.Common.{◌≡◌, ℕ, Option, sym, ap, subst, ◌∙◌}
use Rattle.rma_call.specs.Call.{what_of}
use Rattle.rma_window.specs.declared.window_id.WindowId.{WindowId}
use Rattle.rma_open.specs.Calls.{number_on, part_on}
use Rattle.rma_epoch.specs.inside.Parts.{IsPart, part_to, window_kept}
use Rattle.rma_epoch.proofs.PartLemmas.{entries_more, part_to_is, same_window}
use Rattle.rma_epoch.proofs.parts.Parts.add.Goals as goal

pub returns-clause-part : goal.returns-clause-part
returns-clause-part c =
    let windows = c.args.windows.now in
    c.in_ok-found.ensures.part
    ∙ ap (λ (window : Option WindowId). part_to windows window c.target_of.result) c.requires.window
    ∙ ap (part_to windows (number_on windows (what_of c.args.what))) c.target_of.ensures
    ∙ part_to_is windows (what_of c.args.what)

pub returns-clause-entries : goal.returns-clause-entries
returns-clause-entries c = λ whats next are.
    let windows = c.args.windows.now in
    let what = what_of c.args.what in
    let parts = c.part_of.new.parts in
    let is : part_to windows c.args.window c.target_of.result ≡ part_on windows what =
    ap (λ (window : Option WindowId). part_to windows window c.target_of.result) c.requires.window
    ∙ ap (part_to windows (number_on windows what)) c.target_of.ensures
    ∙ part_to_is windows what in
    let window : window_kept c.in_ok-kept.field-0 ≡ number_on windows what = ap (option_map (λ n. record { 0 = n })) (c.in_ok-kept.ensures ∙ c.window_number.ensures) ∙ same_window c.args.window ∙ c.requires.window in
    entries_more windows whats c.args.self.now (record { entries = c.push.new.self; parts = parts }) what (record { window = c.in_ok-kept.field-0; part = c.in_ok-kept-2.field-0 }) c.in_ok-found.ensures.stay c.in_ok-push.ensures.items next
    (record {
      window = window;
      part = subst (λ (index : Option ℕ). IsPart parts.entries index (part_on windows what)) (sym c.in_ok-kept-2.ensures) (subst (IsPart parts.entries c.in_ok-found.found.index) is c.in_ok-found.ensures.index);
    })
    are
