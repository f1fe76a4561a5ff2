use Rattle.std.proofs.Common.{List, ℕ, Some, sym, ap, ◌∙◌}
use Rattle.std.specs.Prelude.{option_map}
use Rattle.std.specs.Cmp.Lexicographic.{same_text}
use Rattle.std.proofs.lemmas.Option.{slice_get-map}
use Rattle.rma_open.specs.declared.open_epochs.OpenEpochs.{OpenEpochs}
use Rattle.rma_epoch.proofs.open_windows.is_at.Goals as goal

pub returns-in-Some : goal.returns-in-Some
returns-in-Some c = λ same.
    slice_get-map (λ (e : List ℕ × OpenEpochs). e.0) c.args.table.now.entries c.args.index
    ∙ ap (option_map (λ (e : List ℕ × OpenEpochs). e.0)) (sym c.in-Some.ensures.entry)
    ∙ ap Some (same_text c.in-Some.key.now c.args.name.now (sym same ∙ c.eq.ensures))
