use Rattle.std.proofs.Common.{ap, sym, ◌∙◌}
use Rattle.std.specs.Option.{option_and_then}
use Rattle.rma_window.specs.Windows.{part_in, window_of}
use Rattle.rma_window.proofs.WholeLemmas.{found_at_number}
use Rattle.rma_window.proofs.windows.Windows.part_named.Goals as goal

pub returns-in-Some : goal.returns-in-Some
returns-in-Some c =
    let windows = c.args.self.now in
    c.part.ensures.part
    ∙ ap (λ id. option_and_then (part_in c.args.rank) (option_and_then (window_of windows) id)) (sym c.in-Some.is ∙ c.find.ensures)
    ∙ ap (option_and_then (part_in c.args.rank)) (found_at_number windows c.args.name.now)

pub returns-in-None : goal.returns-in-None
returns-in-None c =
    let windows = c.args.self.now in
    ap (λ id. option_and_then (part_in c.args.rank) (option_and_then (window_of windows) id)) (sym c.in-None.is ∙ c.find.ensures)
    ∙ ap (option_and_then (part_in c.args.rank)) (found_at_number windows c.args.name.now)
