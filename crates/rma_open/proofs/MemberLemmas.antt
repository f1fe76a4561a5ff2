-- Members of windows.
use Rattle.std.proofs.Common.{◌≡◌, ℕ, Bool, List, Option, Some, None, refl, ap, ◌∙◌}
use Rattle.std.proofs.Math.Path.{fun_ext}
use Rattle.std.specs.Prelude.{is_none}
use Rattle.std.specs.List.{list_any}
use Rattle.std.specs.Option.{option_and_then}
use Rattle.rma_base.specs.declared.rank.Rank.{Rank}
use Rattle.rma_window.specs.declared.window_id.WindowId.{WindowId}
use Rattle.rma_window.specs.Windows.{Window, number_of, part_in, part_named, part_of, window_of}
use Rattle.rma_open.specs.Reason.{lacks_part}
use Rattle.rma_window.proofs.WholeLemmas.{found_at_number}

-- the part of a rank in the window of a name is that in the window of its number
pub part_at_number : (windows : List Window) (name : List ℕ) (rank : Rank) → option_and_then (λ (id : WindowId). part_of windows id rank) (number_of windows name) ≡ part_named windows name rank
part_at_number windows name rank = by (number_of windows name) ∙ ap (option_and_then (part_in rank)) (found_at_number windows name)
  where
    by : (o : Option WindowId) → option_and_then (λ (id : WindowId). part_of windows id rank) o ≡ option_and_then (part_in rank) (option_and_then (window_of windows) o)
    by None = refl
    by (Some id) = refl

-- some of the ranks have no part in the window of a name, or in that of its number
pub lacks_at_number : (windows : List Window) (name numbers : List ℕ) (found : Option WindowId) → found ≡ number_of windows name →
    list_any (λ (n : ℕ). is_none (option_and_then (λ (id : WindowId). part_of windows id (record { 0 = n })) found)) numbers ≡ list_any (lacks_part windows name) numbers
lacks_at_number windows name numbers found is =
    ap (λ o. list_any (λ (n : ℕ). is_none (option_and_then (λ (id : WindowId). part_of windows id (record { 0 = n })) o)) numbers) is
    ∙ ap (λ (p : ℕ → Bool). list_any p numbers) (fun_ext (λ n. ap is_none (part_at_number windows name (record { 0 = n }))))
