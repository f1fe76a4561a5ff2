-- One more call in the lists.
use Rattle.std.specs.Prelude.{ℕ, List, Option, Some, None}
use Rattle.rma_base.specs.declared.rank.Rank.{Rank}
use Rattle.rma_window.specs.declared.window_id.WindowId.{WindowId}
use Rattle.rma_rules.specs.declared.span.Owner.{Owner}
use Rattle.rma_rules.specs.Spans.{Spans, with_call}

-- the lists with one more call of a rank and a window, if there is one
abbrev pub with_some : List (Owner × List ℕ) → Rank → Option WindowId → ℕ → List (Owner × List ℕ)
with_some lists rank None call = lists
with_some lists rank (Some window) call = with_call lists rank window call

-- the lists with a call that concerns these windows: one to which it publishes, and one of which it makes updates visible
abbrev pub with_both : Spans → Rank → Option WindowId → Option WindowId → ℕ → Spans
with_both spans rank published shown call =
    record spans { publishing = with_some spans.publishing rank published call; visible = with_some spans.visible rank shown call }
