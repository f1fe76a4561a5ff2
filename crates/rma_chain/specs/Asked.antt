-- Of which accesses it may be asked whether they race: those whose points are known.
use Rattle.std.specs.Prelude.{ℕ, List}
use Rattle.rma_window.specs.Windows.{Window}
use Rattle.rma_rules.specs.Access.{Access, IsOnWindowOf}
use Rattle.rma_rules.specs.Before.{AreReached}
use Rattle.rma_rules.specs.Spans.{Spans}

-- two accesses may be asked whether they race, where these points are known
pub record MayBeAsked (points : List ℕ) (windows : List Window) (spans : Spans) (a b : Access) : Type 0 where
  pub on_a : IsOnWindowOf windows a
  pub on_b : IsOnWindowOf windows b
  pub reached : AreReached points spans a b
  pub reached_back : AreReached points spans b a
