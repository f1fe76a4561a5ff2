-- Nothing is found of two accesses one of which is before the other.
use Rattle.std.proofs.Common.{List, inl, inr}
use Rattle.rma_finding.specs.declared.finding.FoundRace.{FoundRace}
use Rattle.rma_link.specs.declared.links.Links.{Links}
use Rattle.rma_window.specs.Windows.{Window}
use Rattle.rma_rules.specs.Access.{Access}
use Rattle.rma_rules.specs.Before.{Before}
use Rattle.rma_rules.specs.Spans.{Spans}
use Rattle.rma_pairs.specs.Races.{IsFoundBetween}

module _ (links : Links) (windows : List Window) (spans : Spans) (a b : Access) (race : FoundRace) where
  pub none_if_before : Before links windows spans a b → IsFoundBetween links windows spans a b race → ⊥
  none_if_before before (inl found) = found.race.not_before before
  none_if_before before (inr found) = found.race.not_after before

  pub none_if_after : Before links windows spans b a → IsFoundBetween links windows spans a b race → ⊥
  none_if_after before (inl found) = found.race.not_after before
  none_if_after before (inr found) = found.race.not_before before
