-- The two cuts that show a race of a run.
use Rattle.std.specs.Prelude.{ℕ, List, Contains}
use Rattle.rma_finding.specs.declared.finding.FoundRace.{FoundRace}
use Rattle.rma_link.specs.declared.links.Links.{Links}
use Rattle.rma_window.specs.Windows.{Window}
use Rattle.rma_rules.specs.Access.{Access}
use Rattle.rma_rules.specs.Spans.{Spans}
use Rattle.rma_pairs.specs.Races.{IsFoundOf}
use Rattle.rma_cut.specs.Show.{AreLeast, ShowRace}
use Rattle.rma_cut.specs.declared.cuts.Cuts.{Cuts}

-- two of the accesses race as it was found, and the cuts are the least that show it
pub record AreCutsOf (links : Links) (lens : List ℕ) (windows : List Window) (spans : Spans) (accesses : List Access) (race : FoundRace) (cuts : Cuts) : Type 0 where
  pub a : Access
  pub b : Access
  pub has_a : Contains accesses a
  pub has_b : Contains accesses b
  pub found : IsFoundOf links windows spans a b race
  pub shown : ShowRace links lens windows spans a b cuts
  pub least : AreLeast links lens windows spans a b cuts
