-- A run whose races are asked for.
use Rattle.std.specs.Prelude.{◌≡◌, ℕ, List}
use Rattle.rma_clock.specs.declared.shared.SharedClocks.{SharedClocks}
use Rattle.rma_link.specs.declared.links.Links.{Links}
use Rattle.rma_finding.specs.declared.finding.FoundRace.{FoundRace}
use Rattle.rma_accesses.specs.Run.{AreGood}
use Rattle.rma_accesses.specs.inside.Kept.{AreAccessesOf}
use Rattle.rma_happens_before.specs.RunOrder.{IsHappensBefore}
use Rattle.rma_order.specs.RunLinks.{links_of}
use Rattle.rma_pairs.specs.Races.{AreRaces, IsFound}
use Rattle.rma_span.specs.Span.{accesses}
use Rattle.rma_window.specs.Creation.{creations}
use Rattle.rma_window.specs.Windows.{windows_by}
use Rattle.rma_findings_probe.specs.declared.scene.Scene.{Scene}

-- the run is that of good logs, with its accesses, its windows and its order
pub record IsScene (are_of : SharedClocks → List ℕ → Links → Type 0) (scene : Scene) : Type 0 where
  pub good : AreGood scene.calls.now
  pub accesses_are : AreAccessesOf scene.calls.now scene.accesses.now
  pub windows_are : scene.windows.now ≡ windows_by (creations scene.calls.now)
  pub order_is : IsHappensBefore are_of scene.calls.now scene.order.now

-- this is a race of it
abbrev pub IsRaceOf : Scene → FoundRace → Type 0
IsRaceOf scene race = IsFound (links_of scene.calls.now) (windows_by (creations scene.calls.now)) scene.accesses.now.lists (accesses scene.calls.now) race

-- these are its races
abbrev pub AreRacesOf : Scene → List FoundRace → Type 0
AreRacesOf scene races = AreRaces (links_of scene.calls.now) (windows_by (creations scene.calls.now)) scene.accesses.now.lists (accesses scene.calls.now) races
