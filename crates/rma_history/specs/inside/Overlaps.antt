-- Chains of accesses by the bytes that they touch.
use Rattle.std.specs.Prelude.{◌≡◌, ◌<◌, ◌≤◌, ℕ, ℤ, List, Some, Contains, flat_map, length, slice_get}
use Rattle.rma_bytes.specs.Runs.{HasByte}
use Rattle.rma_cells.specs.Cell.{Cell}
use Rattle.rma_cells.specs.Cells.{StandsAt}
use Rattle.rma_link.specs.declared.links.Links.{Links}
use Rattle.rma_window.specs.Windows.{Window}
use Rattle.rma_rules.specs.Access.{Access}
use Rattle.rma_rules.specs.Spans.{Spans}
use Rattle.rma_finding.specs.declared.finding.FoundRace.{FoundRace}
use Rattle.rma_pairs.specs.Races.{IsFoundBetween}
use Rattle.rma_chain.specs.Chain.{AreFollowedBy}
use Rattle.rma_history.specs.declared.reach.Hull.{Hull}
use Rattle.rma_history.specs.inside.Hull.{IsWithin}

-- all accesses of some chains
abbrev pub accesses_of : List (List Access) → List Access
accesses_of chains = flat_map (λ chain. chain) chains

-- of each chain a hull has all bytes of its accesses; the index of each of the first stands on them, and no other number stands anywhere
pub record StandOnBytes (chains : List (List Access)) (hulls : List Hull) (cells : List (ℤ × Cell)) (settled : ℕ) : Type 0 where
  pub size : length hulls ≡ length chains
  pub within : (i : ℕ) (chain : List Access) (hull : Hull) (a : Access) (b : ℤ) → slice_get chains i ≡ Some chain → slice_get hulls i ≡ Some hull → Contains chain a → HasByte a.runs b → IsWithin hull b
  pub first : settled ≤ length chains
  pub all : (i : ℕ) (chain : List Access) (a : Access) (b : ℤ) → i < settled → slice_get chains i ≡ Some chain → Contains chain a → HasByte a.runs b → StandsAt cells i b
  pub only : (i : ℕ) (b : ℤ) → StandsAt cells i b → i < settled

-- an access may be added to a chain, which has some
pub record GoesOn (chain : List Access) (b : Access) : Type 0 where
  pub some : (a : Access) × Contains chain a
  pub follows : AreFollowedBy chain b

-- an access may be added to the chain at an index
abbrev pub IsHome : List (List Access) → ℕ → Access → Type 0
IsHome chains i b = (chain : List Access) × (slice_get chains i ≡ Some chain) × GoesOn chain b

-- what is found of an access with one of the chain at an index
abbrev pub IsFoundAt : Links → List Window → Spans → List (List Access) → Access → FoundRace → ℕ → Type 0
IsFoundAt links windows spans chains b race i =
    (chain : List Access) × (slice_get chains i ≡ Some chain) × ((a : Access) × Contains chain a × IsFoundBetween links windows spans a b race)
