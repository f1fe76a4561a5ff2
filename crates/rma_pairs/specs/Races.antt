-- The races of a run, as they are reported.
use Rattle.std.specs.Prelude.{◌≡◌, ◌<◌, ◌⊎◌, ℕ, List, Some, Contains, slice_get}
use Rattle.rma_finding.specs.declared.finding.FoundRace.{FoundRace}
use Rattle.rma_link.specs.declared.links.Links.{Links}
use Rattle.rma_window.specs.Windows.{Window}
use Rattle.rma_rules.specs.Access.{Access}
use Rattle.rma_rules.specs.Spans.{Spans}
use Rattle.rma_pairs.specs.Names.{IsBefore}
use Rattle.rma_pairs.specs.Race.{AreCommon, Race}

-- what is found of two accesses that race, the first of which has the name that comes first: their names, the sites of their calls, the
-- rank whose memory they touch, the rule by which they conflict, and all bytes that both touch
pub record IsFoundOf (links : Links) (windows : List Window) (spans : Spans) (a b : Access) (found : FoundRace) : Type 0 where
  pub in_order : IsBefore a.name b.name
  pub race : Race links windows spans a b found.rule
  pub common : AreCommon a b found.bytes
  pub first_is : found.first ≡ a.name
  pub first_site_is : found.first_site ≡ a.site
  pub second_is : found.second ≡ b.name
  pub second_site_is : found.second_site ≡ b.site
  pub memory_is : found.memory ≡ a.memory

-- what is found of two accesses, whichever is the first
abbrev pub IsFoundBetween : Links → List Window → Spans → Access → Access → FoundRace → Type 0
IsFoundBetween links windows spans a b found = IsFoundOf links windows spans a b found ⊎ IsFoundOf links windows spans b a found

-- what is found of two of the accesses
pub record IsFound (links : Links) (windows : List Window) (spans : Spans) (accesses : List Access) (found : FoundRace) : Type 0 where
  pub a : Access
  pub b : Access
  pub has_a : Contains accesses a
  pub has_b : Contains accesses b
  pub is : IsFoundOf links windows spans a b found

-- the order of what is found: by the first name, then by the second
abbrev pub Precedes : FoundRace → FoundRace → Type 0
Precedes f g = IsBefore f.first g.first ⊎ ((f.first ≡ g.first) × IsBefore f.second g.second)

-- each race comes before all that follow it
abbrev pub Ascend : List FoundRace → Type 0
Ascend list = (i j : ℕ) (f g : FoundRace) → i < j → slice_get list i ≡ Some f → slice_get list j ≡ Some g → Precedes f g

-- two names have one race at most
abbrev pub HaveOneRace : List FoundRace → Type 0
HaveOneRace races = (f g : FoundRace) → Contains races f → Contains races g → f.first ≡ g.first → f.second ≡ g.second → f ≡ g

-- a list is that of all races between the accesses: each once, in order
pub record AreRaces (links : Links) (windows : List Window) (spans : Spans) (accesses : List Access) (list : List FoundRace) : Type 0 where
  pub only : (found : FoundRace) → Contains list found → IsFound links windows spans accesses found
  pub all : (found : FoundRace) → IsFound links windows spans accesses found → Contains list found
  pub ascend : Ascend list

-- each access has a name of its own
abbrev pub HaveNames : List Access → Type 0
HaveNames accesses = (a b : Access) → Contains accesses a → Contains accesses b → a.name ≡ b.name → a ≡ b
