-- What the slots of the known lines keep.
use Rattle.std.specs.Prelude.{◌≡◌, ◌<◌, ◌≤◌, ◌==◌, ℕ, List, Option, Some, None, IfSome, is_none, if◌then◌else◌}
use Rattle.rma_known.specs.Known.{Known, IsAmong}

-- a known line, with the era in which it states its call, where it does not in each
pub record Dated : Type 0 where
  pub known : Known
  pub era : Option ℕ

-- an era that is not to come
abbrev pub IsPast : ℕ → Option ℕ → Type 0
IsPast now era = IfSome era (λ own. own ≤ now)

-- the line of a slot has no era that is to come, and lasts where it has none
abbrev pub IsDated : ℕ → Option Dated → Type 0
IsDated now slot = IfSome slot (λ line. IsPast now line.era × (line.known.lasts ≡ is_none line.era))

-- what is known in an era
abbrev pub known_in : ℕ → Option ℕ → Known → Option Known
known_in now None known = Some known
known_in now (Some era) known = if era == now then Some known else None

-- what a slot says in an era
abbrev pub kept_at : ℕ → Option Dated → Option Known
kept_at now None = None
kept_at now (Some line) = known_in now line.era line.known

-- the calls of known lines have numbers in a table of this length
abbrev pub AreNumbered : ℕ → List (Option Known) → Type 0
AreNumbered len them = (known : Known) → IsAmong them known → known.what < len
