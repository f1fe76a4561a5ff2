-- The sources of the calls of a rank, as an inbox keeps them.
use Rattle.std.specs.Prelude.{ℕ, ◌≡◌, zero, suc, ◌≤◌, ◌<◌, List, [], ◌∷◌, length, slice_index_or, All}
use Rattle.rma_walk.specs.declared.source.Source.{Source}
use Rattle.rma_walk.specs.declared.source.Source.TheVariants as source
use Rattle.rma_walk.specs.declared.waits.Waits.{Waits}
use Rattle.rma_walk.specs.declared.waits.Waits.TheVariants.{Nothing, Meet, Arrivals}
use Rattle.rma_walk.specs.declared.waits.ShortSource.{ShortSource}
use Rattle.rma_walk.specs.declared.waits.ShortSource.TheVariants as short
use Rattle.rma_walk.specs.declared.waits.Arrival.{Arrival}

-- what is read where no arrival stands
abbrev pub no_arrival : Arrival
no_arrival = record { source = short.Entry (record { rank = record { 0 = 0 }; pos = 0 }); before = Nothing }

-- the source that is kept
abbrev pub source_of : ShortSource → Source
source_of (short.Entry point) = source.Entry point
source_of (short.Meet index) = source.Meet index

-- how many of the first arrivals have all arrivals of a call among them
abbrev pub reach : Waits → ℕ
reach Nothing = zero
reach (Meet index) = zero
reach (Arrivals index) = suc index

-- the sources of a call that waits so, of which there are at most so many arrivals
abbrev pub chain_of : ℕ → List Arrival → Waits → List Source
chain_of most arrivals Nothing = []
chain_of most arrivals (Meet index) = source.Meet index ∷ []
chain_of zero arrivals (Arrivals index) = []
chain_of (suc most) arrivals (Arrivals index) =
    source_of (slice_index_or arrivals index no_arrival).source ∷ chain_of most arrivals (slice_index_or arrivals index no_arrival).before

-- all sources of such a call, the last one first
abbrev pub chain : List Arrival → Waits → List Source
chain arrivals waits = chain_of (reach waits) arrivals waits

-- each arrival was added to earlier ones
abbrev pub AreEarlier : List Arrival → Type 0
AreEarlier arrivals = (k : ℕ) → k < length arrivals → reach (slice_index_or arrivals k no_arrival).before ≤ k

-- each arrival was added to earlier ones, and calls wait for arrivals that stand there
pub record AreChained (arrivals : List Arrival) (waits : List Waits) : Type 0 where
  pub earlier : AreEarlier arrivals
  pub within : All (λ w. reach w ≤ length arrivals) waits

-- such sources are kept so: none, or one meet, without an arrival
abbrev pub AreKept : Waits → List Source → Type 0
AreKept Nothing sources = sources ≡ []
AreKept (Meet index) sources = sources ≡ source.Meet index ∷ []
AreKept (Arrivals index) sources = Unit {0}
