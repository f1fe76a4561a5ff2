-- What returns still wait for.
use Rattle.std.specs.Prelude.{ℕ, ◌≡◌, ◌<◌, ◌≤◌, ◌/◌, ◌%◌, ◌⊎◌, List, [], ◌∷◌, Some, length, slice_get, slice_index, slice_index_or, Contains}
use Rattle.std.specs.List.{AllWithin}
use Rattle.rma_base.specs.declared.point.Point.{Point}
use Rattle.rma_link.specs.declared.meet.Meet as meet
use Rattle.rma_link.specs.declared.links.Links.{Links}
use Rattle.rma_link.specs.Point.{entry, return_of}
use Rattle.rma_walk.specs.declared.source.Source.{Source}
use Rattle.rma_walk.specs.declared.source.Source.TheVariants.{Entry, Meet}
use Rattle.rma_walk.specs.declared.pending.Pending.{Pending}
use Rattle.rma_walk.specs.Source.{IsEntryOf, sources_of}
use Rattle.rma_walk.specs.inside.Run.{IsPassed, IsGathered}

-- a source that can be looked up
abbrev pub IsSource : ℕ → Links → Source → Type 0
IsSource ranks links (Entry point) = point.rank.0 < ranks
IsSource ranks links (Meet index) = index < length links.meets

-- the walk is past all entries of a source
abbrev pub IsSourcePassed : Links → List ℕ → Source → Type 0
IsSourcePassed links next (Entry point) = IsPassed next point
IsSourcePassed links next (Meet index) = (m : meet.Meet) → slice_get links.meets index ≡ Some m → IsGathered next m

-- an entry of a source that the walk is not past, of this rank
abbrev pub IsMissing : Links → List ℕ → Source → ℕ → Type 0
IsMissing links next source rank = (p : Point) × (p.rank.0 ≡ rank) × IsEntryOf links source p × (IsPassed next p → ⊥)

-- a meet without members
abbrev pub no_meet : meet.Meet
no_meet = record { calls = [] }

-- what leads to a return of the rank is passed, or stands in the inbox, where nothing else stands
pub record IsInbox (links : Links) (next : List ℕ) (rank : ℕ) (inbox : List (List Source)) : Type 0 where
  pub edges : (from : Point) (call : ℕ) → Contains links.edges (record { from = from; to = return_of (record { 0 = rank }) call })
      → IsPassed next from ⊎ Contains (sources_of inbox call) (Entry from)
  pub meets : (index : ℕ) (m : meet.Meet) (call : ℕ) → slice_get links.meets index ≡ Some m → Contains m.calls (record { rank = record { 0 = rank }; call = call })
      → IsGathered next m ⊎ Contains (sources_of inbox call) (Meet index)
  pub from_edge : (call : ℕ) (from : Point) → Contains (sources_of inbox call) (Entry from)
      → Contains links.edges (record { from = from; to = return_of (record { 0 = rank }) call })
  pub from_meet : (call index : ℕ) → Contains (sources_of inbox call) (Meet index)
      → (m : meet.Meet) × (slice_get links.meets index ≡ Some m) × Contains m.calls (record { rank = record { 0 = rank }; call = call })

-- of each meet the first members, as many as this, are entered
pub record IsKnown (links : Links) (next : List ℕ) (known : List ℕ) : Type 0 where
  pub size : length known ≡ length links.meets
  pub entered : (index : ℕ) (m : meet.Meet) → slice_get links.meets index ≡ Some m
      → (slice_index known index ≤ length m.calls) × AllWithin (λ member. IsPassed next (entry member.rank member.call)) m.calls 0 (slice_index known index)

-- inboxes of all ranks get these sources, and keep what they had
pub record AreAdded (IsNew : ℕ → ℕ → Source → Type 0) (old new : List (List (List Source))) : Type 0 where
  pub size : length new ≡ length old
  pub sizes : (rank : ℕ) → length (slice_index_or new rank []) ≡ length (slice_index_or old rank [])
  pub kept : (rank call : ℕ) (source : Source) → Contains (sources_of (slice_index_or old rank []) call) source → Contains (sources_of (slice_index_or new rank []) call) source
  pub added : (rank call : ℕ) (source : Source) → IsNew rank call source → Contains (sources_of (slice_index_or new rank []) call) source
  pub only : (rank call : ℕ) (source : Source) → Contains (sources_of (slice_index_or new rank []) call) source
      → Contains (sources_of (slice_index_or old rank []) call) source ⊎ IsNew rank call source

-- an inbox loses sources that are passed, and no others
pub record IsReduced (links : Links) (next : List ℕ) (old new : List (List Source)) : Type 0 where
  pub size : length new ≡ length old
  pub left : (call : ℕ) (source : Source) → Contains (sources_of new call) source → Contains (sources_of old call) source
  pub gone : (call : ℕ) (source : Source) → Contains (sources_of old call) source → IsSourcePassed links next source ⊎ Contains (sources_of new call) source

-- what the returns of all ranks wait for
pub record IsPending (lens : List ℕ) (links : Links) (next : List ℕ) (pending : Pending) : Type 0 where
  pub size : length pending.inboxes.items ≡ length lens
  pub sizes : (rank : ℕ) → length (slice_index_or pending.inboxes.items rank []) ≡ slice_index lens rank
  pub inboxes : (rank : ℕ) → rank < length lens → IsInbox links next rank (slice_index_or pending.inboxes.items rank [])
  pub known : IsKnown links next pending.known.items

-- the next point of a rank is a return that waits for this meet alone
abbrev pub IsAlone : List ℕ → List (List (List Source)) → ℕ → ℕ → Type 0
IsAlone next inboxes rank index = (slice_index next rank % 2 ≡ 1) × (sources_of (slice_index_or inboxes rank []) (slice_index next rank / 2) ≡ Meet index ∷ [])
