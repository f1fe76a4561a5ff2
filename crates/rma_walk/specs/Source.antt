-- What the returns of calls wait for (MPI 4.0, "MPI Terms and Conventions").
use Rattle.std.specs.Prelude.{ℕ, ◌≡◌, ◌⊎◌, List, [], Some, length, slice_get, slice_index, slice_index_or, Contains}
use Rattle.rma_base.specs.declared.point.Point.{Point}
use Rattle.rma_link.specs.declared.meet.Member.{Member}
use Rattle.rma_link.specs.declared.meet.Meet as meet
use Rattle.rma_link.specs.declared.edge.Edge.{Edge}
use Rattle.rma_link.specs.declared.links.Links.{Links}
use Rattle.rma_link.specs.Point.{entry, return_of}
use Rattle.rma_walk.specs.declared.source.Source.{Source}
use Rattle.rma_walk.specs.declared.source.Source.TheVariants.{Entry, Meet}

-- an entry of a source
abbrev pub IsEntryOf : Links → Source → Point → Type 0
IsEntryOf links (Entry point) p = point ≡ p
IsEntryOf links (Meet index) p = (m : meet.Meet) × (slice_get links.meets index ≡ Some m) × ((member : Member) × Contains m.calls member × (p ≡ entry member.rank member.call))

-- an edge among these is the source of a call
abbrev pub IsEdgeSource : List Edge → ℕ → ℕ → Source → Type 0
IsEdgeSource edges rank call source = (from : Point) × (source ≡ Entry from) × Contains edges (record { from = from; to = return_of (record { 0 = rank }) call })

-- a meet with these members is the source of a call
abbrev pub IsMemberSource : ℕ → List Member → ℕ → ℕ → Source → Type 0
IsMemberSource index members rank call source = (source ≡ Meet index) × Contains members (record { rank = record { 0 = rank }; call = call })

-- a meet among these is the source of a call
abbrev pub IsMeetSource : List meet.Meet → ℕ → ℕ → Source → Type 0
IsMeetSource meets rank call source = (index : ℕ) × (m : meet.Meet) × (slice_get meets index ≡ Some m) × IsMemberSource index m.calls rank call source

-- an edge or a meet of the run is the source of a call
abbrev pub IsSourceOf : Links → ℕ → ℕ → Source → Type 0
IsSourceOf links rank call source = IsEdgeSource links.edges rank call source ⊎ IsMeetSource links.meets rank call source

-- the sources of a call
abbrev pub sources_of : List (List Source) → ℕ → List Source
sources_of inbox call = slice_index_or inbox call []

-- by rank and call, all sources and no others
pub record AreSources (lens : List ℕ) (links : Links) (inboxes : List (List (List Source))) : Type 0 where
  pub size : length inboxes ≡ length lens
  pub sizes : (rank : ℕ) → length (slice_index_or inboxes rank []) ≡ slice_index lens rank
  pub all : (rank call : ℕ) (source : Source) → IsSourceOf links rank call source → Contains (sources_of (slice_index_or inboxes rank []) call) source
  pub only : (rank call : ℕ) (source : Source) → Contains (sources_of (slice_index_or inboxes rank []) call) source → IsSourceOf links rank call source
