-- What the return of a call waits for, in the calls of the ranks that are taken (MPI 4.0, "Point-to-Point Communication",
-- "Collective Communication" and "One-Sided Communications").
use Rattle.std.specs.Prelude.{◌≤◌, ℕ, ◌==◌, List, [], ◌∷◌, ◌++◌, not, Option, Some, None, option_map, map, filter, length, slice_get, if◌then◌else◌}
use Rattle.std.specs.Option.{option_and_then, option_map_or, option_or}
use Rattle.rma_base.specs.Limits.{fed_limit}
use Rattle.rma_base.specs.declared.point.Point.{Point}
use Rattle.rma_call.specs.Call.{Call}
use Rattle.rma_call.specs.declared.what.What.{What}
use Rattle.rma_link.specs.Point.{entry}
use Rattle.rma_message.specs.declared.source.MessageSource.{MessageSource}
use Rattle.rma_message.specs.declared.source.MessageSource.TheVariants.{NoReceive, Unknown, From}
use Rattle.rma_message.specs.Source.{source_of}
use Rattle.rma_round.specs.Edge.{Rooted, rooted_of}
use Rattle.rma_round.specs.Meet.{waits_for_all}
use Rattle.rma_round.specs.Round as round
use Rattle.rma_exposure.specs.declared.side.Side.TheVariants.{Exposure}
use Rattle.rma_exposure.specs.Opening.{Opening, opening_at}
use Rattle.rma_exposure.specs.Closing.{opener_of}
use Rattle.rma_exposure.specs.Matching as exposure
use Rattle.rma_exposure.specs.Edge.{complete_for}
use Rattle.rma_match.specs.Membership.{members}

-- no rank has more calls than there may be
abbrev pub AreFew : (ℕ → List Call) → Type 0
AreFew calls = (rank : ℕ) → length (calls rank) ≤ fed_limit

-- the call of another rank that matches a call: that of its round, the start of a post, or the post of a start
abbrev pub partner_of : (ℕ → List Call) → ℕ → ℕ → ℕ → Option ℕ
partner_of calls rank number other = option_or (round.partner_of calls rank number other) (exposure.partner_of calls rank number other)

-- where a rank enters a call, if the call is there
abbrev pub entry_at : ℕ → Option ℕ → Option Point
entry_at rank call = option_map (entry (record { 0 = rank })) call

-- the members but for one
abbrev pub others : ℕ → List ℕ → List ℕ
others rank members = filter (λ member. not (member == rank)) members

-- the ranks that a call waits for which is part of a movement from a root or to it: the root where the data comes from it, and
-- all others where it goes to the caller as the root
abbrev pub awaited_in : List ℕ → ℕ → Rooted → List ℕ
awaited_in others rank at = if at.root.0 == rank then (if at.to_root then others else []) else (if at.to_root then [] else at.root.0 ∷ [])

-- the ranks whose calls of its round the return of a call waits for: all others where the members wait for one another
abbrev pub awaited_ranks : ℕ → List Call → ℕ → What → List ℕ
awaited_ranks ranks own rank what =
    if waits_for_all what then others rank (members ranks own what) else option_map_or (awaited_in (others rank (members ranks own what)) rank) (rooted_of what) []

-- the entry of the call of another rank that is of the round of the call of this number of a rank
abbrev pub round_entry : (ℕ → List Call) → ℕ → ℕ → ℕ → Option Point
round_entry calls rank number other = entry_at other (round.partner_of calls rank number other)

-- what the return of a call waits for in its round
abbrev pub round_entries : ℕ → (ℕ → List Call) → ℕ → ℕ → What → List (Option Point)
round_entries ranks calls rank number what = map (round_entry calls rank number) (awaited_ranks ranks (calls rank) rank what)

-- the entry of the complete of an origin's start that matches a post
abbrev pub complete_entry : (ℕ → List Call) → ℕ → ℕ → List ℕ → ℕ → Option Point
complete_entry calls rank post window origin = entry_at origin (complete_for calls rank post window origin)

-- what the expwait of a post waits for: the completes of all origins of its group
abbrev pub complete_entries : (ℕ → List Call) → ℕ → ℕ → Opening → List (Option Point)
complete_entries calls rank post opening = map (complete_entry calls rank post opening.window) opening.group

-- the same of any call, which waits for none where it closes no exposure epoch
abbrev pub expwait_entries : (ℕ → List Call) → ℕ → ℕ → List (Option Point)
expwait_entries calls rank number =
    option_map_or (λ post. option_map_or (complete_entries calls rank post) (opening_at Exposure (calls rank) post) []) (opener_of Exposure (calls rank) number) []

-- the send that the return of a call waits for, by where its message comes from: none where it completes no receive
abbrev pub message_entries : MessageSource → List (Option Point)
message_entries NoReceive = []
message_entries Unknown = None ∷ []
message_entries (From point) = Some point ∷ []

-- all calls that the return of a call waits for: of each its entry, or none where it is not taken yet
abbrev pub awaited : ℕ → (ℕ → List Call) → ℕ → ℕ → What → List (Option Point)
awaited ranks calls rank number what =
    round_entries ranks calls rank number what ++ (expwait_entries calls rank number ++ message_entries (source_of calls rank number))

-- all points, where each of them is there
abbrev pub all_of : List (Option Point) → Option (List Point)
all_of [] = Some []
all_of (point ∷ points) = option_and_then (λ first. option_map (λ rest. first ∷ rest) (all_of points)) point

-- the entries that the return of a call waits for, where all of them are taken: by rank, as its members or its group are listed
abbrev pub sources_of : ℕ → (ℕ → List Call) → ℕ → ℕ → Option (List Point)
sources_of ranks calls rank number = option_and_then (λ call. all_of (awaited ranks calls rank number call.what)) (slice_get (calls rank) number)
