-- Who has to make a call (MPI 4.0, "Groups, Contexts, Communicators, and Caching" and "One-Sided Communications").
use Rattle.std.specs.Prelude.{ℕ, List, [], Option, Some, option_map, map, nat_eq, codes, if◌then◌else◌}
use Rattle.std.specs.Option.{option_map_or}
use Rattle.std.specs.Cmp.Lexicographic.{pointwise}
use Rattle.rma_call.specs.Call.{RankCalls}
use Rattle.rma_round.specs.declared.kind.Kind.{Kind}
use Rattle.rma_round.specs.declared.kind.Kind.TheVariants.{Collective, Free, Fence, Moving}
use Rattle.rma_member.specs.Declaration.{declarations, first_of}
use Rattle.rma_member.specs.Attribute.{declared, created}

-- all ranks of a run
abbrev pub everyone : List RankCalls → List ℕ
everyone ranks = map (λ r. r.rank.0) ranks

-- the members of a communicator: all ranks for `world`, which is never declared, and else the ranks that the lowest
-- rank lists that declares it
abbrev pub members_of_comm : List RankCalls → List ℕ → List ℕ
members_of_comm ranks comm =
    if pointwise nat_eq comm (codes "world") then everyone ranks else option_map_or (λ d. d.attributes) (first_of (declarations declared ranks) comm) []

-- the communicator of a window: that of its creation by the lowest rank that creates it
abbrev pub comm_of_window : List RankCalls → List ℕ → Option (List ℕ)
comm_of_window ranks window = option_map (λ c. c.attributes.comm) (first_of (declarations created ranks) window)

-- the communicator whose members have to make a call of this kind: its own, or that of its window
abbrev pub comm_for : Kind → List RankCalls → List ℕ → Option (List ℕ)
comm_for Collective ranks comm = Some comm
comm_for Free ranks window = comm_of_window ranks window
comm_for Fence ranks window = comm_of_window ranks window
comm_for Moving ranks comm = Some comm

-- the ranks that have to make a call of this kind on the name
abbrev pub members : Kind → List RankCalls → List ℕ → List ℕ
members kind ranks name = option_map_or (members_of_comm ranks) (comm_for kind ranks name) []
