-- Calls that differ from the first of their round (MPI 4.0, "Collective Communication" and "One-Sided Communications").
use Rattle.std.specs.Prelude.{ℕ, List, Bool, Option, Some, None, find, nat_eq, ◌==◌, ◌&&◌, if◌then◌else◌}
use Rattle.std.specs.List.{filter_map}
use Rattle.std.specs.Option.{option_and_then}
use Rattle.std.specs.Cmp.Lexicographic.{pointwise}
use Rattle.rma_base.specs.declared.rank.Rank.{Rank}
use Rattle.rma_base.specs.declared.match_reason.MatchReason.{MatchReason}
use Rattle.rma_base.specs.declared.match_reason.MatchReason.TheVariants.{CollectiveDiffers, AssertDiffers, DataDiffers}
use Rattle.rma_call.specs.Call.{Call}
use Rattle.rma_call.specs.declared.match_fault.MatchFault.{MatchFault}
use Rattle.rma_round.specs.declared.kind.Kind.{Kind}
use Rattle.rma_round.specs.declared.kind.Kind.TheVariants as kind
use Rattle.rma_agreement.specs.declared.first.First.{First}
use Rattle.rma_agreement.specs.Argument.{arguments_of, same_arguments}
use Rattle.rma_agreement.specs.Collective.{RoundCall}

-- whether a call has a part in the round of this number of the name
abbrev pub is_at : List ℕ → ℕ → RoundCall → Bool
is_at name number c = pointwise nat_eq c.name name && c.number == number

-- what is compared of a call of a rank, after so many barriers and window creations on its communicator
abbrev pub own_of : Rank → ℕ → Call → First
own_of rank place call = record { rank = rank; line = call.line; arguments = arguments_of place call.what }

-- what is compared of a call
abbrev pub kept : RoundCall → First
kept c = record { rank = c.rank; line = c.line; arguments = c.arguments }

-- the reason for which a call of each kind is reported that differs from the first of its round: frees never differ
abbrev pub difference_reason : Kind → MatchReason
difference_reason kind.Collective = CollectiveDiffers
difference_reason kind.Free = CollectiveDiffers
difference_reason kind.Fence = AssertDiffers
difference_reason kind.Moving = DataDiffers

-- the fault of a call that does not agree with another
abbrev pub differs : Kind → First → First → Option MatchFault
differs kind first own =
    if same_arguments first.arguments own.arguments then None
    else Some (record { reason = difference_reason kind; rank = own.rank; line = own.line; other = Some (first.rank, first.line) })

-- the fault of a call that does not agree with the first of its round
abbrev pub round_difference : Kind → List RoundCall → RoundCall → Option MatchFault
round_difference kind all own = option_and_then (λ first. differs kind (kept first) (kept own)) (find (is_at own.name own.number) all)

-- the faults of all such calls, in their order
abbrev pub round_differences : Kind → List RoundCall → List MatchFault
round_differences kind all = filter_map (round_difference kind all) all
