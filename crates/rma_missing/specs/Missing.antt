-- Calls that some member does not make (MPI 4.0, "Collective Communication" and "One-Sided Communications").
use Rattle.std.specs.Prelude.{ℕ, List, Bool, Option, Some, None, nat_le, if◌then◌else◌}
use Rattle.std.specs.List.{list_any}
use Rattle.std.specs.Option.{option_and_then, option_or}
use Rattle.rma_base.specs.declared.rank.Rank.{Rank}
use Rattle.rma_base.specs.declared.match_reason.MatchReason.{MatchReason}
use Rattle.rma_base.specs.declared.match_reason.MatchReason.TheVariants.{CollectiveMissing, DataMissing}
use Rattle.rma_call.specs.Call.{Call, RankCalls}
use Rattle.rma_call.specs.declared.match_fault.MatchFault.{MatchFault}
use Rattle.rma_round.specs.declared.kind.Kind.{Kind}
use Rattle.rma_round.specs.declared.kind.Kind.TheVariants.{Collective, Free, Fence, Moving}
use Rattle.rma_round.specs.Kind.{named, count_of}
use Rattle.rma_agreement.specs.Collective.{walked_all, made}
use Rattle.rma_member.specs.Member.{members}

-- whether some member makes no call of this number on the name, from 0
abbrev pub lacks : Kind → List RankCalls → List ℕ → ℕ → Bool
lacks kind ranks name number = list_any (λ m. nat_le (made kind ranks m name) number) (members kind ranks name)

-- the reason for which a call of each kind is reported that some member does not make
abbrev pub missing_reason : Kind → MatchReason
missing_reason Collective = CollectiveMissing
missing_reason Free = CollectiveMissing
missing_reason Fence = CollectiveMissing
missing_reason Moving = DataMissing

-- the fault of a call, whose number this is, that some member does not make
abbrev pub fault_if : Bool → MatchReason → Rank → Call → Option MatchFault
fault_if lacking reason rank call = if lacking then Some (record { reason = reason; rank = rank; line = call.line; other = None }) else None

-- the fault of a call of this kind, after others of its rank, that some member does not make
abbrev pub missing_of : Kind → List RankCalls → Rank → List Call → Call → Option MatchFault
missing_of kind ranks rank before call =
    option_and_then (λ name. fault_if (lacks kind ranks name (count_of kind name before)) (missing_reason kind) rank call) (named kind call.what)

-- the fault of a call that some member does not make, and that moves no data
abbrev pub missing_at : List RankCalls → Rank → List Call → Call → Option MatchFault
missing_at ranks rank before call =
    option_or (option_or (missing_of Collective ranks rank before call) (missing_of Free ranks rank before call)) (missing_of Fence ranks rank before call)

-- the faults of all such calls, in their order
abbrev pub missing_calls : List RankCalls → List MatchFault
missing_calls ranks = walked_all (missing_at ranks) ranks

-- the faults of the calls that move data and that some member does not make, in their order
abbrev pub missing_data : List RankCalls → List MatchFault
missing_data ranks = walked_all (missing_of Moving ranks) ranks
