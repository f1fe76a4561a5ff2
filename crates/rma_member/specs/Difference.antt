-- Calls that the calls of other ranks do not match (MPI 4.0, "Collective Communication", "One-Sided Communications",
-- and "Groups, Contexts, Communicators, and Caching").
use Rattle.std.specs.Prelude.{List, Bool, Option, Some, None, if◌then◌else◌}
use Rattle.std.specs.List.{filter_map}
use Rattle.std.specs.Option.{option_and_then}
use Rattle.rma_base.specs.declared.match_reason.MatchReason.{MatchReason}
use Rattle.rma_call.specs.declared.match_fault.MatchFault.{MatchFault}
use Rattle.rma_member.specs.declared.declaration.Declaration.{Declaration}
use Rattle.rma_member.specs.Declaration.{first_of}

-- the fault of a call that differs from another, which is named
abbrev pub differs_from : {T : Type 0} → MatchReason → Declaration T → Declaration T → MatchFault
differs_from reason own first = record { reason = reason; rank = own.rank; line = own.line; other = Some (first.rank, first.line) }

-- the fault of a declaration that does not agree with the first one of the same name
abbrev pub difference : {T : Type 0} → (T → T → Bool) → MatchReason → List (Declaration T) → Declaration T → Option MatchFault
difference agrees reason declarations own =
    option_and_then (λ first. if agrees first.attributes own.attributes then None else Some (differs_from reason own first)) (first_of declarations own.name)

-- the faults of all such calls, in their order
abbrev pub differences : {T : Type 0} → (T → T → Bool) → MatchReason → List (Declaration T) → List MatchFault
differences agrees reason declarations = filter_map (difference agrees reason declarations) declarations
