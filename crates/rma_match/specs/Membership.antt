-- Who takes part in a call, by what its rank has declared (MPI 4.0, "Groups, Contexts, Communicators, and Caching" and
-- "One-Sided Communications").
use Rattle.std.specs.Prelude.{ℕ, List, [], ◌∷◌, Option, Some, None, nat_eq, codes, unwrap_or, if◌then◌else◌}
use Rattle.std.specs.List.{range_with_len}
use Rattle.std.specs.Option.{option_and_then, option_map_or, option_or}
use Rattle.std.specs.Cmp.Lexicographic.{pointwise}
use Rattle.rma_call.specs.Call.{Call}
use Rattle.rma_call.specs.declared.what.What.{What}
use Rattle.rma_call.specs.declared.what.What.TheVariants.{Sync}
use Rattle.rma_call.specs.declared.what.SyncCall.TheVariants.{Frame, Window}
use Rattle.rma_call.specs.declared.frame.FrameCall.TheVariants.{Comm}
use Rattle.rma_call.specs.declared.window.WindowCall.TheVariants.{Create}
use Rattle.rma_round.specs.Kind.{comm_of, moved_on, freed, fenced}

-- the communicator that a call declares, and its ranks
abbrev pub declared : What → Option (List ℕ × List ℕ)
declared (Sync (Frame (Comm comm ranks))) = Some (comm, ranks)
declared _ = None

-- the window that a call creates, and its communicator
abbrev pub created_on : What → Option (List ℕ × List ℕ)
created_on (Sync (Window (Create window comm base size unit model ops dynamic))) = Some (window, comm)
created_on _ = None

-- what a call that states this states of a name
abbrev pub stated_of : List ℕ → Option (List ℕ × List ℕ) → Option (List ℕ)
stated_of name stated = option_and_then (λ s. if pointwise nat_eq s.0 name then Some s.1 else None) stated

-- what the first of a rank's calls states of a name that states any of it
abbrev pub first_stated : (What → Option (List ℕ × List ℕ)) → List ℕ → List Call → Option (List ℕ)
first_stated states name [] = None
first_stated states name (call ∷ calls) = option_or (stated_of name (states call.what)) (first_stated states name calls)

-- the ranks of a run of so many
abbrev pub everyone : ℕ → List ℕ
everyone ranks = range_with_len 0 ranks

-- the group of a communicator: all ranks for `world`, which is never declared, and else those that the rank has declared
abbrev pub group_of : ℕ → List Call → List ℕ → List ℕ
group_of ranks own comm = if pointwise nat_eq comm (codes "world") then everyone ranks else unwrap_or (first_stated declared comm own) []

-- the window of a call that frees one, or of a fence
abbrev pub window_for : What → Option (List ℕ)
window_for what = option_or (freed what) (fenced what)

-- the communicator whose members take part in a call: its own, or that on which the rank has created its window
abbrev pub comm_for : List Call → What → Option (List ℕ)
comm_for own what =
    option_or (comm_of what) (option_or (moved_on what) (option_and_then (λ window. first_stated created_on window own) (window_for what)))

-- the ranks that take part in a call of a rank which has made these calls
abbrev pub members : ℕ → List Call → What → List ℕ
members ranks own what = option_map_or (group_of ranks own) (comm_for own what) []
