-- Calls of which each returns only after all calls of its round are entered (MPI 4.0, "Collective Communication" and "One-Sided
-- Communications").
use Rattle.std.specs.Prelude.{◌≡◌, ◌≤◌, ℕ, ◌==◌, ◌⊎◌, ◌↔◌, List, [], ◌∷◌, Bool, true, false, not, nat_le, Option, Some, option_map, slice_get, length, Contains, if◌then◌else◌}
use Rattle.std.specs.List.{filter_map, flat_map}
use Rattle.std.specs.Option.{option_map_or}
use Rattle.rma_base.specs.declared.rank.Rank.{Rank}
use Rattle.rma_call.specs.Call.{Call, RankCalls}
use Rattle.rma_call.specs.declared.what.What.{What}
use Rattle.rma_call.specs.declared.what.What.TheVariants.{Sync}
use Rattle.rma_call.specs.declared.what.SyncCall.TheVariants as sync
use Rattle.rma_call.specs.declared.frame.FrameCall.TheVariants as frame
use Rattle.rma_call.specs.declared.window.WindowCall.TheVariants as window_call
use Rattle.rma_call.specs.declared.epoch.EpochCall.TheVariants as epoch
use Rattle.rma_call.specs.declared.moving.MovingCall.TheVariants.{Allreduce, Allgather, Alltoall}
use Rattle.rma_link.specs.declared.meet.Member.{Member}
use Rattle.rma_link.specs.declared.meet.Meet.{Meet}
use Rattle.rma_run.specs.Run.{calls_of, by_rank}
use Rattle.rma_round.specs.declared.kind.Kind.{Kind}
use Rattle.rma_round.specs.declared.kind.Kind.TheVariants.{Collective, Free, Fence, Moving}
use Rattle.rma_round.specs.Kind.{named}
use Rattle.rma_round.specs.Round.{numbers, place_in}

-- whether a call returns only after all calls of its round are entered: a barrier, a call that frees a window, a fence without
-- `noprecede`, and a call that moves any bytes from all to all; a creation of a window does not
abbrev pub waits_for_all : What → Bool
waits_for_all (Sync (sync.Frame (frame.Barrier comm))) = true
waits_for_all (Sync (sync.Window (window_call.Free window))) = true
waits_for_all (Sync (sync.Epoch (epoch.Fence window assertions))) = not assertions.noprecede
waits_for_all (Sync (sync.Moving (Allreduce bytes comm))) = not (bytes == 0)
waits_for_all (Sync (sync.Moving (Allgather bytes comm))) = not (bytes == 0)
waits_for_all (Sync (sync.Moving (Alltoall bytes comm))) = not (bytes == 0)
waits_for_all _ = false

-- the call of a rank in the round of this number of a kind on a name
abbrev pub member_at : Kind → List ℕ → ℕ → RankCalls → Option Member
member_at kind name place own = option_map (λ call. record { rank = own.rank; call = call }) (slice_get (numbers kind name own.calls) place)

-- the calls of the round of this number of a kind on a name, by rank: one of each rank that makes so many
abbrev pub round_at : Kind → List ℕ → List RankCalls → ℕ → List Member
round_at kind name ranks place = filter_map (member_at kind name place) ranks

-- the meet of these calls, where there are two or more
abbrev pub meet_of : List Member → List Meet
meet_of calls = if nat_le 2 (length calls) then record { calls = calls } ∷ [] else []

-- the meet of the round of the call of this number of a rank, where it is of this kind
abbrev pub meets_on : List RankCalls → ℕ → ℕ → What → Kind → List Meet
meets_on ranks rank number what kind =
    option_map_or (λ name. option_map_or (λ place. meet_of (round_at kind name ranks place)) (place_in kind name (calls_of ranks rank) number) []) (named kind what) []

-- the kinds
abbrev pub kinds : List Kind
kinds = Collective ∷ Free ∷ Fence ∷ Moving ∷ []

-- the meet of the round of a call, if that waits for all
abbrev pub meets_at : List RankCalls → Rank → ℕ → Call → List Meet
meets_at ranks rank number call = if waits_for_all call.what then flat_map (meets_on ranks rank.0 number call.what) kinds else []

-- the meets of a run, each as often as it has calls that wait for all
abbrev pub round_meets : List RankCalls → List Meet
round_meets ranks = by_rank (meets_at ranks) ranks

-- a meet of a run: one of its calls waits for all, and it has the calls of the round of that one, two or more
pub record IsRoundMeet (ranks : List RankCalls) (meet : Meet) : Type 0 where
  pub own : RankCalls
  pub number : ℕ
  pub call : Call
  pub kind : Kind
  pub name : List ℕ
  pub place : ℕ
  pub of_run : Contains ranks own
  pub there : slice_get own.calls number ≡ Some call
  pub waits : waits_for_all call.what ≡ true
  pub is_named : named kind call.what ≡ Some name
  pub is_at : place_in kind name (calls_of ranks own.rank.0) number ≡ Some place
  pub several : 2 ≤ length meet.calls
  pub calls_are : meet.calls ≡ round_at kind name ranks place

-- one list of meets has exactly those of another, and more
abbrev pub HasMeets : List Meet → List Meet → List Meet → Type 0
HasMeets all before more = (meet : Meet) → Contains all meet ↔ (Contains before meet ⊎ Contains more meet)
