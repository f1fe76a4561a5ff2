use Rattle.std.proofs.Common.{◌≡◌, ℕ, List, Some, map, take, slice_get}
use Rattle.rma_call.specs.Call.{Call, call_of}
use Rattle.rma_match.specs.Source.{others, round_entry}
use Rattle.rma_match.specs.inside.Awaited.{with_more}
use Rattle.rma_match.specs.inside.Live.{Represents}
use Rattle.rma_match.proofs.live_match.LiveMatch.add_others.Given as goal

-- the entries of the members before are there
abbrev pub invariant-loop-member : goal.invariant-loop-member
invariant-loop-member l = (ranks : ℕ) (calls : ℕ → List Call) → Represents ranks calls l.self → slice_get (calls l.rank.0) l.number ≡ Some (call_of l.call) →
    l.awaited ≡ with_more l.initial.awaited (map (round_entry calls l.rank.0 l.number) (others l.rank.0 (take l.member-index l.member-items)))
