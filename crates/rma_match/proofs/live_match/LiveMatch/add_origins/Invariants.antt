use Rattle.std.proofs.Common.{◌≡◌, ℕ, List, map, take}
use Rattle.rma_call.specs.Call.{Call}
use Rattle.rma_match.specs.Source.{complete_entry}
use Rattle.rma_match.specs.inside.Awaited.{with_more}
use Rattle.rma_match.specs.inside.Live.{Represents}
use Rattle.rma_match.proofs.live_match.LiveMatch.add_origins.Given as goal

-- the entries of the origins before are there
abbrev pub invariant-loop-origin : goal.invariant-loop-origin
invariant-loop-origin l = (ranks : ℕ) (calls : ℕ → List Call) → Represents ranks calls l.self →
    l.awaited ≡ with_more l.initial.awaited (map (complete_entry calls l.rank.0 l.post l.window) (take l.origin-index l.origin-items))
