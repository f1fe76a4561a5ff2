use Rattle.std.proofs.Common.{◌≡◌, ◌≤◌, ℕ, [], take}
use Rattle.rma_span.specs.Span.{Origin}
use Rattle.rma_span.specs.inside.Origin.{IsOf, IsOnWay}
use Rattle.rma_span.specs.inside.Stored.{AreSpans}
use Rattle.rma_span.proofs.walk.all_spans.Given as goal

-- the calls before have their spans
abbrev pub invariant-loop-number : goal.invariant-loop-number
invariant-loop-number l = (own : Origin) → IsOf own l.from → own.sound ≡ take l.sound l.calls.calls → IsOnWay own 0 l.initial.walk
    → AreSpans own [] l.initial.walk.own_lists l.initial.walk.target_lists []
    → ((before : ℕ) × (before ≤ l.number) × IsOnWay own before l.walk) × AreSpans own (take l.number own.sound) l.walk.own_lists l.walk.target_lists l.kept.items
