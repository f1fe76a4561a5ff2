-- How the spans of a rank are kept.
use Rattle.std.specs.Prelude.{◌≡◌, ℕ, List, All, map, Option, Some, None, slice_get}
use Rattle.rma_call.specs.Call.{Call}
use Rattle.rma_run.specs.Run.{by_number}
use Rattle.rma_rules.specs.declared.lock.LockKey.{LockKey}
use Rattle.rma_touch.specs.Touches.{Span}
use Rattle.rma_span.specs.declared.spans.OwnSpan.{OwnSpan}
use Rattle.rma_span.specs.declared.spans.TargetSpan.{TargetSpan}
use Rattle.rma_span.specs.declared.spans.CallSpans.{CallSpans}
use Rattle.rma_span.specs.declared.rank_spans.RankSpans.{RankSpans}
use Rattle.rma_span.specs.Span.{Origin, own_span_of, spanned, target_span_of}

-- a span of memory of the rank itself, with its lock epochs in a table
pub record IsOwn (lists : List (List LockKey)) (span : Option Span) (kept : OwnSpan) : Type 0 where
  pub locks : List LockKey
  pub listed : slice_get lists kept.locks ≡ Some locks
  pub span_is : span ≡ Some (record { opening = None; done = kept.done; locks = locks })

-- a span at a target, with its lock epochs in a table, if there is one
abbrev pub IsAtTarget : List (List LockKey) → Option Span → Option TargetSpan → Type 0
IsAtTarget lists span None = span ≡ None
IsAtTarget lists span (Some kept) =
    (locks : List LockKey) × (slice_get lists kept.locks ≡ Some locks) × (span ≡ Some (record { opening = kept.opening; done = kept.done; locks = locks }))

-- the spans of a call, with their lock epochs in two tables
pub record AreSpansOf (own : Origin) (own_lists target_lists : List (List LockKey)) (kept : CallSpans) : Type 0 where
  pub call : Call
  pub there : slice_get own.sound kept.call ≡ Some call
  pub own_is : IsOwn own_lists (own_span_of own kept.call call call.what) kept.own
  pub target_is : IsAtTarget target_lists (target_span_of own kept.call call.what) kept.target

-- the spans of these calls, the first ones of the rank
pub record AreSpans (own : Origin) (calls : List Call) (own_lists target_lists : List (List LockKey)) (kept : List CallSpans) : Type 0 where
  pub numbers : map (λ spans. spans.call) kept ≡ by_number (spanned own) 0 calls
  pub each : All (AreSpansOf own own_lists target_lists) kept

-- the spans of a call of this number, if it has some
abbrev pub ArePut : Origin → ℕ → Call → List (List LockKey) → List (List LockKey) → Option CallSpans → Type 0
ArePut own number call own_lists target_lists None = own_span_of own number call call.what ≡ None
ArePut own number call own_lists target_lists (Some kept) =
    (kept.call ≡ number) × IsOwn own_lists (own_span_of own number call call.what) kept.own × IsAtTarget target_lists (target_span_of own number call.what) kept.target

-- what is kept is that of all sound calls of the rank
abbrev pub Represents : Origin → RankSpans → Type 0
Represents own kept = AreSpans own own.sound kept.own_lists kept.target_lists kept.spans.items
