-- The lists beside accesses: calls that make stores and updates visible, and the epochs in which accesses lie
-- (MPI 4.0, "One-Sided Communications").
use Rattle.std.specs.Prelude.{◌<◌, ◌^◌, ◌==◌, ◌&&◌, ℕ, List, [], ◌∷◌, ◌++◌, Bool, All, unwrap_or, if◌then◌else◌}
use Rattle.std.specs.Map.{lookup}
use Rattle.std.specs.List.Sorted.{IsStrictlyIncreasing}
use Rattle.rma_base.specs.declared.rank.Rank.{Rank}
use Rattle.rma_window.specs.declared.window_id.WindowId.{WindowId}
use Rattle.rma_rules.specs.declared.span.Owner.{Owner}
use Rattle.rma_rules.specs.declared.span.Exposure.{Exposure}
use Rattle.rma_rules.specs.declared.span.LockSpan.{LockSpan}
use Rattle.rma_rules.specs.declared.span.Post.{Post}

-- of each rank and window the numbers of the calls that publish the rank's stores, and of those that make updates visible to
-- it; the exposures, the lock epochs, and the posts
pub record Spans : Type 0 where
  pub publishing : List (Owner × List ℕ)
  pub visible : List (Owner × List ℕ)
  pub exposures : List Exposure
  pub locks : List LockSpan
  pub posts : List Post

-- whether a list is that of this rank and window
abbrev pub is_owned : Rank → WindowId → Owner → Bool
is_owned rank window owner = rank.0 == owner.rank.0 && window.0 == owner.window.0

-- the calls of a rank and a window
abbrev pub calls_under : List (Owner × List ℕ) → Rank → WindowId → List ℕ
calls_under lists rank window = unwrap_or (lookup (is_owned rank window) lists) []

-- the lists with one more call of a rank and a window
abbrev pub with_call : List (Owner × List ℕ) → Rank → WindowId → ℕ → List (Owner × List ℕ)
with_call [] rank window call = (record { rank = rank; window = window }, call ∷ []) ∷ []
with_call (e ∷ es) rank window call = if is_owned rank window e.0 then (e.0, e.1 ++ call ∷ []) ∷ es else e ∷ with_call es rank window call

-- the calls that publish the stores of a rank to a window
abbrev pub publishing_of : Spans → Rank → WindowId → List ℕ
publishing_of spans rank window = calls_under spans.publishing rank window

-- the calls that make the updates through a window visible to a rank
abbrev pub visible_of : Spans → Rank → WindowId → List ℕ
visible_of spans rank window = calls_under spans.visible rank window

-- the numbers of a list ascend, and twice each fits 32 bits
pub record AreCalls (calls : List ℕ) : Type 0 where
  pub ascend : IsStrictlyIncreasing calls
  pub small : All (λ call. call < 2 ^ 31) calls

-- each list is such
abbrev pub AreLists : List (Owner × List ℕ) → Type 0
AreLists lists = All (λ e. AreCalls e.1) lists
