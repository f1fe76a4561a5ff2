-- What is kept of the calls of a rank that complete operations.
use Rattle.std.specs.Prelude.{◌≡◌, ℕ, ◌+◌, ◌-◌, ◌&&◌, List, [], ◌∷◌, Bool, nat_eq, nat_lt, find, Option, Some, None, slice_get, if◌then◌else◌}
use Rattle.std.specs.List.Sorted.{IsNonDecreasing}
use Rattle.std.specs.Map.{lookup}
use Rattle.std.specs.Option.{option_and_then, option_map_or, option_or}
use Rattle.rma_base.specs.declared.rank.Rank.{Rank}
use Rattle.rma_call.specs.Call.{Call}
use Rattle.rma_window.specs.Windows.{Window}
use Rattle.rma_completion.specs.declared.completing.Completing.{Completing}
use Rattle.rma_completion.specs.declared.completing.Completion.{Completion}
use Rattle.rma_completion.specs.declared.completing.Completion.TheVariants.{Local, Remote}
use Rattle.rma_completion.specs.declared.numbers.Numbers.{Numbers}
use Rattle.rma_completion.specs.declared.window_completions.WindowCompletions.{WindowCompletions}
use Rattle.rma_completion.specs.declared.completions.Completions.{Completions}
use Rattle.rma_completion.specs.Completing.{completes, same_target, same_completion}
use Rattle.rma_completion.specs.Done.{wait_of}

-- the numbers of those of some calls that meet a test; the first of the calls has the number `from`
abbrev pub numbers_from : (Call → Bool) → ℕ → List Call → List ℕ
numbers_from test from [] = []
numbers_from test from (call ∷ calls) = if test call then from ∷ numbers_from test (from + 1) calls else numbers_from test (from + 1) calls

-- the numbers of those of a rank's calls that meet a test
abbrev pub numbers : (Call → Bool) → List Call → List ℕ
numbers test calls = numbers_from test 0 calls

-- the first of some numbers that is greater than another
abbrev pub first_above : ℕ → List ℕ → Option ℕ
first_above number ns = find (λ n. nat_lt number n) ns

-- the numbers that are kept of calls that complete so far
abbrev pub numbers_in : Numbers → Completion → List ℕ
numbers_in own Remote = own.remote
numbers_in own Local = own.local

-- what is kept of a window for one target, or for all
abbrev pub kept_for : WindowCompletions → Option Rank → Option Numbers
kept_for own None = Some own.all
kept_for own (Some target) = lookup (nat_eq target.0) own.targets.entries

-- the numbers that are kept, if any are
abbrev pub listed : Option Numbers → Completion → List ℕ
listed own completion = option_map_or (λ own. numbers_in own completion) own []

-- the numbers that are kept of a window
abbrev pub listed_for : WindowCompletions → Option Rank → Completion → List ℕ
listed_for own target completion = listed (kept_for own target) completion

-- all numbers that are kept of a window ascend, list by list
abbrev pub AreAscending : WindowCompletions → Type 0
AreAscending own = (target : Option Rank) (completion : Completion) → IsNonDecreasing (listed_for own target completion)

-- the numbers that are kept of the window of a number
abbrev pub listed_on : List (ℕ × WindowCompletions) → ℕ → Option Rank → Completion → List ℕ
listed_on windows id target completion = option_map_or (λ own. listed_for own target completion) (lookup (nat_eq id) windows) []

-- a list with this number behind it, where it is that of calls which complete so
abbrev pub with_number : Completing → ℕ → Option Rank → Completion → List ℕ
with_number by number target completion = if same_target by.target target && same_completion by.completion completion then number ∷ [] else []

-- the number that is kept at a place as one more, with 0 for none and none behind the end
abbrev pub wait_at : List ℕ → ℕ → Option ℕ
wait_at waits request = option_and_then (λ kept. if nat_eq kept 0 then None else Some (kept - 1)) (slice_get waits request)

-- the same once a wait of this number has come for a request: the first one is kept
abbrev pub wait_with : List ℕ → Option ℕ → ℕ → ℕ → Option ℕ
wait_with waits None number other = wait_at waits other
wait_with waits (Some request) number other = option_or (wait_at waits other) (if nat_eq request other then Some number else None)

-- what is kept represents what these calls of a rank complete on the windows of this table
pub record Represents (windows : List Window) (calls : List Call) (own : Completions) : Type 0 where
  pub numbers_are : (id : ℕ) (target : Option Rank) (completion : Completion) →
      listed_on own.windows.entries id target completion ≡ numbers (completes windows (record { 0 = id }) target completion) calls
  pub waits_are : (request : ℕ) → wait_at own.waits.items request ≡ wait_of calls request
