-- How many calls of a kind a rank makes on each name.
use Rattle.std.specs.Prelude.{◌≡◌, ℕ, ◌+◌, List, unwrap_or, if◌then◌else◌}
use Rattle.rma_call.specs.Call.{Call}
use Rattle.rma_round.specs.declared.kind.Kind.{Kind}
use Rattle.rma_round.specs.declared.kind.Kind.TheVariants.{Collective, Free, Fence, Moving}
use Rattle.rma_missing.specs.declared.name_count.AllCounts.{AllCounts}
use Rattle.rma_round.specs.Kind.{is_on, count_of}
use Rattle.rma_member.specs.inside.FirstIndex.{index_of}

-- the number under a name, which is 0 where there is none
abbrev pub count_in : List (List ℕ × ℕ) → List ℕ → ℕ
count_in counts name = unwrap_or (index_of counts name) 0

-- the numbers are those of these calls
abbrev pub AreCounts : Kind → List Call → List (List ℕ × ℕ) → Type 0
AreCounts kind calls counts = (name : List ℕ) → count_in counts name ≡ count_of kind name calls

-- the numbers with one more call
abbrev pub IsCounted : Kind → List (List ℕ × ℕ) → List (List ℕ × ℕ) → Call → Type 0
IsCounted kind old new call = (name : List ℕ) → count_in new name ≡ count_in old name + (if is_on kind name call then 1 else 0)

-- the numbers of each kind are those of these calls
pub record AreAllCounts (calls : List Call) (counts : AllCounts) : Type 0 where
  pub collectives_are : AreCounts Collective calls counts.collectives.entries
  pub frees_are : AreCounts Free calls counts.frees.entries
  pub fences_are : AreCounts Fence calls counts.fences.entries
  pub movings_are : AreCounts Moving calls counts.movings.entries
