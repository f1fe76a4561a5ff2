-- What is kept of the numbers of calls of a kind.
use Rattle.std.specs.Prelude.{◌≡◌, ℕ, List, Option, Some, nat_eq}
use Rattle.std.specs.Map.{lookup}
use Rattle.std.specs.Cmp.Lexicographic.{pointwise}
use Rattle.rma_call.specs.Call.{RankCalls}
use Rattle.rma_round.specs.declared.kind.Kind.{Kind}
use Rattle.rma_round.specs.declared.kind.Kind.TheVariants.{Collective, Free, Fence, Moving}
use Rattle.rma_missing.specs.declared.missing.MissingOfKind.{MissingOfKind}
use Rattle.rma_missing.specs.declared.missing.MissingCalls.{MissingCalls}
use Rattle.rma_member.specs.inside.Member.{AreMembers}
use Rattle.rma_missing.specs.inside.ByRank.{is_reached, AreCountsByRank}
use Rattle.rma_missing.specs.Missing.{lacks}

-- the fewest calls on a name that a member makes decide which numbers some member lacks
abbrev pub Tells : Kind → List RankCalls → List ℕ → Option ℕ → Type 0
Tells kind ranks name fewest = (number : ℕ) → lacks kind ranks name number ≡ is_reached fewest number

-- the numbers of a kind in this run, and the fewest calls on the names that were asked for
pub record IsMissingOfKind (kind : Kind) (ranks : List RankCalls) (w : MissingOfKind) : Type 0 where
  pub kind_is : w.kind ≡ kind
  pub counts_are : AreCountsByRank kind ranks w.counts_by_rank
  pub known_are : (name : List ℕ) (fewest : Option ℕ) → lookup (pointwise nat_eq name) w.known.entries ≡ Some fewest → Tells kind ranks name fewest

-- what is kept is that of each kind in this run
pub record AreMissingCalls (ranks : List RankCalls) (w : MissingCalls) : Type 0 where
  pub members_are : AreMembers ranks w.members
  pub collectives_are : IsMissingOfKind Collective ranks w.collectives
  pub frees_are : IsMissingOfKind Free ranks w.frees
  pub fences_are : IsMissingOfKind Fence ranks w.fences
  pub movings_are : IsMissingOfKind Moving ranks w.movings
