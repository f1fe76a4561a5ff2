-- Names on which no member makes fewer calls than another rank (MPI 4.0, "Collective Communication" and "One-Sided
-- Communications").
use Rattle.std.specs.Prelude.{◌≡◌, ℕ, ◌≤◌, List, true, nat_le}
use Rattle.std.specs.List.{list_all}
use Rattle.rma_call.specs.Call.{RankCalls}
use Rattle.rma_round.specs.declared.kind.Kind.{Kind}
use Rattle.rma_agreement.specs.Collective.{made}
use Rattle.rma_member.specs.Member.{members}

-- some number is the most calls of the kind that a rank makes on the name, and each member makes as many
abbrev pub IsBalanced : Kind → List RankCalls → List ℕ → Type 0
IsBalanced kind ranks name =
    (most : ℕ) × ((m : ℕ) → made kind ranks m name ≤ most) × (list_all (λ m. nat_le most (made kind ranks m name)) (members kind ranks name) ≡ true)

-- on no name does a member make fewer calls of the kind than another rank
abbrev pub AreBalanced : Kind → List RankCalls → Type 0
AreBalanced kind ranks = (name : List ℕ) → IsBalanced kind ranks name
