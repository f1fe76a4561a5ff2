-- Names on which each member makes as many calls as any rank does.
use Rattle.std.proofs.Common.{◌≡◌, ℕ, Bool, true, false, cond, List, [], ◌∷◌, nat_le, nat_eq, ◌&&◌, Some, unwrap_or, refl, sym, ap, subst, ◌∙◌, arith}
use Rattle.std.specs.List.{list_all}
use Rattle.std.specs.Map.{lookup}
use Rattle.std.specs.Cmp.Lexicographic.{pointwise, same_text}
use Rattle.std.proofs.lemmas.Bool.Decides.{nat_tests}
use Rattle.rma_call.specs.Call.{RankCalls}
use Rattle.rma_round.specs.declared.kind.Kind.{Kind}
use Rattle.rma_difference.specs.declared.call_count.CallCounts.{CallCounts}
use Rattle.rma_agreement.specs.Collective.{made_on}
use Rattle.rma_member.specs.Member.{members}
use Rattle.rma_difference.specs.declared.round.NameRounds.{NameRounds}
use Rattle.rma_difference.specs.inside.CallCount.{AreCallCounts}
use Rattle.rma_difference.specs.inside.Round.{no_rounds, rounds_of}
use Rattle.rma_agreement.specs.Balance.{AreBalanced}

-- whatever numbers are kept there, the members of the name make as many calls as any rank does
abbrev pub IsBalancedIn : Kind → List RankCalls → List ℕ → CallCounts → Type 0
IsBalancedIn kind ranks name t = (f : ℕ → ℕ) (index : ℕ) → AreCallCounts f index t → list_all (λ m. nat_le t.largest (f m)) (members kind ranks name) ≡ true

-- the same of all that is kept
abbrev pub AllBalanced : Kind → List RankCalls → List (List ℕ × NameRounds) → Type 0
AllBalanced kind ranks [] = Unit {0}
AllBalanced kind ranks (e ∷ es) = IsBalancedIn kind ranks e.0 e.1.call_counts × AllBalanced kind ranks es

zero_le : (f : ℕ → ℕ) (ms : List ℕ) → list_all (λ m. nat_le 0 (f m)) ms ≡ true
zero_le f [] = refl
zero_le f (m ∷ ms) =
    let le : nat_le 0 (f m) ≡ true = grind (arith, nat_tests) in
    ap (λ b. b && list_all (λ k. nat_le 0 (f k)) ms) le ∙ zero_le f ms

module _ (kind : Kind) (ranks : List RankCalls) where
  balanced_found : (name : List ℕ) (entries : List (List ℕ × NameRounds)) → AllBalanced kind ranks entries → IsBalancedIn kind ranks name (rounds_of entries name).call_counts
  balanced_found name [] all = λ f index is. zero_le f (members kind ranks name)
  balanced_found name (e ∷ es) all = by (pointwise nat_eq name e.0) refl (balanced_found name es all.1)
    where
      by : (b : Bool) → pointwise nat_eq name e.0 ≡ b → IsBalancedIn kind ranks name (rounds_of es name).call_counts →
          IsBalancedIn kind ranks name (unwrap_or (cond b (Some e.1) (lookup (pointwise nat_eq name) es)) no_rounds).call_counts
      by true same rest = subst (λ n. IsBalancedIn kind ranks n e.1.call_counts) (sym (same_text name e.0 (sym same))) all.0
      by false same rest = rest

  pub AreBalanced_found : (index : ℕ) (entries : List (List ℕ × NameRounds)) → AllBalanced kind ranks entries →
      ((name : List ℕ) → AreCallCounts (made_on kind ranks name) index (rounds_of entries name).call_counts) → AreBalanced kind ranks
  AreBalanced_found index entries all are = λ name.
      ((rounds_of entries name).call_counts.largest, (are name).largest_is, balanced_found name entries all (made_on kind ranks name) index (are name))
