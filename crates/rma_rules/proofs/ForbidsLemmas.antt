-- What forbids two accesses, by whether each is of a target; and the laws of it.
use Rattle.std.proofs.Common.{◌≡◌, ◌⊎◌, ◌↔◌, true, false, not, List, Option, Some, None, inl, inr, refl, sym, ap, ◌∙◌}
use Rattle.rma_window.specs.Windows.{Window}
use Rattle.rma_rules.specs.declared.kind.Kind.{Kind}
use Rattle.rma_rules.specs.declared.rule.Rule.{Rule}
use Rattle.rma_rules.specs.Access.{Access}
use Rattle.rma_rules.specs.Kind.{is_own, is_target}
use Rattle.rma_rules.specs.Conflict.{ConflictAtCaller, ConflictAtTarget, ConflictsWithTarget, Forbids, OfCallerAndTarget}
use Rattle.rma_rules.proofs.ConflictLemmas.{at_target_turned, caller_turned, own_not_target, tell_caller, unique_at, unique_with}

-- what is known of each answer, if no rule holds
pub none_from : (P : Rule → Type 0) (found : Option Rule) → ((r : Rule) → (found ≡ Some r) ↔ P r) → (found ≡ None) ↔ ((r : Rule) → P r → ⊥)
none_from P None told = (λ is r holds. let some = (told r).1 holds in cc, λ never. refl)
none_from P (Some rule) told = (λ is. absurd (cc), λ never. absurd (never rule ((told rule).0 refl)))

pub own_is : (k : Kind) → is_target k ≡ false → is_own k ≡ true
own_is k is = ap not is

module _ (windows : List Window) (a b : Access) (one : a.memory ≡ b.memory) (r : Rule) where
  pub of_targets : is_target a.kind ≡ true → is_target b.kind ≡ true → ConflictAtTarget windows a b r ↔ Forbids windows a b r
  unfolding Forbids
  of_targets first second = (λ row. (one, inr (inr (inl (first, second, row)))), λ all. by all.1)
    where
      by : OfCallerAndTarget windows a b r ⊎ (OfCallerAndTarget windows b a r
          ⊎ (((is_target a.kind ≡ true) × (is_target b.kind ≡ true) × ConflictAtTarget windows a b r) ⊎ ((is_own a.kind ≡ true) × (is_own b.kind ≡ true) × ConflictAtCaller a b r)))
          → ConflictAtTarget windows a b r
      by (inl row) = absurd (own_not_target a.kind row.0 first)
      by (inr (inl row)) = absurd (own_not_target b.kind row.0 second)
      by (inr (inr (inl row))) = row.2
      by (inr (inr (inr row))) = absurd (own_not_target a.kind row.0 first)

  pub of_own_and_target : is_own a.kind ≡ true → is_target b.kind ≡ true → ConflictsWithTarget windows a b r ↔ Forbids windows a b r
  unfolding Forbids
  of_own_and_target first second = (λ row. (one, inl (first, second, row)), λ all. by all.1)
    where
      by : OfCallerAndTarget windows a b r ⊎ (OfCallerAndTarget windows b a r
          ⊎ (((is_target a.kind ≡ true) × (is_target b.kind ≡ true) × ConflictAtTarget windows a b r) ⊎ ((is_own a.kind ≡ true) × (is_own b.kind ≡ true) × ConflictAtCaller a b r)))
          → ConflictsWithTarget windows a b r
      by (inl row) = row.2
      by (inr (inl row)) = absurd (own_not_target b.kind row.0 second)
      by (inr (inr (inl row))) = absurd (own_not_target a.kind first row.0)
      by (inr (inr (inr row))) = absurd (own_not_target b.kind row.1 second)

  pub of_target_and_own : is_target a.kind ≡ true → is_own b.kind ≡ true → ConflictsWithTarget windows b a r ↔ Forbids windows a b r
  unfolding Forbids
  of_target_and_own first second = (λ row. (one, inr (inl (second, first, row))), λ all. by all.1)
    where
      by : OfCallerAndTarget windows a b r ⊎ (OfCallerAndTarget windows b a r
          ⊎ (((is_target a.kind ≡ true) × (is_target b.kind ≡ true) × ConflictAtTarget windows a b r) ⊎ ((is_own a.kind ≡ true) × (is_own b.kind ≡ true) × ConflictAtCaller a b r)))
          → ConflictsWithTarget windows b a r
      by (inl row) = absurd (own_not_target a.kind row.0 first)
      by (inr (inl row)) = row.2
      by (inr (inr (inl row))) = absurd (own_not_target b.kind second row.1)
      by (inr (inr (inr row))) = absurd (own_not_target a.kind row.0 first)

  pub of_own : is_own a.kind ≡ true → is_own b.kind ≡ true → ConflictAtCaller a b r ↔ Forbids windows a b r
  unfolding Forbids
  of_own first second = (λ row. (one, inr (inr (inr (first, second, row)))), λ all. by all.1)
    where
      by : OfCallerAndTarget windows a b r ⊎ (OfCallerAndTarget windows b a r
          ⊎ (((is_target a.kind ≡ true) × (is_target b.kind ≡ true) × ConflictAtTarget windows a b r) ⊎ ((is_own a.kind ≡ true) × (is_own b.kind ≡ true) × ConflictAtCaller a b r)))
          → ConflictAtCaller a b r
      by (inl row) = absurd (own_not_target b.kind second row.1)
      by (inr (inl row)) = absurd (own_not_target a.kind first row.1)
      by (inr (inr (inl row))) = absurd (own_not_target a.kind first row.0)
      by (inr (inr (inr row))) = row.2

pub one_memory : (windows : List Window) (a b : Access) (r : Rule) → Forbids windows a b r → a.memory ≡ b.memory
unfolding Forbids
one_memory windows a b r all = all.0

-- ---- laws

caller_unique : (a b : Access) (r s : Rule) → ConflictAtCaller a b r → ConflictAtCaller a b s → r ≡ s
caller_unique a b r s one two = (tell_caller a b r one).0 ∙ sym (tell_caller a b s two).0

pub forbids_once : (windows : List Window) (a b : Access) (r s : Rule) → Forbids windows a b r → Forbids windows a b s → r ≡ s
unfolding Forbids
forbids_once windows a b r s one two = by one.1 two.1
  where
    by : OfCallerAndTarget windows a b r ⊎ (OfCallerAndTarget windows b a r
        ⊎ (((is_target a.kind ≡ true) × (is_target b.kind ≡ true) × ConflictAtTarget windows a b r) ⊎ ((is_own a.kind ≡ true) × (is_own b.kind ≡ true) × ConflictAtCaller a b r)))
        → OfCallerAndTarget windows a b s ⊎ (OfCallerAndTarget windows b a s
        ⊎ (((is_target a.kind ≡ true) × (is_target b.kind ≡ true) × ConflictAtTarget windows a b s) ⊎ ((is_own a.kind ≡ true) × (is_own b.kind ≡ true) × ConflictAtCaller a b s)))
        → r ≡ s
    by (inl p) (inl q) = unique_with windows a b r s p.2 q.2
    by (inl p) (inr (inl q)) = absurd (own_not_target a.kind p.0 q.1)
    by (inl p) (inr (inr (inl q))) = absurd (own_not_target a.kind p.0 q.0)
    by (inl p) (inr (inr (inr q))) = absurd (own_not_target b.kind q.1 p.1)
    by (inr (inl p)) (inl q) = absurd (own_not_target a.kind q.0 p.1)
    by (inr (inl p)) (inr (inl q)) = unique_with windows b a r s p.2 q.2
    by (inr (inl p)) (inr (inr (inl q))) = absurd (own_not_target b.kind p.0 q.1)
    by (inr (inl p)) (inr (inr (inr q))) = absurd (own_not_target a.kind q.0 p.1)
    by (inr (inr (inl p))) (inl q) = absurd (own_not_target a.kind q.0 p.0)
    by (inr (inr (inl p))) (inr (inl q)) = absurd (own_not_target b.kind q.0 p.1)
    by (inr (inr (inl p))) (inr (inr (inl q))) = unique_at windows a b r s p.2 q.2
    by (inr (inr (inl p))) (inr (inr (inr q))) = absurd (own_not_target a.kind q.0 p.0)
    by (inr (inr (inr p))) (inl q) = absurd (own_not_target b.kind p.1 q.1)
    by (inr (inr (inr p))) (inr (inl q)) = absurd (own_not_target a.kind p.0 q.1)
    by (inr (inr (inr p))) (inr (inr (inl q))) = absurd (own_not_target a.kind p.0 q.0)
    by (inr (inr (inr p))) (inr (inr (inr q))) = caller_unique a b r s p.2 q.2

pub forbids_turned : (windows : List Window) (a b : Access) (r : Rule) → Forbids windows a b r → Forbids windows b a r
unfolding Forbids
forbids_turned windows a b r all = (sym all.0, by all.1)
  where
    by : OfCallerAndTarget windows a b r ⊎ (OfCallerAndTarget windows b a r
        ⊎ (((is_target a.kind ≡ true) × (is_target b.kind ≡ true) × ConflictAtTarget windows a b r) ⊎ ((is_own a.kind ≡ true) × (is_own b.kind ≡ true) × ConflictAtCaller a b r)))
        → OfCallerAndTarget windows b a r ⊎ (OfCallerAndTarget windows a b r
        ⊎ (((is_target b.kind ≡ true) × (is_target a.kind ≡ true) × ConflictAtTarget windows b a r) ⊎ ((is_own b.kind ≡ true) × (is_own a.kind ≡ true) × ConflictAtCaller b a r)))
    by (inl p) = inr (inl p)
    by (inr (inl p)) = inl p
    by (inr (inr (inl p))) = inr (inr (inl (p.1, p.0, at_target_turned windows a b r p.2)))
    by (inr (inr (inr p))) = inr (inr (inr (p.1, p.0, caller_turned a b r p.2)))
