-- What accesses do, and what follows for two that do the same.
use Rattle.std.proofs.Common.{Bool, true, false, not, ◌≡◌, ℕ, ◌<◌, zero, suc, List, [], ◌∷◌, map, length, get_or, Contains, inl, inr, sym, ap, ap₂, subst, ◌∙◌, arith, refl}
use Rattle.std.proofs.lemmas.List.{get_or-map, length-map}
use Rattle.rma_finding.specs.declared.finding.FoundRace.{FoundRace}
use Rattle.rma_link.specs.declared.links.Links.{Links}
use Rattle.rma_window.specs.Windows.{Window}
use Rattle.rma_rules.specs.declared.lock.LockKey.{LockKey}
use Rattle.rma_rules.specs.declared.rule.Rule.{Rule}
use Rattle.rma_rules.specs.declared.rule.Rule.TheVariants.{Overlap, StoreInWindow, OtherWindow, Accumulate, Buffer}
use Rattle.rma_rules.specs.Access.{Access}
use Rattle.rma_rules.specs.Conflict.{ConflictAtCaller, ConflictAtTarget, ConflictsWithTarget, Forbids}
use Rattle.rma_rules.specs.Element.{AllowsNoOp, Disagree, OperationsAgree}
use Rattle.rma_rules.specs.Lock.{AreExclusive, Separated}
use Rattle.rma_rules.specs.Share.{IsSeparateAt, IsThroughSeparate, MeetsPart}
use Rattle.rma_rules.specs.Spans.{Spans}
use Rattle.rma_rules.proofs.ConflictLemmas.{separated_turned}
use Rattle.rma_rules.proofs.ForbidsLemmas.{forbids_turned}
use Rattle.rma_pairs.specs.Races.{IsFoundBetween}
use Rattle.rma_chain.specs.Chain.{Deed, deed, whenever}
use Rattle.rma_chain.specs.inside.Locks.{AnyExcludeRanks, ExcludeRanks}

-- a test that does not hold fails
pub if_not : (b : Bool) → (b ≡ true → ⊥) → not b ≡ true
if_not true never = absurd (never refl)
if_not false never = refl

-- ---- lists by index

module _ {X Y : Type 0} (f : X → Y) where
  -- two lists of one length whose elements have equal values at each index have equal lists of values
  pub same_values : (xs ys : List X) → length xs ≡ length ys → ((k : ℕ) → k < length xs → (d : X) → f (get_or xs k d) ≡ f (get_or ys k d)) → map f xs ≡ map f ys
  same_values [] [] long same = refl
  same_values [] (y ∷ ys) long same = absurd (omega arith)
  same_values (x ∷ xs) [] long same = absurd (omega arith)
  same_values (x ∷ xs) (y ∷ ys) long same =
      ap₂ (λ v vs. v ∷ vs) (same zero (omega arith) x) (same_values xs ys (omega arith) (λ k less d. same (suc k) (omega arith) d))

  -- and lists that have equal lists of values have equal values at each index
  pub values_at : (xs ys : List X) → map f xs ≡ map f ys → (k : ℕ) → k < length xs → (d : X) → f (get_or xs k d) ≡ f (get_or ys k d)
  values_at xs ys same k less d =
      let long : length xs ≡ length ys = sym (length-map xs f) ∙ ap length same ∙ length-map ys f in
      sym (get_or-map f xs k d (f d) less) ∙ ap (λ values. get_or values k (f d)) same ∙ get_or-map f ys k d (f d) (omega arith)

  -- each element's value is among those of a list
  value_there : (xs : List X) (x : X) → Contains xs x → Contains (map f xs) (f x)
  value_there xs x (k, less, is) = (k, omega (arith, length-map xs f), get_or-map f xs k x (f x) less ∙ ap f is)

  -- and each of those is the value of an element
  from_value : (xs : List X) (y : Y) → Contains (map f xs) y → (x : X) × Contains xs x × (f x ≡ y)
  from_value [] y (k, less, is) = absurd (omega arith)
  from_value (x ∷ xs) y (zero, less, is) = (x, (zero, omega arith, refl), is)
  from_value (x ∷ xs) y (suc k, less, is) =
      let found = from_value xs y (k, omega arith, is) in
      (found.0, (suc found.1.0, omega (arith, found.1.1), found.1.2), found.2)

-- ---- conflicts

-- an access that does what a deed says, and is otherwise this one
with_deed : Access → Deed → Access
with_deed a d = record a { memory = d.memory; runs = d.runs; kind = d.kind; window = d.window; element = d.element }

-- what forbids two accesses rests on nothing but what they do
by_deed : (windows : List Window) (a other b : Access) (rule : Rule) → Forbids windows (with_deed other (deed a)) b rule → Forbids windows a b rule
unfolding Forbids ConflictsWithTarget ConflictAtTarget ConflictAtCaller IsSeparateAt IsThroughSeparate MeetsPart Disagree OperationsAgree AllowsNoOp with_deed
by_deed windows a other b Overlap row = row
by_deed windows a other b StoreInWindow row = row
by_deed windows a other b OtherWindow row = row
by_deed windows a other b Accumulate row = row
by_deed windows a other b Buffer row = row

-- an access that does the same as another conflicts with those that the other conflicts with, by the same rule
pub same_deed_conflicts : (windows : List Window) (a other b : Access) (rule : Rule) → deed other ≡ deed a → Forbids windows other b rule → Forbids windows a b rule
unfolding with_deed
same_deed_conflicts windows a other b rule same row = by_deed windows a other b rule (subst (λ d. Forbids windows (with_deed other d) b rule) same row)

-- ---- locks

-- a lock epoch that keeps another of another rank apart does so whichever call opens it
whenever_opened : (j k l : LockKey) → whenever j ≡ whenever k → ExcludeRanks k l → AreExclusive j l
whenever_opened j k l same (window, target, ranks, one) =
    let own : ExcludeRanks (whenever j) l = subst (λ key. ExcludeRanks key l) (sym same) (window, target, ranks, one) in
    (own.0, own.1, inl own.2, own.3)

-- locks of two ranks that keep an access from another keep each that does the same from it
pub same_deed_separated : (a other b : Access) → deed other ≡ deed a → AnyExcludeRanks a.locks b.locks → Separated other b
unfolding Separated
same_deed_separated a other b same (k, l, first, second, apart) =
    let there = value_there whenever a.locks k first in
    let found = from_value whenever other.locks (whenever k) (subst (λ keys. Contains keys (whenever k)) (sym (ap (λ d. d.locks) same)) there) in
    (found.0, l, found.1, second, whenever_opened found.0 k l found.2 apart)

-- ---- races

module _ (links : Links) (windows : List Window) (spans : Spans) (a other b : Access) (same : deed other ≡ deed a) (race : FoundRace) where
  -- a race of an access that does the same as this one tells that this one conflicts with the other of the two
  pub found_conflicts : IsFoundBetween links windows spans other b race → Forbids windows a b race.rule
  found_conflicts (inl first) = same_deed_conflicts windows a other b race.rule same first.race.conflict
  found_conflicts (inr second) = same_deed_conflicts windows a other b race.rule same (forbids_turned windows b other race.rule second.race.conflict)

  -- and that no locks of two ranks keep the two apart
  pub found_together : IsFoundBetween links windows spans other b race → AnyExcludeRanks a.locks b.locks → ⊥
  found_together (inl first) apart = first.race.together (same_deed_separated a other b same apart)
  found_together (inr second) apart = second.race.together (separated_turned other b (same_deed_separated a other b same apart))

-- no and yes are not both true
pub not_both : (b : Bool) → not b ≡ true → b ≡ true → ⊥
not_both true denied held = absurd cc
not_both false denied held = absurd cc
