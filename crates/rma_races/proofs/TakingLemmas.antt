-- The accesses of a run, as they are taken one by one.
use Rattle.std.proofs.Common.{◌≡◌, ℕ, List, [], ◌∷◌, ◌++◌, Option, refl, sym, subst, ◌⊎◌, inl, inr}
use Rattle.std.specs.Prelude.{Contains}
use Rattle.std.proofs.lemmas.List.Elements.{Contains-append_left, Contains-append_right, Contains-append_cases}
use Rattle.rma_link.specs.declared.links.Links.{Links}
use Rattle.rma_window.specs.Windows.{Window}
use Rattle.rma_rules.specs.Access.{Access, IsOnWindowOf}
use Rattle.rma_rules.specs.Conflict.{Forbids}
use Rattle.rma_rules.specs.Spans.{Spans}
use Rattle.rma_rules.specs.declared.rule.Rule.{Rule}
use Rattle.rma_run.proofs.ContainLemmas.{first_or_later, has_first, has_none}
use Rattle.rma_finding.specs.declared.finding.FoundRace.{FoundRace}
use Rattle.rma_pairs.specs.Names.{IsBefore}
use Rattle.rma_pairs.specs.Race.{Race}
use Rattle.rma_pairs.specs.Races.{IsFound, IsFoundBetween, IsFoundOf}
use Rattle.rma_pairs.proofs.RaceLemmas.{not_same}
use Rattle.rma_history.specs.History.{IsOfCall, IsPassed, IsToCome}

-- ---- one more element

module _ {X : Type 0} (xs : List X) (x : X) where
  pub was_there : (y : X) → Contains xs y → Contains (xs ++ x ∷ []) y
  was_there y has = Contains-append_left xs (x ∷ []) y has

  pub is_there : Contains (xs ++ x ∷ []) x
  is_there = Contains-append_right xs (x ∷ []) x (has_first x [])

  -- one of those before, or it
  pub was_or_is : (y : X) → Contains (xs ++ x ∷ []) y → Contains xs y ⊎ (x ≡ y)
  was_or_is y has = by (Contains-append_cases xs (x ∷ []) y has)
    where
      by : Contains xs y ⊎ Contains (x ∷ []) y → Contains xs y ⊎ (x ≡ y)
      by (inl before) = inl before
      by (inr last) = inr (first_or_later x y [] (λ is. is) (λ later. has_none y later) last)

-- ---- what one more access races with

-- the memory of two accesses that race is one
pub same_memory : (links : Links) (windows : List Window) (spans : Spans) (a b : Access) (rule : Rule) → Race links windows spans a b rule → a.memory ≡ b.memory
unfolding Forbids
same_memory links windows spans a b rule race = race.conflict.0

module _ (links : Links) (windows : List Window) (spans : Spans) (seen : List Access) (b : Access) where
  -- what is found among what was taken, and between it and one more
  pub found_before : (race : FoundRace) → IsFound links windows spans seen race → IsFound links windows spans (seen ++ b ∷ []) race
  found_before race found = record { a = found.a; b = found.b; has_a = was_there seen b found.a found.has_a; has_b = was_there seen b found.b found.has_b; is = found.is }

  pub found_with : (a : Access) (race : FoundRace) → Contains seen a → IsFoundBetween links windows spans a b race → IsFound links windows spans (seen ++ b ∷ []) race
  found_with a race has (inl is) = record { a = a; b = b; has_a = was_there seen b a has; has_b = is_there seen b; is = is }
  found_with a race has (inr is) = record { a = b; b = a; has_a = is_there seen b; has_b = was_there seen b a has; is = is }

  -- and nothing else
  pub found_either : (race : FoundRace) → IsFound links windows spans (seen ++ b ∷ []) race → IsFound links windows spans seen race ⊎ ((a : Access) × Contains seen a × IsFoundBetween links windows spans a b race)
  found_either race found = by (was_or_is seen b found.a found.has_a) (was_or_is seen b found.b found.has_b)
    where
      Answer : Type 0
      Answer = IsFound links windows spans seen race ⊎ ((a : Access) × Contains seen a × IsFoundBetween links windows spans a b race)

      by : Contains seen found.a ⊎ (b ≡ found.a) → Contains seen found.b ⊎ (b ≡ found.b) → Answer
      by (inl one) (inl other) = inl (record { a = found.a; b = found.b; has_a = one; has_b = other; is = found.is })
      by (inl one) (inr is) = inr (found.a, one, inl (subst (λ it. IsFoundOf links windows spans found.a it race) (sym is) found.is))
      by (inr is) (inl other) = inr (found.b, other, inr (subst (λ it. IsFoundOf links windows spans it found.b race) (sym is) found.is))
      by (inr is) (inr also) =
          let before : IsBefore b.name b.name = subst (λ it. IsBefore it.name b.name) (sym is) (subst (λ it. IsBefore found.a.name it.name) (sym also) found.is.in_order) in
          absurd (not_same b.name b.name refl before)

-- what is passed races with nothing that is still to come
pub passed_apart : (links : Links) (windows : List Window) (spans : Spans) (next : List (Option ℕ)) (a b : Access) (race : FoundRace) → IsPassed links windows spans next a → IsToCome next b → IsOfCall b → IsOnWindowOf windows b
    → IsFoundBetween links windows spans a b race → ⊥
passed_apart links windows spans next a b race passed comes of_call on (inl is) = is.race.not_before (passed b comes of_call on (sym (same_memory links windows spans a b race.rule is.race)))
passed_apart links windows spans next a b race passed comes of_call on (inr is) = is.race.not_after (passed b comes of_call on (same_memory links windows spans b a race.rule is.race))

-- the memory of what is found between two accesses is one
pub between_memory : (links : Links) (windows : List Window) (spans : Spans) (a b : Access) (race : FoundRace) → IsFoundBetween links windows spans a b race → a.memory ≡ b.memory
between_memory links windows spans a b race (inl is) = same_memory links windows spans a b race.rule is.race
between_memory links windows spans a b race (inr is) = sym (same_memory links windows spans b a race.rule is.race)
