-- Races are symmetric; those between some accesses are one list, with one race for two names at most.
use Rattle.std.proofs.Common.{◌≡◌, ◌↔◌, List, Option, Some, sym, ap, subst, ◌∙◌, inl, inr, arith}
use Rattle.std.proofs.lemmas.Option.{same_Some}
use Rattle.rma_bytes.specs.declared.run.Run.{Run}
use Rattle.rma_bytes.proofs.RunLemmas.{canonical_unique}
use Rattle.rma_link.specs.declared.links.Links.{Links}
use Rattle.rma_window.specs.Windows.{Window}
use Rattle.rma_rules.specs.Access.{Access}
use Rattle.rma_rules.specs.Conflict.{Forbids}
use Rattle.rma_rules.specs.Spans.{Spans}
use Rattle.rma_rules.specs.declared.access_name.AccessName.{AccessName}
use Rattle.rma_rules.specs.declared.rule.Rule.{Rule}
use Rattle.rma_rules.proofs.ConflictLemmas.{separated_turned}
use Rattle.rma_rules.proofs.ForbidsLemmas.{forbids_once, forbids_turned}
use Rattle.rma_finding.specs.declared.finding.FoundRace.{FoundRace}
use Rattle.rma_pairs.specs.Names.{IsBefore, IsEarlier}
use Rattle.rma_pairs.specs.Race.{AreCommon, Race}
use Rattle.rma_pairs.specs.Races.{AreRaces, HaveNames, IsFound, IsFoundBetween, IsFoundOf, Precedes}
use Rattle.rma_pairs.proofs.ListLemmas.{one_list}

-- ---- one race

pub turned : (links : Links) (windows : List Window) (spans : Spans) (a b : Access) (rule : Rule) → Race links windows spans a b rule → Race links windows spans b a rule
turned links windows spans a b rule race = record {
  conflict = forbids_turned windows a b rule race.conflict;
  together = λ apart. race.together (separated_turned b a apart);
  not_before = race.not_after;
  not_after = race.not_before;
}

-- ---- the order of races

earlier_once : (a b : AccessName) → IsEarlier a b → IsEarlier b a → ⊥
earlier_once a b (inl p) (inl q) = omega arith
earlier_once a b (inl p) (inr q) = let same = q.0 in omega arith
earlier_once a b (inr p) (inl q) = let same = p.0 in omega arith
earlier_once a b (inr p) (inr q) = let one = p.1 in let two = q.1 in omega arith

pub before_once : (a b : AccessName) → IsBefore a b → IsBefore b a → ⊥
before_once a b (inl p) (inl q) = omega arith
before_once a b (inl p) (inr q) = let same = q.0 in omega arith
before_once a b (inr p) (inl q) = let same = p.0 in omega arith
before_once a b (inr p) (inr q) = earlier_once a b p.1 q.1

-- names that are equal come in no order
pub not_same : (a b : AccessName) → a ≡ b → IsBefore a b → ⊥
not_same a b same before = let itself : IsBefore a a = subst (IsBefore a) (sym same) before in before_once a a itself itself

precede_once : (f g : FoundRace) → Precedes f g → Precedes g f → ⊥
precede_once f g (inl p) (inl q) = before_once f.first g.first p q
precede_once f g (inl p) (inr q) = not_same f.first g.first (sym q.0) p
precede_once f g (inr p) (inl q) = not_same g.first f.first (sym p.0) q
precede_once f g (inr p) (inr q) = before_once f.second g.second p.1 q.1

pub are_one_list : (links : Links) (windows : List Window) (spans : Spans) (list : List Access) (found other : List FoundRace)
    → AreRaces links windows spans list found → AreRaces links windows spans list other → found ≡ other
are_one_list links windows spans list found other one two =
    one_list Precedes precede_once found other one.ascend two.ascend (λ race has. two.all race (one.only race has)) (λ race has. one.all race (two.only race has))

-- ---- the race of two names

common_once : (a b : Access) (xs ys : List Run) → AreCommon a b xs → AreCommon a b ys → xs ≡ ys
common_once a b xs ys one two =
    canonical_unique xs ys one.canonical two.canonical (λ byte. (λ has. (two.bytes byte).1 ((one.bytes byte).0 has), λ has. (one.bytes byte).1 ((two.bytes byte).0 has)))

module _ (links : Links) (windows : List Window) (spans : Spans) (a b : Access) (f g : FoundRace) (one : IsFoundOf links windows spans a b f) (two : IsFoundOf links windows spans a b g) where
  -- one thing is found of two accesses
  pub found_once : f ≡ g
  found_once = λ k. record {
    first = (one.first_is ∙ sym two.first_is) k;
    first_site = (one.first_site_is ∙ sym two.first_site_is) k;
    second = (one.second_is ∙ sym two.second_is) k;
    second_site = (one.second_site_is ∙ sym two.second_site_is) k;
    memory = (one.memory_is ∙ sym two.memory_is) k;
    rule = forbids_once windows a b f.rule g.rule one.race.conflict two.race.conflict k;
    bytes = common_once a b f.bytes g.bytes one.common two.common k;
  }

-- whichever is the first
pub found_between_once : (links : Links) (windows : List Window) (spans : Spans) (a b : Access) (f g : FoundRace) → IsFoundBetween links windows spans a b f → IsFoundBetween links windows spans a b g → f ≡ g
found_between_once links windows spans a b f g (inl one) (inl two) = found_once links windows spans a b f g one two
found_between_once links windows spans a b f g (inl one) (inr two) = absurd (before_once a.name b.name one.in_order two.in_order)
found_between_once links windows spans a b f g (inr one) (inl two) = absurd (before_once a.name b.name two.in_order one.in_order)
found_between_once links windows spans a b f g (inr one) (inr two) = found_once links windows spans b a f g one two

pub is_one : (links : Links) (windows : List Window) (spans : Spans) (list : List Access) (f g : FoundRace) → HaveNames list → IsFound links windows spans list f → IsFound links windows spans list g
    → f.first ≡ g.first → f.second ≡ g.second → f ≡ g
is_one links windows spans list f g have one two first second =
    let same_a : one.a ≡ two.a = have one.a two.a one.has_a two.has_a (sym one.is.first_is ∙ first ∙ two.is.first_is) in
    let same_b : one.b ≡ two.b = have one.b two.b one.has_b two.has_b (sym one.is.second_is ∙ second ∙ two.is.second_is) in
    let other : IsFoundOf links windows spans one.a one.b g = subst (λ a. IsFoundOf links windows spans a one.b g) (sym same_a) (subst (λ b. IsFoundOf links windows spans two.a b g) (sym same_b) two.is) in
    found_once links windows spans one.a one.b f g one.is other

-- ---- what is found of two accesses

-- what was made of them is all that is found of them
pub found_some : (links : Links) (windows : List Window) (spans : Spans) (a b : Access) (made race : FoundRace) → IsFoundOf links windows spans a b made → (Some made ≡ Some race) ↔ IsFoundOf links windows spans a b race
found_some links windows spans a b made race is =
    (λ same. subst (IsFoundOf links windows spans a b) (same_Some made race same) is, λ other. ap Some (found_once links windows spans a b made race is other))

-- where the first has the name that comes first, it is what is found of them either way
pub either_way : (links : Links) (windows : List Window) (spans : Spans) (a b : Access) (found : Option FoundRace) (race : FoundRace) → IsBefore a.name b.name
    → (found ≡ Some race) ↔ IsFoundOf links windows spans a b race → (found ≡ Some race) ↔ IsFoundBetween links windows spans a b race
either_way links windows spans a b found race before is = (λ same. inl (is.0 same), by)
  where
    by : IsFoundBetween links windows spans a b race → found ≡ Some race
    by (inl of) = is.1 of
    by (inr of) = absurd (before_once a.name b.name before of.in_order)

-- and where the second has it
pub other_way : (links : Links) (windows : List Window) (spans : Spans) (a b : Access) (found : Option FoundRace) (race : FoundRace) → IsBefore b.name a.name
    → (found ≡ Some race) ↔ IsFoundOf links windows spans b a race → (found ≡ Some race) ↔ IsFoundBetween links windows spans a b race
other_way links windows spans a b found race before is = (λ same. inr (is.0 same), by)
  where
    by : IsFoundBetween links windows spans a b race → found ≡ Some race
    by (inl of) = absurd (before_once a.name b.name of.in_order before)
    by (inr of) = is.1 of
