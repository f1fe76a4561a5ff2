-- Races that are sorted by the places of their names, each once, ascend and are the races that there were.
use Rattle.std.proofs.Common.{◌≡◌, ◌↔◌, ◌<◌, ℕ, suc, zero, List, [], ◌∷◌, Bool, true, ◌&&◌, ◌==◌, nat_eq, refl, sym, ap, subst, ◌∙◌, inl, inr, arith, Ordering, Less, Equal, Greater}
use Rattle.std.specs.Prelude.{Contains, ⊤}
use Rattle.std.specs.Cmp.{IsEquivalence, IsTotalOrder, Equal-is, ranks, unsigned_ties}
use Rattle.std.specs.Cmp.Derive.{Tied, on_tied, then_tied, tie}
use Rattle.std.specs.List.{dedup}
use Rattle.std.specs.List.Sorted.{IsPermutation, IsSorted, IsStrictlySortedBy}
use Rattle.std.specs.Ordering.{MatchOrdering, nat_cmp, ordering_then}
use Rattle.std.proofs.lemmas.Cmp.{and_equiv, nat_cmp_total, nat_eq_equiv, on_equiv, on_total, then_total}
use Rattle.std.proofs.lemmas.List.Kept.{Any-dedup, Contains-from_dedup, IsStrictlySortedBy-dedup}
use Rattle.std.proofs.lemmas.List.Sorted.{Contains-permutation, IsPermutation-sym}
use Rattle.std.proofs.lemmas.Map.Keys.{sorted_tail}
use Rattle.std.proofs.lemmas.Map.Views.{All-after_first}
use Rattle.std.proofs.lemmas.Option.{get_or_from_slice_get, same_Some, slice_get_within}
use Rattle.rma_rules.specs.declared.access_name.AccessName.{AccessName}
use Rattle.rma_rules.specs.declared.access_name.Role.{Role}
use Rattle.rma_rules.specs.declared.access_name.Role.TheVariants.{Local, Target, Origin, Result, Compare}
use Rattle.rma_finding.specs.declared.finding.FoundRace.{FoundRace}
use Rattle.rma_pairs.specs.Names.{IsBefore, role_place}
use Rattle.rma_pairs.specs.Races.{Ascend, HaveOneRace, Precedes}

-- ---- how two names compare

abbrev rank_of : AccessName → ℕ
rank_of name = name.rank.0

abbrev line_of : AccessName → ℕ
line_of name = name.line.0

abbrev role_of : AccessName → ℕ
role_of name = role_place name.role

abbrev compare_names : AccessName → AccessName → Ordering
compare_names a b = ordering_then (ordering_then (nat_cmp (rank_of a) (rank_of b)) (nat_cmp (line_of a) (line_of b))) (nat_cmp (role_of a) (role_of b))

abbrev same_names : AccessName → AccessName → Bool
same_names a b = ((rank_of a == rank_of b) && (line_of a == line_of b)) && (role_of a == role_of b)

-- the role at a place
abbrev role_at : ℕ → Role
role_at zero = Local
role_at (suc zero) = Target
role_at (suc (suc zero)) = Origin
role_at (suc (suc (suc zero))) = Result
role_at (suc (suc (suc (suc n)))) = Compare

at_place : (role : Role) → role_at (role_place role) ≡ role
at_place Local = refl
at_place Target = refl
at_place Origin = refl
at_place Result = refl
at_place Compare = refl

one_name : (a b : AccessName) → rank_of a ≡ rank_of b → line_of a ≡ line_of b → role_of a ≡ role_of b → a ≡ b
one_name a b rank line role =
    let roles : a.role ≡ b.role = sym (at_place a.role) ∙ ap role_at role ∙ at_place b.role in
    λ k. record { rank = record { 0 = rank k }; line = record { 0 = line k }; role = roles k }

names_rank : (a b : AccessName) → MatchOrdering (compare_names a b) (IsBefore a b) (a ≡ b) ⊤
names_rank a b = by (nat_cmp (rank_of a) (rank_of b)) (nat_cmp (line_of a) (line_of b)) (nat_cmp (role_of a) (role_of b)) (ranks (rank_of a) (rank_of b)) (ranks (line_of a) (line_of b)) (ranks (role_of a) (role_of b))
  where
    by : (r s t : Ordering)
        → MatchOrdering r (rank_of a < rank_of b) (rank_of a ≡ rank_of b) (rank_of b < rank_of a)
        → MatchOrdering s (line_of a < line_of b) (line_of a ≡ line_of b) (line_of b < line_of a)
        → MatchOrdering t (role_of a < role_of b) (role_of a ≡ role_of b) (role_of b < role_of a)
        → MatchOrdering (ordering_then (ordering_then r s) t) (IsBefore a b) (a ≡ b) ⊤
    by Less s t rank line role = inl rank
    by Greater s t rank line role = tt
    by Equal Less t rank line role = inr (rank, inl line)
    by Equal Greater t rank line role = tt
    by Equal Equal Less rank line role = inr (rank, inr (line, role))
    by Equal Equal Equal rank line role = one_name a b rank line role
    by Equal Equal Greater rank line role = tt

names_total : IsTotalOrder compare_names
names_total = then_total (then_total (on_total rank_of nat_cmp_total) (on_total line_of nat_cmp_total)) (on_total role_of nat_cmp_total)

names_equiv : IsEquivalence same_names
names_equiv = and_equiv (and_equiv (on_equiv rank_of nat_eq_equiv) (on_equiv line_of nat_eq_equiv)) (on_equiv role_of nat_eq_equiv)

numbers_tied : Tied nat_eq nat_cmp
numbers_tied = tie nat_cmp unsigned_ties

names_tied : Tied same_names compare_names
names_tied = then_tied (then_tied (on_tied rank_of numbers_tied) (on_tied line_of numbers_tied)) (on_tied role_of numbers_tied)

-- ---- and two races

abbrev first_of : FoundRace → AccessName
first_of race = race.first

abbrev second_of : FoundRace → AccessName
second_of race = race.second

abbrev pub compare_races : FoundRace → FoundRace → Ordering
compare_races f g = ordering_then (compare_names f.first g.first) (compare_names f.second g.second)

abbrev pub same_races : FoundRace → FoundRace → Bool
same_races f g = same_names f.first g.first && same_names f.second g.second

races_rank : (f g : FoundRace) → MatchOrdering (compare_races f g) (Precedes f g) ((f.first ≡ g.first) × (f.second ≡ g.second)) ⊤
races_rank f g = by (compare_names f.first g.first) (compare_names f.second g.second) (names_rank f.first g.first) (names_rank f.second g.second)
  where
    by : (r s : Ordering) → MatchOrdering r (IsBefore f.first g.first) (f.first ≡ g.first) ⊤ → MatchOrdering s (IsBefore f.second g.second) (f.second ≡ g.second) ⊤
        → MatchOrdering (ordering_then r s) (Precedes f g) ((f.first ≡ g.first) × (f.second ≡ g.second)) ⊤
    by Less s first second = inl first
    by Equal Less first second = inr (first, second)
    by Equal Equal first second = (first, second)
    by Equal Greater first second = tt
    by Greater s first second = tt

means : (f g : FoundRace) (answer : Ordering) → compare_races f g ≡ answer → MatchOrdering answer (Precedes f g) ((f.first ≡ g.first) × (f.second ≡ g.second)) ⊤
means f g answer is = subst (λ o. MatchOrdering o (Precedes f g) ((f.first ≡ g.first) × (f.second ≡ g.second)) ⊤) is (races_rank f g)

races_total : IsTotalOrder compare_races
races_total = then_total (on_total first_of names_total) (on_total second_of names_total)

races_equiv : IsEquivalence same_races
races_equiv = and_equiv (on_equiv first_of names_equiv) (on_equiv second_of names_equiv)

races_tied : Tied same_races compare_races
races_tied = then_tied (on_tied first_of names_tied) (on_tied second_of names_tied)

have_names : (f g : FoundRace) → same_races f g ≡ true → (f.first ≡ g.first) × (f.second ≡ g.second)
have_names f g same = means f g Equal ((Equal-is (compare_races f g)).0 (sym (races_tied.ties f g) ∙ same))

-- ---- sorted, each once

ascends : (races : List FoundRace) → IsStrictlySortedBy compare_races races → Ascend races
ascends [] sorted i j f g less here there = absurd (let within = slice_get_within [] i f here in omega (arith, within))
ascends (x ∷ xs) sorted i zero f g less here there = absurd (omega (arith, less))
ascends (x ∷ xs) sorted zero (suc j) f g less here there =
    let lower = All-after_first compare_races x xs sorted j g (slice_get_within xs j g there) in
    let at : compare_races x g ≡ Less = subst (λ (q : FoundRace). compare_races x q ≡ Less) (get_or_from_slice_get xs j g g there) lower in
    subst (λ (q : FoundRace). Precedes q g) (same_Some x f here) (means x g Less at)
ascends (x ∷ xs) sorted (suc i) (suc j) f g less here there = ascends xs (sorted_tail compare_races x xs sorted) i j f g (omega (arith, less)) here there

pub once_ascend : (sorted : List FoundRace) → IsSorted compare_races sorted → Ascend (dedup same_races sorted)
once_ascend sorted is = ascends (dedup same_races sorted) (IsStrictlySortedBy-dedup races_total races_tied.ties sorted is)

pub once_same : (races sorted : List FoundRace) → HaveOneRace races → IsPermutation races sorted → (race : FoundRace) → Contains (dedup same_races sorted) race ↔ Contains races race
once_same races sorted one moved race = (back race, there)
  where
    back : (other : FoundRace) → Contains (dedup same_races sorted) other → Contains races other
    back other has = Contains-permutation sorted races other (IsPermutation-sym races sorted moved) (Contains-from_dedup same_races sorted other has)

    there : Contains races race → Contains (dedup same_races sorted) race
    there has =
        let like = Any-dedup races_equiv sorted race (Contains-permutation races sorted race moved has) in
        let other : FoundRace = like.1 in
        let stays : Contains (dedup same_races sorted) other = (like.0, like.2, like.3) in
        let names = have_names race other like.4 in
        subst (Contains (dedup same_races sorted)) (sym (one race other has (back other stays) names.0 names.1)) stays
