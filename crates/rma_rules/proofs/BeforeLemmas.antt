-- Where accesses start, and which of a rank's calls stand before which points.
use Rattle.std.proofs.Common.{◌≡◌, ℕ, zero, suc, ◌<◌, ◌≤◌, ◌⊎◌, Bool, true, false, nat_lt, List, length, get_or, Contains, Some, None, Option, inl, inr, refl, sym, ap, ◌∙◌, arith, lit<}
use Rattle.std.specs.List.Sorted.{IsPartitionedBy, IsPartitionPoint, IsStrictlyIncreasing}
use Rattle.std.proofs.lemmas.Bool.Decides.{nat_tests}
use Rattle.std.proofs.lemmas.List.{get_or_default}
use Rattle.rma_base.specs.declared.rank.Rank.{Rank}
use Rattle.rma_base.specs.declared.point.Point.{Point}
use Rattle.rma_base.proofs.RankSetLemmas.{rises_to}
use Rattle.rma_link.specs.declared.links.Links.{Links}
use Rattle.rma_link.specs.Point.{entry, return_of}
use Rattle.rma_link.specs.Order.{IsAtOrBefore}
use Rattle.rma_link.proofs.OrderLemmas.{at_or_before_trans, later_position}
use Rattle.rma_rules.specs.Access.{Access, starts_of}
use Rattle.rma_rules.specs.Before.{IsBeforeStart}

-- ---- starts

module _ (rank : Rank) (call : ℕ) where
  pub has_entry : (opening : Option Point) → Contains (starts_of rank call opening) (entry rank call)
  has_entry None = (0, lit< tt, refl)
  has_entry (Some o) = (0, lit< tt, refl)

  pub has_opening : (opening : Option Point) (o : Point) → opening ≡ Some o → Contains (starts_of rank call opening) o
  has_opening opening o is = rw is (1, lit< tt, refl)

  pub start_cases : (opening : Option Point) (start : Point) → Contains (starts_of rank call opening) start → (start ≡ entry rank call) ⊎ (opening ≡ Some start)
  start_cases None start (zero, lt, is) = inl (sym is)
  start_cases None start (suc k, lt, is) = absurd (omega (arith, lt))
  start_cases (Some o) start (zero, lt, is) = inl (sym is)
  start_cases (Some o) start (suc zero, lt, is) = inr (ap Some is)
  start_cases (Some o) start (suc (suc k), lt, is) = absurd (omega (arith, lt))

-- what is before a point that is before a start is before that start
pub before_start_trans : (links : Links) (p q : Point) (b : Access) → IsAtOrBefore links p q → IsBeforeStart links q b → IsBeforeStart links p b
unfolding IsBeforeStart
before_start_trans links p q b first second = (second.0, second.1, at_or_before_trans links first second.2)

-- ---- calls of a rank

module _ (links : Links) (rank : Rank) (u v : ℕ) (le : u ≤ v) where
  pub entries_rise : IsAtOrBefore links (entry rank u) (entry rank v)
  entries_rise = later_position links (entry rank u) (entry rank v) refl (omega arith)

  pub returns_rise : IsAtOrBefore links (return_of rank u) (return_of rank v)
  returns_rise = later_position links (return_of rank u) (return_of rank v) refl (omega arith)

-- a call of a list, by its index
pub call_at : (calls : List ℕ) (v : ℕ) → Contains calls v → (k : ℕ) × (k < length calls) × (get_or calls k 0 ≡ v)
call_at calls v there = (there.0, there.1, get_or_default calls there.0 0 v there.1 ∙ there.2)

module _ (links : Links) (rank : Rank) (calls : List ℕ) (up : IsStrictlyIncreasing calls) (done : Point) (i k : ℕ) (le : i ≤ k) (k_in : k < length calls) where
  pub entered_later : IsAtOrBefore links done (entry rank (get_or calls i 0)) → IsAtOrBefore links done (entry rank (get_or calls k 0))
  entered_later order = at_or_before_trans links order (entries_rise links rank (get_or calls i 0) (get_or calls k 0) (rises_to calls up i k le k_in))

  pub returned_later : IsAtOrBefore links done (return_of rank (get_or calls i 0)) → IsAtOrBefore links done (return_of rank (get_or calls k 0))
  returned_later order = at_or_before_trans links order (returns_rise links rank (get_or calls i 0) (get_or calls k 0) (rises_to calls up i k le k_in))

-- ---- where a search for a number stops

abbrev pub is_less : ℕ → ℕ → Bool
is_less call v = nat_lt v call

module _ (calls : List ℕ) (call : ℕ) (up : IsStrictlyIncreasing calls) where
  pub calls_partitioned : IsPartitionedBy (is_less call) calls
  calls_partitioned i j d le lt test =
      let first = get_or_default calls i d 0 (omega arith) in
      let second = get_or_default calls j d 0 lt in
      let rise = rises_to calls up i j le lt in
      grind (arith, nat_tests)

  pub calls_split : (n : ℕ) → IsPartitionPoint (λ v. is_less call v ≡ true) (λ v. is_less call v ≡ false) calls n → n ≤ length calls
      → ((k : ℕ) → k < n → get_or calls k 0 < call) × ((k : ℕ) → n ≤ k → k < length calls → call ≤ get_or calls k 0)
  calls_split n point in_list = (λ k lt. let less = point.0 k 0 (omega arith) lt in grind (arith, nat_tests), λ k le lt. let more = point.1 k 0 le lt in grind (arith, nat_tests))
