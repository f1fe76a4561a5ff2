-- A walk ends.
use Rattle.std.proofs.Common.{◌≡◌, ℕ, suc, ◌+◌, ◌*◌, ◌<◌, ◌≤◌, Bool, true, false, cond, List, [], ◌∷◌, length, set, sum, ap, arith}
use Rattle.std.specs.Prelude.{slice_index, slice_index_or, count_by}
use Rattle.std.proofs.lemmas.List.Sums.{sum_by-cons, sum_by-set}
use Rattle.rma_walk.specs.inside.Search.{work}

sum_within : (next lens : List ℕ) → length next ≡ length lens → ((r : ℕ) → slice_index next r ≤ 2 * slice_index lens r) → sum next ≤ 2 * sum lens
sum_within [] [] size each = omega arith
sum_within [] (n ∷ lens) size each = absurd (omega arith)
sum_within (k ∷ next) [] size each = absurd (omega arith)
sum_within (k ∷ next) (n ∷ lens) size each =
    let head : k ≤ 2 * n = each 0 in
    let rest : sum next ≤ 2 * sum lens = sum_within next lens (omega arith) (λ r. each (suc r)) in
    let left : sum (k ∷ next) ≡ k + sum next = sum_by-cons (λ x. x) k next in
    let right : sum (n ∷ lens) ≡ n + sum lens = sum_by-cons (λ x. x) n lens in
    omega arith

abbrev one : Bool → ℕ
one b = cond b 1 0

count_set : (free : List Bool) (r : ℕ) (b : Bool) → r < length free → count_by (λ b. b) (set free r b) + one (slice_index_or free r true) ≡ count_by (λ b. b) free + one b
count_set free r b lt = sum_by-set one free r b true lt

pub less_by_waiting : (lens next : List ℕ) (free : List Bool) (current : ℕ) → current < length free → slice_index_or free current true ≡ true → work lens next (set free current false) < work lens next free
less_by_waiting lens next free current lt is_free =
    let count = count_set free current false lt in
    let was : one (slice_index_or free current true) ≡ 1 = ap one is_free in
    omega arith

module _ (lens next : List ℕ) (free : List Bool) (current pos : ℕ) (there : current < length next) (further : slice_index next current < pos) (size : length next ≡ length lens)
    (each : (r : ℕ) → slice_index (set next current pos) r ≤ 2 * slice_index lens r) (same_size : length (set next current pos) ≡ length lens) where
  more_passed : sum next < sum (set next current pos)
  more_passed =
      let all : sum (set next current pos) + slice_index next current ≡ sum next + pos = sum_by-set (λ x. x) next current pos 0 there in
      omega arith

  pub less_by_passing : work lens (set next current pos) free < work lens next free
  less_by_passing =
      let bound = sum_within (set next current pos) lens same_size each in
      let more = more_passed in
      omega arith

  pub less_by_returning : (below : ℕ) → below < length free → work lens (set next current pos) (set free below true) < work lens next free
  less_by_returning below lt =
      let bound = sum_within (set next current pos) lens same_size each in
      let more = more_passed in
      let count = count_set free below true lt in
      omega arith
