-- How many points of a rank are before others.
use Rattle.std.proofs.Common.{◌≡◌, inl, inr, ℕ, ◌+◌, ◌<◌, ◌≤◌, List, [], ◌∷◌, ◌++◌, length, get_or, max, Some, refl, sym, ap, subst, ◌∙◌, arith, length-append, ⊎_elim}
use Rattle.std.specs.Prelude.{slice_index}
use Rattle.std.proofs.Math.ListN.{get_or-append}
use Rattle.std.proofs.Math.Seq.{get_or-append_seam}
use Rattle.std.proofs.lemmas.Bool.{cases_lt}
use Rattle.rma_base.specs.declared.rank.Rank.{Rank}
use Rattle.rma_base.specs.declared.point.Point.{Point}
use Rattle.rma_link.specs.declared.links.Links.{Links}
use Rattle.rma_link.specs.Order.{IsAtOrBefore}
use Rattle.rma_link.proofs.OrderLemmas.{at_or_before_trans, later_position}
use Rattle.rma_cut.specs.declared.search.Asked.{Asked}
use Rattle.rma_cut.specs.inside.Asked.{IsBeforeAsked, IsBeforeOption, IsCount}

-- what holds of one point of a rank, holds of those before it
module _ (links : Links) (rank : Rank) (i k : ℕ) (le : i ≤ k) (p : Point) where
  pub earlier_before : IsAtOrBefore links (record { rank = rank; pos = k }) p → IsAtOrBefore links (record { rank = rank; pos = i }) p
  earlier_before order = at_or_before_trans links (later_position links (record { rank = rank; pos = i }) (record { rank = rank; pos = k }) refl le) order

-- of two points each is one that is asked for
pub count_both : (links : Links) (asked : Asked) (rank n x y : ℕ) → IsCount (IsBeforeOption links asked.one) rank n x → IsCount (IsBeforeOption links asked.other) rank n y
    → IsCount (IsBeforeAsked links asked) rank n (max x y)
count_both links asked rank n x y one other = record {
  within = let a : x ≤ n = one.within in let b : y ≤ n = other.within in omega arith;
  before = λ pos lt. ⊎_elim (λ (first : pos < x). let found = one.before pos first in (found.0, inl found.1, found.2))
      (λ (second : x ≤ pos). let less : pos < y = omega arith in let found = other.before pos less in (found.0, inr found.1, found.2)) (cases_lt pos x);
  after = λ pos le lt found. ⊎_elim (λ (first : asked.one ≡ Some found.0). let past : x ≤ pos = omega arith in one.after pos past lt (found.0, first, found.2))
      (λ (second : asked.other ≡ Some found.0). let past : y ≤ pos = omega arith in other.after pos past lt (found.0, second, found.2)) found.1;
}

-- one more number at the end of a list
pub one_longer : (cut : List ℕ) (rank x : ℕ) → length cut ≡ rank → length (cut ++ x ∷ []) ≡ rank + 1
one_longer cut rank x size = let more : length (cut ++ x ∷ []) ≡ length cut + 1 = length-append cut (x ∷ []) in omega arith

pub each_more : (Q : ℕ → ℕ → Type 0) (cut : List ℕ) (rank x : ℕ) → length cut ≡ rank → ((k : ℕ) → k < rank → Q k (slice_index cut k)) → Q rank x
    → (k : ℕ) → k < rank + 1 → Q k (slice_index (cut ++ x ∷ []) k)
each_more Q cut rank x size each last k lt =
    ⊎_elim (λ (early : k < rank). subst (Q k) (sym (get_or-append cut (x ∷ []) 0 k (omega arith))) (each k early))
    (λ (late : rank ≤ k).
    let same : rank ≡ k = omega arith in
    let at : length cut ≡ k = omega arith in
    let read : get_or (cut ++ x ∷ []) k 0 ≡ x = ap (λ (i : ℕ). get_or (cut ++ x ∷ []) i 0) (sym at) ∙ get_or-append_seam cut x [] 0 in
    subst (Q k) (sym read) (subst (λ (i : ℕ). Q i x) same last))
    (cases_lt k rank)
