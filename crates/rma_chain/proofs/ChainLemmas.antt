-- Lists of accesses that follow one another, as they grow and shrink.
use Rattle.std.proofs.Common.{◌≡◌, ◌⊎◌, ℕ, ◌+◌, ◌≤◌, ◌<◌, List, [], ◌∷◌, ◌++◌, length, drop, get_or, Option, Some, Contains, slice_get, inl, inr, refl, sym, subst, ◌∙◌, arith, ⊎_elim}
use Rattle.std.proofs.lemmas.Bool.{cases_lt}
use Rattle.std.proofs.lemmas.List.{get_or-drop, get_or_append_left, get_or_push, length-append, length-drop}
use Rattle.std.proofs.lemmas.Option.{get_or_from_slice_get, slice_get_within}
use Rattle.rma_base.specs.declared.point.Point.{Point}
use Rattle.rma_base.specs.declared.rank.Rank.{Rank}
use Rattle.rma_link.specs.Point.{entry}
use Rattle.rma_rules.specs.Access.{Access, starts_of}
use Rattle.rma_rules.proofs.BeforeLemmas.{has_entry, has_opening, start_cases}
use Rattle.rma_chain.specs.Chain.{AreFollowedBy, IsChain, IsFollowedBy, IsNoLater}
use Rattle.rma_chain.proofs.PlaceLemmas.{contained, placed, read}

no_later_self : (p : Point) → IsNoLater p p
no_later_self p = (refl, omega arith)

no_later_trans : (p q r : Point) → IsNoLater p q → IsNoLater q r → IsNoLater p r
no_later_trans p q r one two =
    let first : p.pos ≤ q.pos = one.1 in
    let second : q.pos ≤ r.pos = two.1 in
    (one.0 ∙ two.0, omega arith)

pub follows_self : (a : Access) → IsFollowedBy a a
follows_self a = record {
  deeds = refl;
  calls = omega arith;
  done = λ q is. (q, is, no_later_self q);
  starts = λ p there. (p, there, no_later_self p);
}

pub follows_trans : (a b c : Access) → IsFollowedBy a b → IsFollowedBy b c → IsFollowedBy a c
follows_trans a b c one two = record {
  deeds = one.deeds ∙ two.deeds;
  calls = (let first : a.call ≤ b.call = one.calls in let second : b.call ≤ c.call = two.calls in omega arith);
  done = λ r is. (let q = two.done r is in let p = one.done q.0 q.1 in (p.0, p.1, no_later_trans p.0 q.0 r p.2 q.2));
  starts = λ p there. (let q = one.starts p there in let r = two.starts q.0 q.1 in (r.0, r.1, no_later_trans p q.0 r.0 q.2 r.2));
}

-- each of a chain is followed by what follows its last
pub all_follow : (chain : List Access) (i : ℕ) (last b : Access) → IsChain chain → slice_get chain i ≡ Some last → length chain ≤ i + 1 → IsFollowedBy last b → AreFollowedBy chain b
all_follow chain i last b is at end follows a there =
    let place = placed chain a there in
    let within : place.0 < length chain = slice_get_within chain place.0 a place.1 in
    follows_trans a last b (is place.0 i a last (omega arith) place.1 at) follows

module _ (chain : List Access) (b : Access) (is : IsChain chain) (follows : AreFollowedBy chain b) where
  -- what stands at an index, with one more
  pushed_at : (j : ℕ) (y : Access) → slice_get (chain ++ b ∷ []) j ≡ Some y → (slice_get chain j ≡ Some y) ⊎ ((j ≡ length chain) × (y ≡ b))
  pushed_at j y at = ⊎_elim
      (λ less. inl (read chain j y less (sym here ∙ get_or_append_left chain (b ∷ []) y j less)))
      (λ past.
      let end : j ≡ length chain = (let size = length-append chain (b ∷ []) in let inside = within in omega arith) in
      inr (end, sym here ∙ get_or_push chain b y j (sym end)))
      (cases_lt j (length chain))
    where
      here : get_or (chain ++ b ∷ []) j y ≡ y
      here = get_or_from_slice_get (chain ++ b ∷ []) j y y at

      within : j < length (chain ++ b ∷ [])
      within = slice_get_within (chain ++ b ∷ []) j y at

  pub chain_more : IsChain (chain ++ b ∷ [])
  chain_more i j x y le at_i at_j = by (pushed_at i x at_i) (pushed_at j y at_j)
    where
      by : (slice_get chain i ≡ Some x) ⊎ ((i ≡ length chain) × (x ≡ b)) → (slice_get chain j ≡ Some y) ⊎ ((j ≡ length chain) × (y ≡ b)) → IsFollowedBy x y
      by (inl first) (inl second) = is i j x y le first second
      by (inl first) (inr second) = subst (IsFollowedBy x) (sym second.1) (follows x (contained chain i x first))
      by (inr first) (inl second) =
          let within : j < length chain = slice_get_within chain j y second in
          let last : i ≡ length chain = first.0 in
          absurd (omega arith)
      by (inr first) (inr second) = subst (λ z. IsFollowedBy z y) (second.1 ∙ sym first.1) (follows_self y)

pub chain_left : (chain : List Access) (n : ℕ) → IsChain chain → IsChain (drop n chain)
chain_left chain n is i j x y le at_i at_j = is (n + i) (n + j) x y (omega arith) (before i x at_i) (before j y at_j)
  where
    before : (k : ℕ) (z : Access) → slice_get (drop n chain) k ≡ Some z → slice_get chain (n + k) ≡ Some z
    before k z at =
        let here : get_or (drop n chain) k z ≡ z = get_or_from_slice_get (drop n chain) k z z at in
        let left : k < length (drop n chain) = slice_get_within (drop n chain) k z at in
        let size = length-drop n chain in
        read chain (n + k) z (omega arith) (sym here ∙ get_or-drop n chain k z)

-- where one call is no later than another, and what it waits for opens no later, so is each point at which it may start
pub starts_follow : (rank other : Rank) (call later : ℕ) (opening next : Option Point) → rank ≡ other → call ≤ later
    → ((p : Point) → opening ≡ Some p → (q : Point) × (next ≡ Some q) × IsNoLater p q)
    → (p : Point) → Contains (starts_of rank call opening) p → (q : Point) × Contains (starts_of other later next) q × IsNoLater p q
starts_follow rank other call later opening next same le opens p there = by (start_cases rank call opening p there)
  where
    by : (p ≡ entry rank call) ⊎ (opening ≡ Some p) → (q : Point) × Contains (starts_of other later next) q × IsNoLater p q
    by (inl entered) = (entry other later, has_entry other later next, subst (λ t. IsNoLater t (entry other later)) (sym entered) (same, omega arith))
    by (inr opened) = let q = opens p opened in (q.0, has_opening other later next q.0 q.1, q.2)
