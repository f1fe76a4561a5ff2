-- The rank that another one has to wait for.
use Rattle.std.proofs.Common.{◌≡◌, ℕ, ◌+◌, ◌*◌, ◌<◌, ◌≤◌, inr, List, length, sym, ap, arith, ⊎_elim}
use Rattle.std.specs.Prelude.{slice_index}
use Rattle.std.proofs.lemmas.Bool.{cases_lt}
use Rattle.rma_base.specs.declared.rank.Rank.{Rank}
use Rattle.rma_link.specs.declared.links.Links.{Links}
use Rattle.rma_link.specs.Order.{IsAtOrBefore, IsAfterCycle}
use Rattle.rma_link.specs.Order.IsAtOrBefore.{at, before}
use Rattle.rma_link.specs.Within.{AreWithin}
use Rattle.rma_link.proofs.OrderLemmas.{at_or_before_trans, later_position, linked_within}
use Rattle.rma_walk.specs.inside.Run.{IsBlocked, next_point}
use Rattle.rma_walk.proofs.PendingLemmas.{in_ranks}

module _ (lens : List ℕ) (links : Links) (next : List ℕ) (current : ℕ) (within : AreWithin lens links) (other : ℕ) (blocked : IsBlocked lens links next current other) where
  pub other_within : other < length lens
  other_within =
      let p = blocked.1.0 in
      let start = (linked_within lens links p (next_point next current) within blocked.1.2).0 in
      let there : p.rank.0 < length lens = in_ranks lens p.rank.0 start.0 start.1 in
      let same = blocked.1.1 in
      omega arith

  not_past : slice_index next other ≤ blocked.1.0.pos
  not_past =
      let p = blocked.1.0 in
      let same : slice_index next p.rank.0 ≡ slice_index next other = ap (slice_index next) blocked.1.1 in
      ⊎_elim
      (λ (past : p.pos < slice_index next p.rank.0). absurd (blocked.1.3 past))
      (λ (upto : slice_index next p.rank.0 ≤ p.pos). omega arith)
      (cases_lt p.pos (slice_index next p.rank.0))

  to_source : IsAtOrBefore links (next_point next other) blocked.1.0
  to_source =
      let R : ℕ → Rank = λ r. record { 0 = r } in
      later_position links (next_point next other) blocked.1.0 (ap R (sym blocked.1.1)) not_past

  source_first : IsAtOrBefore links blocked.1.0 (next_point next current)
  source_first = before at (inr (inr blocked.1.2))

  pub other_first : IsAtOrBefore links (next_point next other) (next_point next current)
  other_first = at_or_before_trans links to_source source_first

  -- the source is an entry, so it is no return
  source_differs : blocked.1.0 ≡ next_point next current → ⊥
  source_differs same =
      let start = (linked_within lens links blocked.1.0 (next_point next current) within blocked.1.2).0 in
      let even : blocked.1.0.pos ≡ 2 * start.0 = start.2 in
      let odd : slice_index next current ≡ 2 * blocked.0.0 + 1 = blocked.0.2 in
      let alike : blocked.1.0.pos ≡ slice_index next current = ap (λ p. p.pos) same in
      absurd (omega arith)

  pub other_has_next : slice_index next other < 2 * slice_index lens other
  other_has_next =
      let p = blocked.1.0 in
      let start = (linked_within lens links p (next_point next current) within blocked.1.2).0 in
      let same : slice_index lens p.rank.0 ≡ slice_index lens other = ap (slice_index lens) blocked.1.1 in
      let lt = start.1 in
      let even = start.2 in
      let upto = not_past in
      omega arith

  -- where it comes after the one that waits, they are on a cycle
  pub cycle_back : IsAtOrBefore links (next_point next current) (next_point next other) → IsAfterCycle links (next_point next current)
  cycle_back back = (blocked.1.0, (next_point next current, source_differs, source_first, at_or_before_trans links back to_source), source_first)
