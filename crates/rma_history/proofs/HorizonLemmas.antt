-- What is known of the points of each rank.
use Rattle.std.proofs.Common.{◌≡◌, ◌≤◌, ◌<◌, ℕ, List, Option, Some, get_or, length, set, slice_get, refl, sym, subst, ◌∙◌, arith, ⊎_elim}
use Rattle.std.proofs.lemmas.Bool.{cases_eq}
use Rattle.std.proofs.lemmas.List.{get_or-set_other, get_or-set_same, length-set}
use Rattle.std.proofs.lemmas.Option.{get_or_from_slice_get, same_Some, slice_get_within}
use Rattle.rma_base.specs.declared.point.Point.{Point}
use Rattle.rma_link.specs.declared.links.Links.{Links}
use Rattle.rma_link.proofs.OrderLemmas.{at_or_before_trans, later_position}
use Rattle.rma_chain.proofs.PlaceLemmas.{read}
use Rattle.rma_history.specs.inside.Passed.{AreBehind, IsBeforeAll}

module _ (links : Links) (next known : List (Option ℕ)) (p : Point) (behind : AreBehind links next known) where
  -- what comes before the known point of its rank is before all next calls
  pub known_passes : (pos : ℕ) → slice_get known p.rank.0 ≡ Some (Some pos) → p.pos ≤ pos → IsBeforeAll links next p
  known_passes pos at le rank call is = at_or_before_trans links (later_position links p (record { rank = p.rank; pos = pos }) refl le) (behind p.rank pos at rank call is)

  -- a point that is before all next calls may be taken for the known one of its rank
  pub noted : IsBeforeAll links next p → AreBehind links next (set known p.rank.0 (Some p.pos))
  noted all rank pos at = ⊎_elim own other (cases_eq p.rank.0 rank.0)
    where
      within : rank.0 < length known
      within =
          let past = slice_get_within (set known p.rank.0 (Some p.pos)) rank.0 (Some pos) at in
          let size = length-set known p.rank.0 (Some p.pos) in
          omega (arith, past, size)

      found : get_or (set known p.rank.0 (Some p.pos)) rank.0 (Some pos) ≡ Some pos
      found = get_or_from_slice_get (set known p.rank.0 (Some p.pos)) rank.0 (Some pos) (Some pos) at

      own : p.rank.0 ≡ rank.0 → IsBeforeAll links next (record { rank = rank; pos = pos })
      own same =
          let last : get_or (set known p.rank.0 (Some p.pos)) rank.0 (Some pos) ≡ Some p.pos = subst (λ n. get_or (set known p.rank.0 (Some p.pos)) n (Some pos) ≡ Some p.pos) same (get_or-set_same known p.rank.0 (Some p.pos) (Some pos) (subst (λ n. n < length known) (sym same) within)) in
          let at_pos : p.pos ≡ pos = same_Some p.pos pos (sym last ∙ found) in
          subst (λ (n : ℕ). IsBeforeAll links next (record { rank = record { 0 = n }; pos = pos })) same (subst (λ (n : ℕ). IsBeforeAll links next (record { rank = p.rank; pos = n })) at_pos all)

      other : (p.rank.0 ≡ rank.0 → ⊥) → IsBeforeAll links next (record { rank = rank; pos = pos })
      other apart = behind rank pos (read known rank.0 (Some pos) within (sym found ∙ get_or-set_other known p.rank.0 rank.0 (Some p.pos) (Some pos) (λ same. apart (sym same))))
