-- Points that are reached.
use Rattle.std.proofs.Common.{◌≡◌, ℕ, ◌*◌, ◌<◌, ◌≤◌, List, length, arith, ⊎_elim}
use Rattle.std.specs.Prelude.{slice_index}
use Rattle.std.proofs.lemmas.Bool.{cases_lt}
use Rattle.std.proofs.lemmas.List.{get_or-map, get_or_past, length-map}
use Rattle.rma_base.specs.declared.point.Point.{Point}
use Rattle.rma_link.specs.Point.{IsPoint}
use Rattle.rma_clock.specs.Reached.{points_of, IsReached}

-- the rank of a reached point is one of those listed
pub in_reach : (points : List ℕ) (p : Point) → IsReached points p → p.rank.0 < length points
in_reach points p is =
    ⊎_elim
    (λ (there : p.rank.0 < length points). there)
    (λ (past : length points ≤ p.rank.0). let none : slice_index points p.rank.0 ≡ 0 = get_or_past points p.rank.0 0 past in absurd (omega arith))
    (cases_lt p.rank.0 (length points))

-- twice the calls are the points
pub points_at : (lens : List ℕ) (rank : ℕ) → slice_index (points_of lens) rank ≡ 2 * slice_index lens rank
points_at lens rank =
    ⊎_elim
    (λ (there : rank < length lens). get_or-map (λ calls. 2 * calls) lens rank 0 0 there)
    (λ (past : length lens ≤ rank).
    let size : length (points_of lens) ≡ length lens = length-map lens (λ calls. 2 * calls) in
    let none : slice_index lens rank ≡ 0 = get_or_past lens rank 0 past in
    let none_too : slice_index (points_of lens) rank ≡ 0 = get_or_past (points_of lens) rank 0 (omega arith) in
    omega arith)
    (cases_lt rank (length lens))

pub reached_point : (lens : List ℕ) (p : Point) → IsReached (points_of lens) p → IsPoint lens p
reached_point lens p is = let at = points_at lens p.rank.0 in omega arith

pub point_reached : (lens : List ℕ) (p : Point) → IsPoint lens p → IsReached (points_of lens) p
point_reached lens p is = let at = points_at lens p.rank.0 in omega arith
