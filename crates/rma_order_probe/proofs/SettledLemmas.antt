-- Settled points: the last one of a rank, those before it, and the next one.
use Rattle.std.proofs.Common.{◌≡◌, ℕ, ◌-◌, ◌*◌, ◌<◌, ◌≤◌, List, length, Some, None, refl, ap, subst, ◌∙◌, arith, ⊎_elim}
use Rattle.std.specs.Prelude.{All, slice_index, sum}
use Rattle.std.proofs.lemmas.Bool.{cases_lt}
use Rattle.std.proofs.lemmas.List.Elements.{All-weaker}
use Rattle.std.proofs.lemmas.Option.{slice_get-get_or}
use Rattle.rma_base.specs.Limits.{fed_limit}
use Rattle.rma_base.specs.declared.point.Point.{Point}
use Rattle.rma_base.specs.declared.rank.Rank.{Rank}
use Rattle.rma_clock.specs.Reached.{CanSettle, IsLastPoint, IsNext, IsReached}
use Rattle.rma_clock.specs.declared.live.LiveClocks.{LiveClocks}
use Rattle.rma_clock.specs.inside.Live.{AreLive}
use Rattle.rma_link.specs.declared.links.Links.{Links}
use Rattle.rma_order_probe.specs.Settled.{IsSettled}

-- a point that is not behind the last one is reached
pub reached_to_last : (points : List ℕ) (p last : Point) → IsLastPoint points p.rank (Some last) → p.pos ≤ last.pos → IsReached points p
reached_to_last points p last is le =
    let reached : last.pos < slice_index points p.rank.0 = subst (λ (rank : Rank). last.pos < slice_index points rank.0) is.0 is.1 in
    omega (arith, reached, le)

-- a point whose number is how many points its rank has is the next one
next_at : (points : List ℕ) (p : Point) → p.rank.0 < length points → slice_index points p.rank.0 ≡ p.pos → IsNext points p
next_at points p there count = slice_get-get_or points p.rank.0 0 there ∙ ap Some count

-- a point that is not reached is behind all that are
not_reached : (points : List ℕ) (p : Point) → (IsReached points p → ⊥) → slice_index points p.rank.0 ≤ p.pos
not_reached points p not =
    ⊎_elim (λ (before : p.pos < slice_index points p.rank.0). absurd (not before)) (λ (behind : slice_index points p.rank.0 ≤ p.pos). behind) (cases_lt p.pos (slice_index points p.rank.0))

-- the point behind the last one is the next
pub next_of_last : (points : List ℕ) (p last : Point) → p.rank.0 < length points → IsLastPoint points p.rank (Some last) → last.pos < p.pos → p.pos - 1 ≡ last.pos → IsNext points p
next_of_last points p last there is behind step =
    let reached : last.pos < slice_index points p.rank.0 = subst (λ (rank : Rank). last.pos < slice_index points rank.0) is.0 is.1 in
    let at_most = not_reached points p (λ reached_too. let le = is.2 p refl reached_too in absurd (omega (arith, le, behind))) in
    next_at points p there (omega (arith, reached, at_most, behind, step))

-- the first point is the next where none is reached
pub next_of_none : (points : List ℕ) (p : Point) → p.rank.0 < length points → IsLastPoint points p.rank None → p.pos ≡ 0 → IsNext points p
next_of_none points p there is first =
    let at_most = not_reached points p (is p refl) in
    next_at points p there (omega (arith, at_most, first))

-- the next point of its rank may be settled behind points that are, while there is room
pub can_settle : (clocks : LiveClocks) (points : List ℕ) (links : Links) (p : Point) (sources : List Point) → AreLive points links clocks → IsNext points p → All (IsSettled clocks) sources
    → sum points < 2 * fed_limit → CanSettle points p sources
can_settle clocks points links p sources are next settled fits = record {
  next = next;
  known = All-weaker (IsSettled clocks) (IsReached points) (λ source is. is.among points links are) sources settled;
  fits = fits;
}
