-- The first points of each rank, as they are reached one by one (MPI 4.0, "MPI Terms and Conventions").
use Rattle.std.specs.Prelude.{ℕ, ◌≡◌, ◌+◌, ◌*◌, ◌<◌, ◌≤◌, List, [], ◌++◌, Option, Some, None, map, sum, slice_index, slice_get, slice_set, All}
use Rattle.rma_base.specs.Limits.{fed_limit}
use Rattle.rma_base.specs.declared.rank.Rank.{Rank}
use Rattle.rma_base.specs.declared.point.Point.{Point}
use Rattle.rma_link.specs.declared.edge.Edge.{Edge}
use Rattle.rma_link.specs.declared.links.Links.{Links}

-- how many points each rank has, by the numbers of calls of all ranks
abbrev pub points_of : List ℕ → List ℕ
points_of lens = map (λ calls. 2 * calls) lens

-- a point is one of the first of its rank, as many as the list says
abbrev pub IsReached : List ℕ → Point → Type 0
IsReached points p = p.pos < slice_index points p.rank.0

-- a point is the next one of its rank
abbrev pub IsNext : List ℕ → Point → Type 0
IsNext points p = slice_get points p.rank.0 ≡ Some p.pos

-- the numbers of points, with this next one
abbrev pub with_point : List ℕ → Point → List ℕ
with_point points p = slice_set points p.rank.0 (p.pos + 1)

-- an edge from each of these points to one
abbrev pub edges_to : Point → List Point → List Edge
edges_to to sources = map (λ from. record { from = from; to = to }) sources

-- links with these edges too
abbrev pub with_edges : Links → List Edge → Links
with_edges links edges = record links { edges = links.edges ++ edges }

-- no links
abbrev pub no_links : Links
no_links = record { edges = []; meets = [] }

-- a point comes next, after each of these, and there is room for one more
pub record CanSettle (points : List ℕ) (point : Point) (sources : List Point) : Type 0 where
  pub next : IsNext points point
  pub known : All (IsReached points) sources
  pub fits : sum points < 2 * fed_limit

-- the last reached point of a rank, if there is one
abbrev pub IsLastPoint : List ℕ → Rank → Option Point → Type 0
IsLastPoint points rank None = (p : Point) → p.rank ≡ rank → IsReached points p → ⊥
IsLastPoint points rank (Some last) = (last.rank ≡ rank) × IsReached points last × ((p : Point) → p.rank ≡ rank → IsReached points p → p.pos ≤ last.pos)
