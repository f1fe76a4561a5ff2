-- The edges that links stand for.
use Rattle.std.specs.Prelude.{◌≡◌, ◌⊎◌, Contains}
use Rattle.rma_base.specs.declared.point.Point.{Point}
use Rattle.rma_link.specs.declared.meet.Member.{Member}
use Rattle.rma_link.specs.declared.meet.Meet.{Meet}
use Rattle.rma_link.specs.declared.links.Links.{Links}
use Rattle.rma_link.specs.Point.{entry, return_of}

-- a meet leads from the entry of each of its calls to the return of each other one
pub record IsMet (links : Links) (from to : Point) : Type 0 where
  pub meet : Meet
  pub first : Member
  pub second : Member
  pub is_meet : Contains links.meets meet
  pub has_first : Contains meet.calls first
  pub has_second : Contains meet.calls second
  pub differ : first ≡ second → ⊥
  pub from_entry : from ≡ entry first.rank first.call
  pub to_return : to ≡ return_of second.rank second.call

-- links lead from one point to another by an edge or by a meet
abbrev pub IsLinked : Links → Point → Point → Type 0
IsLinked links from to = Contains links.edges (record { from = from; to = to }) ⊎ IsMet links from to
