-- Numbers that are small enough to be computed with.
use Rattle.std.specs.Prelude.{ℕ, ◌*◌, ◌≤◌, ◌<◌, ℤ, pos, neg_ℤ, ◌≤ℤ◌, Option, Some, None}
use Rattle.rma_typemap.specs.declared.span.Span.{Span}
use Rattle.rma_typemap.specs.declared.blocks.Blocks.{Blocks}
use Rattle.rma_typemap.specs.declared.summary.Summary.{Summary}

-- a number is no further than `far` from 0
pub record IsNear (far : ℕ) (x : ℤ) : Type 0 where
  pub low : neg_ℤ (pos far) ≤ℤ x
  pub high : x ≤ℤ pos far

abbrev pub SpanIsNear : ℕ → Option Span → Type 0
SpanIsNear far None = Unit {0}
SpanIsNear far (Some a) = IsNear far a.low × IsNear far a.high

abbrev pub BlocksAreNear : ℕ → Option Blocks → Type 0
BlocksAreNear far None = Unit {0}
BlocksAreNear far (Some a) = IsNear far a.first × IsNear far a.last

-- fewer than n elements leave a gap to the one before
abbrev pub BlocksAreFew : ℕ → Option Blocks → Type 0
BlocksAreFew n None = Unit {0}
BlocksAreFew n (Some a) = a.gaps < n

-- elements have an alignment
abbrev pub IsAligned : ℕ → Option Span → Type 0
IsAligned alignment None = Unit {0}
IsAligned alignment (Some a) = 0 < alignment

-- all displacements of a summary are near
pub record IsNearby (far : ℕ) (a : Summary) : Type 0 where
  pub bytes : SpanIsNear far a.bytes
  pub lower : SpanIsNear far a.lower
  pub upper : SpanIsNear far a.upper
  pub blocks : BlocksAreNear far a.blocks

-- the counts of a summary fit one another, as they do where it is that of a typemap
pub record IsSound (a : Summary) : Type 0 where
  pub small : a.size ≤ 8 * a.entries
  pub low : a.alignment ≤ 8
  pub short : BlocksAreFew a.entries a.blocks
  pub aligned : IsAligned a.alignment a.bytes
