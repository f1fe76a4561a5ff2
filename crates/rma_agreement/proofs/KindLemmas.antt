-- What is so of each kind of calls.
use Rattle.rma_round.specs.declared.kind.Kind.{Kind}
use Rattle.rma_round.specs.declared.kind.Kind.TheVariants.{Collective, Free, Fence, Moving}

-- what is so of four kinds is so of every kind
pub of_every_kind : (P : Kind → Type 0) → P Collective → P Free → P Fence → P Moving → (kind : Kind) → P kind
of_every_kind P collectives frees fences movings Collective = collectives
of_every_kind P collectives frees fences movings Free = frees
of_every_kind P collectives frees fences movings Fence = fences
of_every_kind P collectives frees fences movings Moving = movings
