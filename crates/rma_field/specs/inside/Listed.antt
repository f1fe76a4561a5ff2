-- What is kept of numbers that should be ranks.
use Rattle.std.specs.Prelude.{◌≡◌, ℕ, ℤ, List, map, filter, not}
use Rattle.std.specs.List.{list_all}
use Rattle.rma_base.specs.RankSet.{number_of}
use Rattle.rma_field.specs.declared.rank_set.Listed.{Listed}
use Rattle.rma_field.specs.Ranks.{is_rank, natural_of}

-- those that are ranks, and whether some number is none
pub record Lists (last : ℕ) (listed : Listed) (zs : List ℤ) : Type 0 where
  pub ranks : map number_of listed.ranks.items ≡ map natural_of (filter (is_rank last) zs)
  pub far : listed.far ≡ not (list_all (is_rank last) zs)
