use Rattle.std.proofs.Common.{◌≡◌, ℤ, List, ◌++◌}
use Rattle.std.specs.Prelude.{option_map}
use Rattle.rma_field.specs.inside.Listed.{Lists}
use Rattle.rma_field.specs.Ranks.{numbers, pieces, pieces_left}
use Rattle.rma_field.proofs.RankFieldLemmas.{left_length}
use Rattle.rma_field.proofs.rank_set.read_numbers.Given as goal

abbrev pub invariant-pieces : goal.invariant-pieces
invariant-pieces l = (zs : List ℤ) × (numbers (pieces l.fn.text) ≡ option_map (λ more. zs ++ more) (numbers (pieces_left l.rest))) × Lists l.last l.listed zs

abbrev pub decreases-pieces : goal.decreases-pieces
decreases-pieces l = left_length l.rest
