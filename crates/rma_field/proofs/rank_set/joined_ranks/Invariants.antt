use Rattle.std.proofs.Common.{◌≡◌, ◌∷◌, take, map}
use Rattle.std.specs.Prelude.{string_bytes, decimal}
use Rattle.std.specs.List.{join_with_byte}
use Rattle.rma_field.proofs.rank_set.joined_ranks.Given as goal

abbrev pub invariant-loop-rank : goal.invariant-loop-rank
invariant-loop-rank l = string_bytes l.text ≡ join_with_byte 44 (map decimal (l.fn.first ∷ take l.rank-index l.more))
