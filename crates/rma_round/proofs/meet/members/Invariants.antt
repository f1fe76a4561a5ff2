use Rattle.std.proofs.Common.{◌≡◌, take}
use Rattle.std.specs.List.{filter_map}
use Rattle.rma_round.specs.inside.Rounds.{row_entries}
use Rattle.rma_round.specs.inside.Met.{member_in}
use Rattle.rma_round.proofs.meet.members.Given as goal

-- the calls of the ranks before
abbrev pub invariant-loop-row : goal.invariant-loop-row
invariant-loop-row l = l.members ≡ filter_map (member_in l.place) (take l.row-index (row_entries l.rows))
