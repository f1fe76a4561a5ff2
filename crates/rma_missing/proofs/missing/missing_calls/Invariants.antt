use Rattle.std.proofs.Common.{◌≡◌, take}
use Rattle.rma_round.specs.declared.kind.Kind.TheVariants as kind
use Rattle.rma_agreement.specs.Collective.{walked_all}
use Rattle.rma_missing.specs.Missing.{missing_of, missing_at}
use Rattle.rma_missing.specs.inside.Missing.{AreMissingCalls}
use Rattle.rma_missing.proofs.missing.missing_calls.Given as goal

-- the calls of the ranks so far are judged
abbrev pub invariant-loop-rank : goal.invariant-loop-rank
invariant-loop-rank l = record {
  missing : AreMissingCalls l.ranks l.missing;
  calls : l.faults.calls ≡ walked_all (missing_at l.ranks) (take l.rank-index l.ranks);
  movings : l.faults.movings ≡ walked_all (missing_of kind.Moving l.ranks) (take l.rank-index l.ranks);
}
