use Rattle.rma_round.specs.declared.kind.Kind.TheVariants as kind
use Rattle.rma_difference.proofs.all_rounds.AllRounds.scan.Goals as goal

pub returns : goal.returns
returns c = λ done own before at rank are.
    let place = c.place-place.ensures done own before at are.collectives_are in
    record {
      collectives_are = c.in_ok-scan.ensures kind.Collective done own before at rank place are.collectives_are;
      frees_are = c.in_ok-scan-2.ensures kind.Free done own before at rank place are.frees_are;
      fences_are = c.in_ok-scan-3.ensures kind.Fence done own before at rank place are.fences_are;
      movings_are = c.in_ok-scan-4.ensures kind.Moving done own before at rank place are.movings_are;
    }
