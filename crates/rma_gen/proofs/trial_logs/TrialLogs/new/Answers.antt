use Rattle.std.proofs.Common.{length, map, All, ap, sym, subst, ◌∙◌, arith}
use Rattle.rma_gen.specs.inside.Parts.{IsPlace, tape_at}
use Rattle.rma_gen.proofs.TrialLemmas.{start_length, start_places, start_tapes}
use Rattle.rma_gen.specs.declared.trial.Trial.{Trial}
use Rattle.rma_gen.proofs.trial_logs.TrialLogs.new.Goals as goal

pub invariant_of-result : goal.invariant_of-result
invariant_of-result c =
    let trial : Trial = record { ranks = c.args.ranks; rounds = c.args.rounds; seed = c.args.seed } in
    record {
      can_run = c.requires;
      one_a_rank = ap (λ them. length them) c.first_places.ensures ∙ start_length c.args.ranks;
      places = subst (All (IsPlace trial)) (sym c.first_places.ensures) (start_places trial c.args.ranks (omega arith));
      turn_is = omega (arith, c.requires.some_ranks);
    }

pub returns : goal.returns
returns c =
    let trial : Trial = record { ranks = c.args.ranks; rounds = c.args.rounds; seed = c.args.seed } in
    ap (λ them. record { tapes = map (tape_at trial) them; turn = 0 }) c.first_places.ensures
    ∙ ap (λ them. record { tapes = them; turn = 0 }) (start_tapes trial c.args.ranks)
