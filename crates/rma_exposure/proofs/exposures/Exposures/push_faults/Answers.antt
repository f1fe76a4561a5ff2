use Rattle.std.proofs.Common.{◌≡◌, List, ◌++◌, Some, slice_get, take, length, refl, ap, ◌∙◌, append_assoc}
use Rattle.std.specs.List.{flat_map}
use Rattle.std.proofs.lemmas.Option.{slice_get_read}
use Rattle.rma_call.specs.Call.{RankCalls}
use Rattle.rma_call.specs.declared.match_fault.MatchFault.{MatchFault}
use Rattle.rma_run.specs.Run.{calls_of, by_number}
use Rattle.rma_exposure.specs.Fault.{faults_at}
use Rattle.rma_run.proofs.WalkLemmas.{flat_map_taken}
use Rattle.rma_exposure.proofs.RunLemmas.{own_calls, own_of_run}
use Rattle.rma_exposure.proofs.exposures.Exposures.push_faults.Goals as goal

pub loop-rank-preserved : goal.loop-rank-preserved
loop-rank-preserved c =
    let ranks = c.args.ranks.now in
    let i = c.loop-rank.rank-index in
    let own = c.rank-item.result in
    let there : slice_get ranks i ≡ Some own = slice_get_read ranks (length ranks) i own refl c.loop-rank-test.true c.rank-item.is in
    let faults : RankCalls → List MatchFault = λ r. by_number (faults_at c.args.side (calls_of ranks) r.rank) 0 r.calls in
    c.in_ok-push_rank_faults.ensures (calls_of ranks) c.requires.represents (own_calls ranks i own there (c.requires.run.in_order i own there))
    ∙ ap (λ l. l ++ faults own) c.loop-rank.invariant
    ∙ append_assoc c.args.faults.now (flat_map faults (take i ranks)) (faults own)
    ∙ ap (λ l. c.args.faults.now ++ l) (flat_map_taken faults ranks i own there)

pub push_rank_faults-requires : goal.push_rank_faults-requires
push_rank_faults-requires c =
    let ranks = c.args.ranks.now in
    let i = c.loop-rank.rank-index in
    let own = c.rank-item.result in
    let there : slice_get ranks i ≡ Some own = slice_get_read ranks (length ranks) i own refl c.loop-rank-test.true c.rank-item.is in
    own_of_run ranks i own c.args.self.now there (c.requires.run.in_order i own there) c.requires.represents
