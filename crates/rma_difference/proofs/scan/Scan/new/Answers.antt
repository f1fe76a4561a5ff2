use Rattle.std.proofs.Common.{◌≡◌, ◌+◌, ℕ, List, length, take, sym, subst, arith, length-take}
use Rattle.std.proofs.lemmas.List.{take_all}
use Rattle.rma_call.specs.Call.{RankCalls}
use Rattle.rma_difference.specs.inside.Scan.{HasScanned}
use Rattle.rma_agreement.proofs.WalkLemmas.{taken}
use Rattle.rma_difference.proofs.scan.Scan.new.Goals as goal

pub loop-index-preserved : goal.loop-index-preserved
loop-index-preserved c =
    let ranks = c.args.ranks.now in
    let i = c.loop-index.index in
    let own = c.index-ranks-index.result in
    let at : length (take i ranks) ≡ i = simp length-take (omega arith) in
    subst (λ (l : List RankCalls). HasScanned l (i + 1) c.scan_rank.new.self) (sym (taken ranks i own c.loop-index-test.true c.index-ranks-index.is))
    (c.in_ok-scan_rank.ensures (take i ranks) at c.loop-index.invariant)

pub returns : goal.returns
returns c =
    let ranks = c.args.ranks.now in
    let i = c.loop-index.index in
    let whole : take i ranks ≡ ranks = take_all i ranks (omega arith) in
    let all : i ≡ length ranks = omega arith in
    subst (λ (n : ℕ). HasScanned ranks n c.loop-index.scan) all (subst (λ (l : List RankCalls). HasScanned l i c.loop-index.scan) whole c.loop-index.invariant)
