use Rattle.std.proofs.Common.{ℕ, ◌≤◌, length, sym, subst, arith}
use Rattle.std.specs.Prelude.{All}
use Rattle.std.specs.Map.Iter.{deref_pair}
use Rattle.std.proofs.lemmas.Map.Iter.{rest_all}
use Rattle.rma_exposure.specs.Opening.{opposite}
use Rattle.rma_exposure.specs.Matching.{numbers}
use Rattle.rma_exposure.proofs.CountLemmas.{listed_all}
use Rattle.rma_exposure.proofs.exposures.Exposures.have_partners_on.Goals as goal

pub returns : goal.returns
returns c = λ is calls rep.
    let theirs : ℕ → ℕ = λ other. length (numbers (opposite c.args.side) c.args.window.now c.args.rank.0 (calls other)) in
    let end = rest_all deref_pair c.loop-other.other-iterator c.next.new.self c.next.result c.in-None.is c.next.ensures.steps in
    listed_all (λ other n. n ≤ theirs other) c.args.openings.now.numbers.entries (λ other. omega arith)
    (c.loop-other.invariant calls rep (subst (All (λ e. length e.1 ≤ theirs e.0)) (sym end) (λ k d lt. absurd (omega arith))))
