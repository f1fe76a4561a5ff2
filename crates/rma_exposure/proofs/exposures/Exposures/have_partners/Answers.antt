use Rattle.std.proofs.Common.{ℕ, List, ◌≤◌, length, Some, sym, subst, arith}
use Rattle.std.specs.Prelude.{All}
use Rattle.std.specs.Map.Iter.{deref_pair}
use Rattle.std.proofs.lemmas.Map.Iter.{rest_all}
use Rattle.rma_exposure.specs.Opening.{opposite}
use Rattle.rma_exposure.specs.Matching.{numbers}
use Rattle.rma_exposure.specs.inside.Epochs.{numbers_in}
use Rattle.rma_exposure.proofs.CountLemmas.{kept_all}
use Rattle.rma_exposure.proofs.exposures.Exposures.have_partners.Goals as goal

pub returns : goal.returns
returns c = λ is calls rep are window other.
    let theirs : List ℕ → ℕ → ℕ = λ name rank. length (numbers (opposite c.args.side) name c.args.rank.0 (calls rank)) in
    let end = rest_all deref_pair c.loop-window.window-iterator c.next.new.self c.next.result c.in-None.is c.next.ensures.steps in
    let all = c.loop-window.invariant calls rep (subst (All (λ e. (rank : ℕ) → length (numbers_in (Some e.1) rank) ≤ theirs e.0 rank)) (sym end) (λ k d lt. absurd (omega arith))) in
    subst (λ l. length l ≤ theirs window other) (are.numbers_are window other) (kept_all (λ name rank n. n ≤ theirs name rank) c.args.epochs.now.windows.entries (λ name rank. omega arith) all window other)
