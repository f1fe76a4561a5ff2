use Rattle.std.proofs.Common.{◌≡◌, rules}
use Rattle.std.proofs.lemmas.Fn.{always_returns_same}
use Rattle.rma_concurrent.specs.inside.Places.{is_in_step}
use Rattle.rma_concurrent.proofs.ExposureLemmas.{closes_rise}
use Rattle.rma_concurrent.proofs.exposures.closes_rise.Goals as goal

pub returns : goal.returns
returns c = λ test.
    let steps = c.is_sorted_by.ensures.cases is_in_step (always_returns_same _ (λ a r. r ≡ is_in_step a.0.now a.1.0.now) _ (λ a r f called. search rules)) in
    closes_rise c.args.list.now c.requires (rw test at steps)
