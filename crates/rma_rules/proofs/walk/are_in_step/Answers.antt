use Rattle.std.proofs.Common.{w64}
use Rattle.std.proofs.lemmas.Int.{to_z-of_z}
use Rattle.std.proofs.lemmas.Bool.{eqb-true, eq-eqb}
use Rattle.rma_bytes.proofs.RegionLemmas.{start_fits}
use Rattle.rma_rules.proofs.StepLemmas.{in_step}
use Rattle.rma_rules.proofs.walk.are_in_step.Goals as goal

pub returns : goal.returns
returns c =
    let x = c.args.x in
    let y = c.args.y in
    let far = rw (to_z-of_z w64 x.start (start_fits x c.requires.x), to_z-of_z w64 y.start (start_fits y c.requires.y)) at c.distance.ensures in
    let told = in_step c.args.size c.distance.result x y c.requires.size far in
    (λ test. told.0 (eqb-true _ 0 test), λ steps. eq-eqb _ 0 (told.1 steps))
