use Rattle.std.proofs.Common.{Result, Ok, Err}
use Rattle.std.specs.Result.{IfOk}
use Rattle.rma_clock.specs.Reached.{points_of}
use Rattle.rma_cut.proofs.AskedLemmas.{asked_reached, counted_least}
use Rattle.rma_cut.proofs.make.least_cut.Goals as goal

if_both : {T E : Type 0} (r : Result T E) (P Q R : T → Type 0) → ((x : T) → P x → Q x → R x) → IfOk r P → IfOk r Q → IfOk r R
if_both (Ok x) P Q R so one two = so x one two
if_both (Err e) P Q R so one two = tt

pub cut_before-requires-clause-clocks : goal.cut_before-requires-clause-clocks
cut_before-requires-clause-clocks g c =
    let some = c.requires.clocks in
    (some.0, some.1, λ p asked. asked_reached c.args.windows.now c.args.spans.now c.args.a.now c.args.b.now (points_of c.args.lens.now) some.2 p ((c.asked_points-asked.ensures p).0 asked))

pub returns : goal.returns
returns g c =
    let windows = c.args.windows.now in
    let spans = c.args.spans.now in
    let a = c.args.a.now in
    let b = c.args.b.now in
    let lens = c.args.lens.now in
    let asked = c.asked_points-asked.result in
    let same = c.asked_points-asked.ensures in
    if_both c.cut_before.result _ _ _
    (λ cut size counts links are closed reached.
    counted_least links lens windows spans a b asked same reached closed cut size (counts links are (λ p asks. asked_reached windows spans a b (points_of lens) reached p ((same p).0 asks)))) c.cut_before.ensures.size
    c.cut_before.ensures.counts
