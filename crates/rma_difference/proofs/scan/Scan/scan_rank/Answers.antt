use Rattle.std.proofs.Common.{◌≡◌, ◌++◌, [], ◌∷◌, List, Some, slice_get, take, sym, subst, arith}
use Rattle.std.proofs.lemmas.List.{take_all}
use Rattle.rma_call.specs.Call.{Call, call_of}
use Rattle.rma_agreement.specs.Collective.{so_far}
use Rattle.rma_difference.specs.inside.Scan.{HasScanned}
use Rattle.rma_agreement.proofs.WalkLemmas.{taken_there}
use Rattle.rma_difference.proofs.ScanLemmas.{HasScanned_begun, HasScanned_next}
use Rattle.rma_difference.proofs.scan.Scan.scan_rank.Goals as goal

pub loop-i-init : goal.loop-i-init
loop-i-init c = λ done at has. HasScanned_begun done c.args.rank.now c.args.index c.args.self.now has

pub loop-i-preserved : goal.loop-i-preserved
loop-i-preserved c = λ done at has.
    let own = c.args.rank.now in
    let i = c.loop-i.i in
    let call = call_of c.get.result in
    let there : slice_get own.calls i ≡ Some call = rw (← c.calls-calls.ensures) c.get.ensures in
    subst (λ (l : List Call). HasScanned (so_far done own l) c.args.index c.scan.new.self) (sym (taken_there own.calls i call there))
    (c.in_ok-scan.ensures done own (take i own.calls) at (sym c.rank.ensures) (c.loop-i.invariant done at has))

pub returns : goal.returns
returns c = λ done at has.
    let own = c.args.rank.now in
    let i = c.loop-i.i in
    let whole : take i own.calls ≡ own.calls = take_all i own.calls (rw (← c.calls-calls.ensures) (omega arith)) in
    HasScanned_next (done ++ own ∷ []) c.args.index c.loop-i.self
    (subst (λ (l : List Call). HasScanned (so_far done own l) c.args.index c.loop-i.self) whole (c.loop-i.invariant done at has))
