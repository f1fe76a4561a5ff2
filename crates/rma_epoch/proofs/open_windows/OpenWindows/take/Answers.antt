use Rattle.std.proofs.Common.{subst}
use Rattle.rma_call.specs.Call.{call_of}
use Rattle.rma_epoch.specs.inside.Windows.{IsPlaceOf, names_in}
use Rattle.rma_epoch.proofs.LiveLemmas.{IfOk_map}
use Rattle.rma_epoch.proofs.PlaceLemmas.{taken_nowhere}
use Rattle.rma_epoch.proofs.open_windows.OpenWindows.take.Goals as goal

pub returns-in-Some-clause-taken : goal.returns-in-Some-clause-taken
returns-in-Some-clause-taken c =
    let call = call_of c.args.call in
    let names = names_in c.args.self.now in
    IfOk_map c.take_at.result (λ step is windows calls at number are. is windows calls (subst (IsPlaceOf windows names call.what) c.in-Some.is at) number are.windows_are) c.take_at.ensures.taken

pub returns-in-None-clause-taken : goal.returns-in-None-clause-taken
returns-in-None-clause-taken c = λ windows calls at number are.
    let call = call_of c.args.call in
    let own = c.args.self.now in
    taken_nowhere windows calls call c.none.result own.windows.entries c.none.ensures (subst (IsPlaceOf windows (names_in own) call.what) c.in-None.is at) are.windows_are
