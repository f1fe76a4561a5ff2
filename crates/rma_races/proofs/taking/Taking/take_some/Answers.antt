use Rattle.std.proofs.Common.{◌++◌, [], IfSome, Option, sym, subst}
use Rattle.std.specs.Prelude.{Contains}
use Rattle.std.specs.List.{cons_option}
use Rattle.rma_rules.specs.Access.{Access}
use Rattle.rma_rules.proofs.ListLemmas.{OnOk_map}
use Rattle.rma_span.specs.Span.{accesses}
use Rattle.rma_history.specs.History.{IsToCome}
use Rattle.rma_races.specs.inside.Taking.{AreTaken}
use Rattle.rma_races.proofs.taking.Taking.take_some.Goals as goal

pub returns-in-Some-clause-taken : goal.returns-in-Some-clause-taken
returns-in-Some-clause-taken g c =
    OnOk_map c.take_access.result
    (λ all ranks links seen known clocks taken has comes.
    let is = c.in-Some.is in
    subst (λ (o : Option Access). AreTaken links c.args.windows.now c.args.lists.now ranks (seen ++ cons_option o []) c.take_access.new.self) (sym is)
    (all ranks links seen known clocks taken (subst (λ (o : Option Access). IfSome o (Contains (accesses ranks))) is has) (subst (λ (o : Option Access). IfSome o (IsToCome c.args.self.now.next.items)) is comes)))
    c.take_access.ensures.taken
