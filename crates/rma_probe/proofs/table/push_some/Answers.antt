use Rattle.std.proofs.Common.{subst, sym}
use Rattle.std.specs.Prelude.{All, Contains, IfSome}
use Rattle.std.proofs.lemmas.List.Elements.{All-push}
use Rattle.rma_span.specs.Span.{accesses}
use Rattle.rma_probe.proofs.table.push_some.Goals as goal

pub returns-in_ok-push : goal.returns-in_ok-push
returns-in_ok-push c = λ ranks one all.
    let P = Contains (accesses ranks) in
    subst (All P) (sym c.in_ok-push.ensures.items) (All-push P c.args.all.now.items c.in-Some.access all (subst (λ o. IfSome o P) c.in-Some.is one))
