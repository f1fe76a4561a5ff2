use Rattle.std.proofs.Common.{Option, OnOk, sym, subst}
use Rattle.rma_link.specs.declared.links.Links.{Links}
use Rattle.rma_clock.specs.Reached.{points_of}
use Rattle.rma_run.specs.Run.{lens_of}
use Rattle.rma_rules.specs.Access.{Access}
use Rattle.rma_concurrent.specs.inside.Places.{HasMore}
use Rattle.rma_dyn.specs.inside.Run.{IsAtOption}
use Rattle.rma_dyn.proofs.regions.add_some.Goals as goal

pub returns-in-Some : goal.returns-in-Some
returns-in-Some g c =
    subst
    (λ (o : Option Access).
    OnOk c.add_access.result
    ((links : Links) → g.C.Clocks.are_of c.args.clocks.now (points_of (lens_of c.args.ranks.now)) links → HasMore (IsAtOption links c.args.windows.now c.args.known.now.list.items o) c.args.found.now.items c.add_access.new.found.items))
    (sym c.in-Some.is) c.add_access.ensures
