use Rattle.std.proofs.Common.{refl, sym, ◌∙◌, arith}
use Rattle.std.proofs.lemmas.Bool.Decides.{nat_tests}
use Rattle.std.proofs.lemmas.Option.{none-some}
use Rattle.rma_dyn.proofs.LiveLemmas.{still_until}
use Rattle.rma_dyn.proofs.live.is_still.Goals as goal

pub returns-in-Some : goal.returns-in-Some
returns-in-Some c =
    let h = c.in-Some.detach in
    let of = (c.detach_of.ensures h).0 c.in-Some.is in
    (λ test. still_until c.args.list.now c.args.own.now c.args.number h of (grind (arith, nat_tests)), λ still. let le = still h of in grind (arith, nat_tests))

pub returns-in-None : goal.returns-in-None
returns-in-None c = (λ test h of. absurd (none-some h (sym c.in-None.is ∙ (c.detach_of.ensures h).1 of)), λ still. refl)
