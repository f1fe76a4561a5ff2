use Rattle.std.proofs.Common.{◌≡◌, ◌↔◌, ◌⊎◌, Contains, sym, subst}
use Rattle.std.proofs.lemmas.Result.{on_ok_weaker}
use Rattle.rma_history.specs.inside.Overlaps.{accesses_of}
use Rattle.rma_history.proofs.KeptLemmas.{begun_alone, went_on}
use Rattle.rma_history.proofs.history.add.Goals as goal

pub returns-in-Some : goal.returns-in-Some
returns-in-Some c =
    let home = (rw c.in-Some.is at c.requires) in
    on_ok_weaker
    c.go_on.result
    (λ told a. subst (λ l. Contains (accesses_of l) a ↔ (Contains (accesses_of c.args.kept.now) a ⊎ (a ≡ c.args.access))) (sym (told home.0 home.1)) (went_on c.args.kept.now c.in-Some.index home.0 c.args.access home.1 a))
    c.go_on.ensures.ok

pub returns-in_ok-of-in-None : goal.returns-in_ok-of-in-None
returns-in_ok-of-in-None c =
    on_ok_weaker
    c.begin.result
    (λ is a. subst (λ l. Contains (accesses_of l) a ↔ (Contains (accesses_of c.args.kept.now) a ⊎ (a ≡ c.args.access))) (sym is) (begun_alone c.args.kept.now c.in_ok-of-in-None.field-0 c.args.access a c.in_ok-of-in-None.ensures))
    c.begin.ensures
