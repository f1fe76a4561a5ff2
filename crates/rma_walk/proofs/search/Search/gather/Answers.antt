use Rattle.std.proofs.Common.{◌≡◌, List, ℕ, true, subst}
use Rattle.std.proofs.lemmas.Result.{IfOk-weaker}
use Rattle.rma_walk.specs.declared.source.Source.TheVariants.{Meet}
use Rattle.rma_walk.specs.inside.Run.{IsReady}
use Rattle.rma_walk.specs.inside.Pending.{IsAlone, IsSourcePassed}
use Rattle.rma_walk.specs.inside.Search.{IsAhead}
use Rattle.rma_walk.proofs.ListLemmas.{ok_both}
use Rattle.rma_walk.proofs.AheadLemmas.{ready_after}
use Rattle.rma_walk.proofs.search.Search.gather.Goals as goal

pub returns-in-Some-clause-ready : goal.returns-in-Some-clause-ready
returns-in-Some-clause-ready c =
    let lens = c.args.run.now.lens.now in
    let links = c.args.run.now.links.now in
    let old = c.args.self.now in
    let new = c.gather_members.new.self in
    let current = c.args.current in
    let index = c.in-Some.index in
    let Ahead : Type 0 = IsAhead lens links current old new in
    let P : List ℕ → Type 0 = λ next. IsAlone next old.pending.inboxes.items current index in
    IfOk-weaker c.gather_members.result (λ all. Ahead × (all ≡ true → IsSourcePassed links new.front.next.items (Meet index))) (λ all. all ≡ true → IsReady links new.front.next.items current)
    (λ all facts so. ready_after lens links current old new index facts.0 c.gather_members.ensures.inboxes c.requires.next (subst P c.deref.ensures.value c.in-Some.ensures.alone) (facts.1 so))
    (ok_both c.gather_members.result Ahead (λ all. all ≡ true → IsSourcePassed links new.front.next.items (Meet index)) c.gather_members.ensures.ahead c.gather_members.ensures.passed)
