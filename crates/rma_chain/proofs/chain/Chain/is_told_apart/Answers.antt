use Rattle.std.proofs.Common.{◌≡◌, ◌-◌, length, Some, Contains, slice_get, sym, subst, arith}
use Rattle.rma_chain.proofs.ChainLemmas.{all_follow, follows_self}
use Rattle.rma_chain.proofs.DeedLemmas.{not_both}
use Rattle.rma_chain.proofs.PlaceLemmas.{contained}
use Rattle.rma_chain.proofs.chain.Chain.is_told_apart.Goals as goal

pub may_race-requires-clause-a : goal.may_race-requires-clause-a
may_race-requires-clause-a c =
    let chain = c.self.inside.accesses.items in
    let last = c.in-Some.last.now in
    let at : slice_get chain (length chain - 1) ≡ Some last = sym (subst (λ l. Some last ≡ slice_get l (length l - 1)) c.deref.ensures.value c.in-Some.ensures.value) in
    c.requires.a last (subst (λ l. Contains l last) c.self.view_is (contained chain (length chain - 1) last at))

pub may_race-requires-clause-b : goal.may_race-requires-clause-b
may_race-requires-clause-b c =
    let chain = c.self.inside.accesses.items in
    let last = c.in-Some.last.now in
    let at : slice_get chain (length chain - 1) ≡ Some last = sym (subst (λ l. Some last ≡ slice_get l (length l - 1)) c.deref.ensures.value c.in-Some.ensures.value) in
    c.requires.b last (subst (λ l. Contains l last) c.self.view_is (contained chain (length chain - 1) last at))

pub returns-then-saturating_add-le-FEW_RUNS : goal.returns-then-saturating_add-le-FEW_RUNS
returns-then-saturating_add-le-FEW_RUNS c = λ denied links spans a race has found.
    let chain = c.self.inside.accesses.items in
    let last = c.in-Some.last.now in
    let at : slice_get chain (length chain - 1) ≡ Some last = sym (subst (λ l. Some last ≡ slice_get l (length l - 1)) c.deref.ensures.value c.in-Some.ensures.value) in
    let follows = all_follow chain (length chain - 1) last last c.self.invariant at (omega arith) (follows_self last) a (subst (λ l. Contains l a) (sym c.self.view_is) has) in
    let yes = c.may_race.ensures.never links spans a race follows.deeds found in
    not_both c.may_race.result denied yes
