use Rattle.std.proofs.Common.{◌≡◌, ◌↔◌, ◌<◌, ℕ, Contains, length, subst, ap, ◌∙◌, arith}
use Rattle.rma_history.proofs.OverlapLemmas.{listed_more}
use Rattle.rma_history.proofs.overlaps.Overlaps.all.Goals as goal

pub loop-index-preserved : goal.loop-index-preserved
loop-index-preserved c = listed_more c.loop-index.all.items c.push.new.self.items c.loop-index.index c.in_ok-push.ensures.items c.loop-index.invariant

pub returns : goal.returns
returns c =
    let chains = c.self.inside.chains.items in
    let count : c.in-Ok.count ≡ length chains = c.in-Ok.ensures.1 ∙ c.len.ensures ∙ c.self.inside.chains.ok.0 in
    let size : length chains ≡ length c.args.self.now = ap length c.self.view_is in
    let end : c.loop-index.index ≡ length c.args.self.now = omega arith in
    subst (λ (n : ℕ). (i : ℕ) → Contains c.loop-index.all.items i ↔ (i < n)) end c.loop-index.invariant
