use Rattle.std.proofs.Common.{◌≡◌, ◌≢◌, ℕ, zero, suc, ◌-◌, ℤ, refl, ap, ◌∙◌, arith}
use Rattle.rma_typemap.proofs.Words.{Summary, with_more, repeated}
use Rattle.rma_typemap.proofs.WideLemmas.{near_kept, near_more}
use Rattle.rma_typemap.proofs.summary.repeat.Goals as goal

at_least_one : (n : ℕ) (stride : ℤ) (a : Summary) → n ≢ 0 → with_more (n - 1) stride a ≡ repeated n stride a
at_least_one zero stride a h = absurd (h refl)
at_least_one (suc n) stride a h = let one : suc n - 1 ≡ n = omega arith in ap (λ k. with_more k stride a) one

pub returns-else-count-eq0 : goal.returns-else-count-eq0
returns-else-count-eq0 c = c.extended.ensures ∙ ap (λ s. with_more (c.args.count - 1) s c.args.summary.now) (near_kept c.args.stride (near_more c.args.stride c.requires.stride_near)) ∙ at_least_one c.args.count c.args.stride c.args.summary.now c.if-count-eq0.false
