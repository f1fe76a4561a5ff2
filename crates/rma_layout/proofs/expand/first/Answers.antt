use Rattle.std.proofs.Common.{◌≡◌, ◌+ℤ◌, OnOk, IfErr, sym, ap, subst, ◌∙◌, arith}
use Rattle.rma_layout.proofs.Words.{ints, span, moved, Appends, Refuses}
use Rattle.rma_layout.proofs.BytesLemmas.{moved_span}
use Rattle.rma_layout.specs.inside.Frames.{bytes_at}
use Rattle.rma_layout.proofs.expand.first.Goals as goal

same_bytes : (c : goal.After-push) → span c.in_ok-first-in-Some.first.start c.in_ok-first-in-Some.first.len ≡ bytes_at c.args.types.now.origins c.args.id c.args.by
same_bytes c =
    let by : c.new.result ≡ c.args.by = omega (arith, ints, c.new.ensures) in
    ap (λ n. span c.in_ok-first-in-Some.first.start n) c.in_ok-first-in-Some.ensures.len ∙ ap (λ x. span x c.in-Some.block.len) (c.in_ok-first-in-Some.ensures.start ∙ ap (λ x. x +ℤ c.in-Some.block.start) by)
    ∙ sym (moved_span c.args.by c.in-Some.block.start c.in-Some.block.len) ∙ ap (moved c.args.by) c.in-Some.ensures.some

pub returns-in_ok-first-in-Some-clause-ok : goal.returns-in_ok-first-in-Some-clause-ok
returns-in_ok-first-in-Some-clause-ok c = subst (λ xs. OnOk c.push.result (Appends c.args.output.now c.push.new.self xs)) (same_bytes c) c.push.ensures.ok

pub returns-in_ok-first-in-Some-clause-fault : goal.returns-in_ok-first-in-Some-clause-fault
returns-in_ok-first-in-Some-clause-fault c = subst (λ xs. IfErr c.push.result (Refuses c.args.output.now xs)) (same_bytes c) c.push.ensures.fault
