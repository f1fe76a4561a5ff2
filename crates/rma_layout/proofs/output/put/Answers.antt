use Rattle.std.proofs.Common.{◌≡◌, ◌+◌, ◌-◌, suc, length, set, drop, refl, sym, ap, ◌∙◌, arith}
use Rattle.std.proofs.lemmas.List.{take_at, length-set}
use Rattle.rma_layout.proofs.Words.{Block, bytes_of, Decides-int_eq}
use Rattle.rma_layout.proofs.OutputLemmas.{bytes_of_longer, bytes_of_push}
use Rattle.rma_layout.proofs.output.put.Goals as goal

pub returns-then-is-clause-bytes : goal.returns-then-is-clause-bytes
returns-then-is-clause-bytes c =
    let items = c.args.blocks.now.items in
    let last = c.index-deref-n.result in
    let i = c.len-n.result - 1 in
    let number : c.len-n.result ≡ length items = c.len-n.ensures.value in
    let end : suc i ≡ length items = omega (arith, number, c.if-n-floor.true) in
    let next = c.in_ok-end.ensures.ok in
    let len : c.in-Some.len ≡ last.len + c.args.block.len = c.in-Some.ensures.1 in
    let longer : Block = record last { len = c.in-Some.len } in
    let now = c.deref_mut.result.now in
    let written = take_at (set now i longer) (drop (length (set now i longer)) items) (length items) (length-set now i longer ∙ ap length c.deref_mut.ensures.value)
    ∙ ap (λ bs. set bs i longer) c.deref_mut.ensures.value in
    ap bytes_of written
    ∙ bytes_of_longer items i last _ c.args.block end (rw c.deref.ensures at c.index-deref-n.is) (sym next ∙ (Decides-int_eq c.in_ok-end.field-0 c.args.block.start).0 (sym c.is.ensures ∙ c.if-is.true)) refl len

pub returns-in-Ok-clause-bytes : goal.returns-in-Ok-clause-bytes
returns-in-Ok-clause-bytes c = bytes_of_push c.args.blocks.now.items c.push.new.self.items c.args.block c.in-Ok.ensures.ok
