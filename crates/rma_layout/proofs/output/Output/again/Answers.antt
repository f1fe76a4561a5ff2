use Rattle.std.proofs.Common.{◌≡◌, pos, length, take, drop, OnOk, IfErr, ap, subst, arith}
use Rattle.rma_layout.proofs.Words.{span, copies, bytes_of, sealed, Appends, Refuses, take_all}
use Rattle.rma_layout.proofs.OutputLemmas.{on_ok, appends_same, copies_of_only, sealed_is_sound, appends_sealed}
use Rattle.rma_layout.proofs.output.Output.again.Goals as goal

same_copies : (c : goal.After-push_copies) → copies c.args.count (pos 0) c.args.stride (span c.in_ok-shifted.field-0.start c.in_ok-shifted.field-0.len)
    ≡ copies c.args.count c.args.stride c.args.stride (bytes_of (drop c.args.from c.args.self.now.blocks.items))
same_copies c =
    let items = c.args.self.now.blocks.items in
    let number : c.len-to.result ≡ length items = c.len-to.ensures.value in
    copies_of_only items c.args.from c.args.count c.args.stride c.index-deref-from.result c.in_ok-shifted.field-0 (omega (arith, number, c.if-to-from-eq1.true)) (rw c.deref.ensures at c.index-deref-from.is)
    c.in_ok-shifted.ensures.start c.in_ok-shifted.ensures.len

pub returns-then-to-from-eq1-clause-ok : goal.returns-then-to-from-eq1-clause-ok
returns-then-to-from-eq1-clause-ok c =
    subst (λ xs. OnOk c.push_copies.result (Appends c.args.self.now c.push_copies.new.self xs)) (same_copies c) c.push_copies.ensures.ok

pub returns-then-to-from-eq1-clause-fault : goal.returns-then-to-from-eq1-clause-fault
returns-then-to-from-eq1-clause-fault c =
    subst (λ xs. IfErr c.push_copies.result (Refuses c.args.self.now xs)) (same_copies c) c.push_copies.ensures.fault

pub copy_rows-requires-clause-sound : goal.copy_rows-requires-clause-sound
copy_rows-requires-clause-sound c = rw c.seal.ensures (sealed_is_sound c.args.self.now c.requires.sound)

pub copy_rows-requires-clause-within : goal.copy_rows-requires-clause-within
copy_rows-requires-clause-within c =
    let number : c.len-to.result ≡ length c.args.self.now.blocks.items = c.len-to.ensures.value in
    rw c.seal.ensures (omega (arith, number))

all_copied : (c : goal.After-copy_rows) → copies c.args.count c.args.stride c.args.stride (bytes_of (drop c.args.from (take c.len-to.result c.args.self.now.blocks.items)))
    ≡ copies c.args.count c.args.stride c.args.stride (bytes_of (drop c.args.from c.args.self.now.blocks.items))
all_copied c =
    let number : c.len-to.result ≡ length c.args.self.now.blocks.items = c.len-to.ensures.value in
    ap (λ bs. copies c.args.count c.args.stride c.args.stride (bytes_of (drop c.args.from bs))) (take_all c.len-to.result c.args.self.now.blocks.items (omega (arith, number)))

pub returns-clause-ok : goal.returns-clause-ok
returns-clause-ok c =
    let h = rw c.seal.ensures at c.copy_rows.ensures.ok in
    on_ok c.copy_rows.result _ _ (λ k. appends_sealed c.args.self.now c.copy_rows.new.self _ c.requires.sound (appends_same (sealed c.args.self.now) c.copy_rows.new.self _ _ (all_copied c) k)) h

pub returns-clause-fault : goal.returns-clause-fault
returns-clause-fault c =
    let h = rw c.seal.ensures at c.copy_rows.ensures.fault in
    subst (λ xs. IfErr c.copy_rows.result (Refuses c.args.self.now xs)) (all_copied c) h
