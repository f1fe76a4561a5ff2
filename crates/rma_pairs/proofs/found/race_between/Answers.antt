use Rattle.std.proofs.Common.{IfOk, Result, Ok, Err}
use Rattle.rma_base.specs.declared.memory.Memory.{Memory}
use Rattle.rma_pairs.proofs.RaceLemmas.{either_way, other_way}
use Rattle.rma_pairs.proofs.found.race_between.Goals as goal

-- what holds of an answer, for what follows from that
if_ok : {X : Type 0} {P Q : X → Type 0} (answer : Result X Memory) → IfOk answer P → ((x : X) → P x → Q x) → IfOk answer Q
if_ok (Ok x) has follows = follows x has
if_ok (Err memory) has follows = has

pub returns-then-is_first : goal.returns-then-is_first
returns-then-is_first g c =
    if_ok c.race_of.result c.race_of.ensures
    (λ found has points links race clocks there back. either_way links c.args.windows.now c.args.lists.now c.args.a.now c.args.b.now found race (c.is_first.ensures.0 c.if-is_first.true) (has points links race clocks there back))

pub returns-then-is_first-2 : goal.returns-then-is_first-2
returns-then-is_first-2 g c =
    if_ok c.race_of-then-is_first-2.result c.race_of-then-is_first-2.ensures
    (λ found has points links race clocks there back.
    other_way links c.args.windows.now c.args.lists.now c.args.a.now c.args.b.now found race (c.is_first-else-is_first.ensures.0 c.if-is_first-2.true) (has points links race clocks back there))
