use Rattle.std.proofs.Common.{◌≡◌, ◌+◌, ◌*◌, ◌/◌, ◌<◌, ℕ, length, subst, arith}
use Rattle.std.specs.Prelude.{slice_index}
use Rattle.rma_walk.specs.declared.waits.Waits.{Waits}
use Rattle.rma_walk.specs.Source.{sources_of}
use Rattle.rma_walk.specs.inside.Inbox.{AreKept}
use Rattle.rma_walk.proofs.BlockerLemmas.{ready_at_entry, ready_without, ready_gathered, inbox_at, meet_there}
use Rattle.rma_walk.proofs.pending.Pending.is_ready.Goals as goal

pub returns-then-pos-eq0 : goal.returns-then-pos-eq0
returns-then-pos-eq0 c so = ready_at_entry c.args.run.now.lens.now c.args.run.now.links.now c.args.next.now c.requires.run c.requires.size c.args.rank c.if-pos-eq0.true

pub is_gathered-requires-clause-index : goal.is_gathered-requires-clause-index
is_gathered-requires-clause-index c =
    let lens = c.args.run.now.lens.now in
    let links = c.args.run.now.links.now in
    let next = c.args.next.now in
    let rank = c.args.rank in
    let inbox = c.index.result.now in
    let call : ℕ = slice_index next rank / 2 in
    let at : slice_index next rank ≡ 2 * call + 1 = (let odd = c.if-pos-eq0.false in omega arith) in
    let own = inbox_at lens links next c.requires.run c.requires.size rank c.args.self.now inbox c.requires.pending c.requires.rank c.index.ensures in
    let P : Waits → Type 0 = λ w. AreKept w (sources_of inbox call) in
    meet_there lens links next c.requires.run c.requires.size rank call at inbox own c.in-Meet.index (subst P c.in-Meet.is c.waits.ensures)

pub is_gathered-requires-clause-known : goal.is_gathered-requires-clause-known
is_gathered-requires-clause-known c =
    let lens = c.args.run.now.lens.now in
    let links = c.args.run.now.links.now in
    let next = c.args.next.now in
    let rank = c.args.rank in
    let inbox = c.index.result.now in
    let call : ℕ = slice_index next rank / 2 in
    let at : slice_index next rank ≡ 2 * call + 1 = (let odd = c.if-pos-eq0.false in omega arith) in
    let own = inbox_at lens links next c.requires.run c.requires.size rank c.args.self.now inbox c.requires.pending c.requires.rank c.index.ensures in
    let P : Waits → Type 0 = λ w. AreKept w (sources_of inbox call) in
    let lt : c.in-Meet.index < length links.meets = meet_there lens links next c.requires.run c.requires.size rank call at inbox own c.in-Meet.index (subst P c.in-Meet.is c.waits.ensures) in
    let size = c.requires.pending.known.size in
    omega arith

pub returns-in-Nothing : goal.returns-in-Nothing
returns-in-Nothing c so =
    let lens = c.args.run.now.lens.now in
    let links = c.args.run.now.links.now in
    let next = c.args.next.now in
    let rank = c.args.rank in
    let inbox = c.index.result.now in
    let call : ℕ = slice_index next rank / 2 in
    let at : slice_index next rank ≡ 2 * call + 1 = (let odd = c.if-pos-eq0.false in omega arith) in
    let own = inbox_at lens links next c.requires.run c.requires.size rank c.args.self.now inbox c.requires.pending c.requires.rank c.index.ensures in
    let P : Waits → Type 0 = λ w. AreKept w (sources_of inbox call) in
    ready_without lens links next c.requires.run c.requires.size rank call at inbox own (subst P c.in-Nothing.is c.waits.ensures)

pub returns-in-Meet : goal.returns-in-Meet
returns-in-Meet c so =
    let lens = c.args.run.now.lens.now in
    let links = c.args.run.now.links.now in
    let next = c.args.next.now in
    let rank = c.args.rank in
    let inbox = c.index.result.now in
    let call : ℕ = slice_index next rank / 2 in
    let at : slice_index next rank ≡ 2 * call + 1 = (let odd = c.if-pos-eq0.false in omega arith) in
    let own = inbox_at lens links next c.requires.run c.requires.size rank c.args.self.now inbox c.requires.pending c.requires.rank c.index.ensures in
    let P : Waits → Type 0 = λ w. AreKept w (sources_of inbox call) in
    ready_gathered lens links next c.requires.run c.requires.size rank call at inbox own c.in-Meet.index (subst P c.in-Meet.is c.waits.ensures)
    (c.is_gathered.ensures next c.requires.pending.known so)
