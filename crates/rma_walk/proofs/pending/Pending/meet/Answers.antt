use Rattle.std.proofs.Common.{◌≡◌, ◌+◌, ◌*◌, ◌/◌, ◌<◌, ℕ, List, [], ◌∷◌, length, subst, arith}
use Rattle.std.specs.Prelude.{slice_index}
use Rattle.std.proofs.lemmas.List.{get_or_read}
use Rattle.rma_walk.specs.declared.source.Source.{Source}
use Rattle.rma_walk.specs.declared.source.Source.TheVariants.{Meet}
use Rattle.rma_walk.specs.declared.waits.Waits.{Waits}
use Rattle.rma_walk.specs.Source.{sources_of}
use Rattle.rma_walk.specs.inside.Inbox.{AreKept}
use Rattle.rma_walk.proofs.PendingLemmas.{in_ranks}
use Rattle.rma_walk.proofs.BlockerLemmas.{inbox_at, meet_there}
use Rattle.rma_walk.proofs.pending.Pending.meet.Goals as goal

pub returns-in-Meet-clause-meet : goal.returns-in-Meet-clause-meet
returns-in-Meet-clause-meet c =
    let lens = c.args.run.now.lens.now in
    let links = c.args.run.now.links.now in
    let next = c.args.next.now in
    let rank = c.args.rank in
    let inbox = c.index.result.now in
    let call : ℕ = slice_index next rank / 2 in
    let at : slice_index next rank ≡ 2 * call + 1 = (let odd = c.if-pos-eq0.false in omega arith) in
    let own = inbox_at lens links next c.requires.run c.requires.size rank c.args.self.now inbox c.requires.pending c.requires.rank c.index.ensures in
    let P : Waits → Type 0 = λ w. AreKept w (sources_of inbox call) in
    meet_there lens links next c.requires.run c.requires.size rank call at inbox own c.in-Meet.index (subst P c.in-Meet.is c.waits.ensures)

pub returns-in-Meet-clause-alone : goal.returns-in-Meet-clause-alone
returns-in-Meet-clause-alone c =
    let next = c.args.next.now in
    let rank = c.args.rank in
    let inboxes = c.args.self.now.inboxes.items in
    let there : rank < length c.args.run.now.lens.now = in_ranks c.args.run.now.lens.now rank 0 (let lt = c.requires.rank in omega arith) in
    let read = get_or_read inboxes rank c.index.result.now (let size = c.requires.pending.size in omega arith) c.index.ensures [] in
    let P : Waits → Type 0 = λ w. AreKept w (sources_of c.index.result.now (slice_index next rank / 2)) in
    let Q : List (List Source) → Type 0 = λ inbox. sources_of inbox (slice_index next rank / 2) ≡ Meet c.in-Meet.index ∷ [] in
    (let odd = c.if-pos-eq0.false in omega arith, subst Q read (subst P c.in-Meet.is c.waits.ensures))
