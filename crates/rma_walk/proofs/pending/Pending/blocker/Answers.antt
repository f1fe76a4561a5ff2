use Rattle.std.proofs.Common.{◌≡◌, ◌<◌, ◌+◌, ◌*◌, ◌/◌, ℕ, List, [], length, subst, refl, arith}
use Rattle.std.specs.Prelude.{slice_index}
use Rattle.std.proofs.lemmas.List.{get_or_read}
use Rattle.std.proofs.lemmas.Option.{IfSome_then}
use Rattle.rma_walk.specs.declared.source.Source.{Source}
use Rattle.rma_walk.specs.inside.Run.{IsReady}
use Rattle.rma_walk.specs.Source.{sources_of}
use Rattle.rma_walk.specs.inside.Pending.{IsReduced}
use Rattle.rma_walk.proofs.ListLemmas.{none_later}
use Rattle.rma_walk.proofs.PendingLemmas.{in_ranks}
use Rattle.rma_walk.proofs.BlockerLemmas.{readable_of, ready_at_entry, ready_without, inbox_at, blocked_at_return, sources_fine, inbox_reduced, pending_reduced}
use Rattle.rma_walk.proofs.pending.Pending.blocker.Goals as goal

pub returns-then-pos-eq0-clause-none : goal.returns-then-pos-eq0-clause-none
returns-then-pos-eq0-clause-none c =
    ready_at_entry c.args.run.now.lens.now c.args.run.now.links.now c.args.next.now c.requires.run c.requires.size c.args.rank c.if-pos-eq0.true

pub blocker-requires-clause-readable : goal.blocker-requires-clause-readable
blocker-requires-clause-readable c = readable_of c.args.run.now.lens.now c.args.run.now.links.now (length c.args.next.now) c.requires.run c.requires.size

pub blocker-requires-clause-sources : goal.blocker-requires-clause-sources
blocker-requires-clause-sources c =
    let lens = c.args.run.now.lens.now in
    let links = c.args.run.now.links.now in
    let next = c.args.next.now in
    let rank = c.args.rank in
    let call : ℕ = slice_index next rank / 2 in
    let at : slice_index next rank ≡ 2 * call + 1 = (let odd = c.if-pos-eq0.false in omega arith) in
    sources_fine lens links next c.requires.run c.requires.size rank call at c.index_mut-inbox.result.now
    (inbox_at lens links next c.requires.run c.requires.size rank c.args.self.now c.index_mut-inbox.result.now c.requires.pending c.requires.rank c.index_mut-inbox.ensures.value)

pub returns-clause-pending : goal.returns-clause-pending
returns-clause-pending c =
    let lens = c.args.run.now.lens.now in
    let links = c.args.run.now.links.now in
    let next = c.args.next.now in
    let rank = c.args.rank in
    let inboxes = c.args.self.now.inboxes.items in
    let there : rank < length lens = in_ranks lens rank 0 (let lt = c.requires.rank in omega arith) in
    let inbox = get_or_read inboxes rank c.index_mut-inbox.result.now (let size = c.requires.pending.size in omega arith) c.index_mut-inbox.ensures.value [] in
    let P : List (List Source) → Type 0 = λ v. IsReduced links next v c.blocker.new.inbox in
    pending_reduced lens links next c.args.self.now _ rank c.blocker.new.inbox c.requires.pending there refl (subst P inbox c.blocker.ensures.reduced) c.blocker.ensures.known

pub returns-clause-none : goal.returns-clause-none
returns-clause-none c =
    let lens = c.args.run.now.lens.now in
    let links = c.args.run.now.links.now in
    let next = c.args.next.now in
    let rank = c.args.rank in
    let call : ℕ = slice_index next rank / 2 in
    let at : slice_index next rank ≡ 2 * call + 1 = (let odd = c.if-pos-eq0.false in omega arith) in
    let own = inbox_at lens links next c.requires.run c.requires.size rank c.args.self.now c.index_mut-inbox.result.now c.requires.pending c.requires.rank c.index_mut-inbox.ensures.value in
    none_later c.blocker.result (sources_of c.blocker.new.inbox call ≡ []) (IsReady links next rank) c.blocker.ensures.none
    (ready_without lens links next c.requires.run c.requires.size rank call at c.blocker.new.inbox
    (inbox_reduced links next rank c.index_mut-inbox.result.now c.blocker.new.inbox own c.blocker.ensures.reduced))

pub returns-clause-some : goal.returns-clause-some
returns-clause-some c =
    let lens = c.args.run.now.lens.now in
    let links = c.args.run.now.links.now in
    let next = c.args.next.now in
    let rank = c.args.rank in
    let call : ℕ = slice_index next rank / 2 in
    let at : slice_index next rank ≡ 2 * call + 1 = (let odd = c.if-pos-eq0.false in omega arith) in
    let fits : call < slice_index lens rank = (let lt = c.requires.rank in omega arith) in
    let own = inbox_at lens links next c.requires.run c.requires.size rank c.args.self.now c.index_mut-inbox.result.now c.requires.pending c.requires.rank c.index_mut-inbox.ensures.value in
    IfSome_then c.blocker.result c.blocker.ensures.some
    (λ other found. blocked_at_return lens links next c.requires.run c.requires.size rank call at c.blocker.new.inbox
    (inbox_reduced links next rank c.index_mut-inbox.result.now c.blocker.new.inbox own c.blocker.ensures.reduced) fits other found.0 found.1 found.2)
