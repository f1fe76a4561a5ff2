use Rattle.std.proofs.Common.{◌≡◌, ◌<◌, ◌/◌, ◌++◌, ℕ, List, [], ◌∷◌, length, set, take, sym, subst, ap, ◌∙◌, arith}
use Rattle.std.specs.Prelude.{All, slice_index_or}
use Rattle.std.proofs.lemmas.List.{get_or_read, take_more}
use Rattle.rma_link.specs.declared.edge.Edge.{Edge}
use Rattle.rma_link.specs.Within.{IsEdgeWithin}
use Rattle.rma_walk.specs.declared.source.Source.{Source}
use Rattle.rma_walk.specs.declared.source.Source.TheVariants.{Entry}
use Rattle.rma_walk.specs.Source.{IsEdgeSource, sources_of}
use Rattle.rma_walk.specs.inside.Pending.{AreAdded}
use Rattle.rma_walk.proofs.PendingLemmas.{no_edge, in_ranks, added_edge}
use Rattle.rma_walk.proofs.pending.add_edges.Goals as goal

pub index_mut-inbox-requires : goal.index_mut-inbox-requires
index_mut-inbox-requires c =
    let edge : Edge = slice_index_or c.as_slice-edges.result.now c.loop-edge.edge-index no_edge in
    let ok = (subst (All (IsEdgeWithin c.args.run.now.lens.now)) (sym c.as_slice-edges.ensures) c.requires.within.edges c.loop-edge.edge-index no_edge c.loop-edge-test.true).1 in
    let there : edge.to.rank.0 < length c.args.run.now.lens.now = in_ranks c.args.run.now.lens.now edge.to.rank.0 ok.0 ok.1 in
    omega (arith, c.requires.size, c.loop-edge.invariant.size, c.loop-edge.inboxes.ok)

pub push-requires : goal.push-requires
push-requires c =
    let mid = c.loop-edge.inboxes.items in
    let edge : Edge = slice_index_or c.as_slice-edges.result.now c.loop-edge.edge-index no_edge in
    let ok = (subst (All (IsEdgeWithin c.args.run.now.lens.now)) (sym c.as_slice-edges.ensures) c.requires.within.edges c.loop-edge.edge-index no_edge c.loop-edge-test.true).1 in
    let there : edge.to.rank.0 < length c.args.run.now.lens.now = in_ranks c.args.run.now.lens.now edge.to.rank.0 ok.0 ok.1 in
    let in_mid : edge.to.rank.0 < length mid = omega (arith, c.requires.size, c.loop-edge.invariant.size) in
    let inbox = ap length (get_or_read mid edge.to.rank.0 c.index_mut-inbox.result.now in_mid c.index_mut-inbox.ensures.value []) in
    let fits = ok.1 in
    let pos = ok.2 in
    omega (arith, c.requires.sizes edge.to.rank.0, c.loop-edge.invariant.sizes edge.to.rank.0)

pub loop-edge-preserved : goal.loop-edge-preserved
loop-edge-preserved c =
    let edges = c.as_slice-edges.result.now in
    let i = c.loop-edge.edge-index in
    let old = c.args.inboxes.now.items in
    let mid = c.loop-edge.inboxes.items in
    let edge : Edge = slice_index_or edges i no_edge in
    let rank = edge.to.rank.0 in
    let call : ℕ = edge.to.pos / 2 in
    let source : Source = Entry edge.from in
    let ok = (subst (All (IsEdgeWithin c.args.run.now.lens.now)) (sym c.as_slice-edges.ensures) c.requires.within.edges i no_edge c.loop-edge-test.true).1 in
    let there : rank < length c.args.run.now.lens.now = in_ranks c.args.run.now.lens.now rank ok.0 ok.1 in
    let in_mid : rank < length mid = omega (arith, c.requires.size, c.loop-edge.invariant.size) in
    let inbox : c.index_mut-inbox.result.now ≡ slice_index_or mid rank [] = get_or_read mid rank c.index_mut-inbox.result.now in_mid c.index_mut-inbox.ensures.value [] in
    let fits = ok.1 in
    let pos = ok.2 in
    let in_calls : call < length (slice_index_or mid rank []) = omega (arith, c.requires.sizes rank, c.loop-edge.invariant.sizes rank) in
    let new : c.push.new.self ≡ set (slice_index_or mid rank []) call (source ∷ sources_of (slice_index_or mid rank []) call) =
    c.in_ok-push.ensures ∙ ap (λ (v : List (List Source)). set v call (source ∷ slice_index_or v call [])) inbox in
    let P : List Edge → Type 0 = λ es. AreAdded (IsEdgeSource es) old (set mid rank c.push.new.self) in
    let Q : List (List Source) → Type 0 = λ v. AreAdded (IsEdgeSource (take i edges ++ edge ∷ [])) old (set mid rank v) in
    subst P (sym (take_more edges i no_edge c.loop-edge-test.true))
    (subst Q (sym new) (added_edge c.args.run.now.lens.now (take i edges) edge old mid ok c.loop-edge.invariant in_mid in_calls))
