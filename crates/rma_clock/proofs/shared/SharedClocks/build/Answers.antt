use Rattle.std.proofs.Common.{◌≡◌, ◌+◌, ◌/◌, ◌<◌, List, [], length, get_or, sym, ap, subst, ◌∙◌, arith}
use Rattle.std.specs.Prelude.{slice_index_or}
use Rattle.std.proofs.lemmas.List.{get_or_read}
use Rattle.std.proofs.lemmas.Option.{slice_get-get_or}
use Rattle.rma_base.specs.declared.point.Point.{Point}
use Rattle.rma_link.specs.Order.{IsPossible}
use Rattle.rma_walk.specs.Outcome.{IsAt, IsOrder}
use Rattle.rma_walk.specs.declared.source.Source.{Source}
use Rattle.rma_walk.specs.Source.{sources_of}
use Rattle.rma_walk.proofs.PendingLemmas.{in_ranks}
use Rattle.rma_walk.proofs.OutcomeLemmas.{order_possible}
use Rattle.rma_clock.specs.declared.builder.Builder.{Builder}
use Rattle.rma_clock.proofs.SettleLemmas.{IsBuiltTo, built_none, settle_caught, settle_rank, settle_usable, settle_received, last_position, built_more, built_entry, clocks_of}
use Rattle.rma_clock.proofs.shared.SharedClocks.build.Goals as goal
use Rattle.rma_clock.proofs.shared.SharedClocks.build.Goals.{then-point-eq1+in_ok-sources+in_ok-settle, else-point-eq1}

pub loop-point-init : goal.loop-point-init
loop-point-init c = built_none c.args.lens.now c.args.links.now c.as_slice-point-items.result.now _ c.in_ok-builder.ensures.builder.links_are c.in_ok-builder.ensures.builder c.in_ok-builder.ensures.steps

pub index-inbox-requires : goal.index-inbox-requires
index-inbox-requires c =
    let lens = c.args.lens.now in
    let links = c.args.links.now in
    let order = c.as_slice-point-items.result.now in
    let i = c.loop-point.point-index in
    let d : Point = record { rank = record { 0 = 0 }; pos = 0 } in
    let q = get_or order i d in
    let here : IsAt order i q = slice_get-get_or order i d c.loop-point-test.true in
    let is : IsOrder lens links order = subst (IsOrder lens links) (sym c.as_slice-point-items.ensures) c.requires.order in
    let inboxes = c.in_ok-inboxes.inboxes.items in
    let point = is.only i q here in
    let in_lens = in_ranks lens q.rank.0 (q.pos / 2) (omega arith) in
    let size = c.in_ok-inboxes.ensures.size in
    omega arith

pub sources-requires : goal.sources-requires
sources-requires c =
    let lens = c.args.lens.now in
    let links = c.args.links.now in
    let order = c.as_slice-point-items.result.now in
    let i = c.loop-point.point-index in
    let d : Point = record { rank = record { 0 = 0 }; pos = 0 } in
    let q = get_or order i d in
    let here : IsAt order i q = slice_get-get_or order i d c.loop-point-test.true in
    let is : IsOrder lens links order = subst (IsOrder lens links) (sym c.as_slice-point-items.ensures) c.requires.order in
    let inboxes = c.in_ok-inboxes.inboxes.items in
    let point = is.only i q here in
    let there : q.rank.0 < length inboxes = (let in_lens = in_ranks lens q.rank.0 (q.pos / 2) (omega arith) in omega (arith, c.in_ok-inboxes.ensures.size)) in
    let inbox : c.index-inbox.result.now ≡ slice_index_or inboxes q.rank.0 [] = get_or_read inboxes q.rank.0 c.index-inbox.result.now there c.index-inbox.ensures [] in
    let same : length c.index-inbox.result.now ≡ length (slice_index_or inboxes q.rank.0 []) = ap length inbox in
    let size = c.in_ok-inboxes.ensures.sizes q.rank.0 in
    omega arith

pub settle-requires-clause-last : goal.settle-requires-clause-last
settle-requires-clause-last c =
    let lens = c.args.lens.now in
    let links = c.args.links.now in
    let order = c.as_slice-point-items.result.now in
    let i = c.loop-point.point-index in
    let d : Point = record { rank = record { 0 = 0 }; pos = 0 } in
    let q = get_or order i d in
    let here : IsAt order i q = slice_get-get_or order i d c.loop-point-test.true in
    let is : IsOrder lens links order = subst (IsOrder lens links) (sym c.as_slice-point-items.ensures) c.requires.order in
    let inboxes = c.in_ok-inboxes.inboxes.items in
    last_position lens links order c.requires.links is c.loop-point.builder.table.steps.items i c.loop-point.invariant.settled q here

pub settle-requires-clause-possible : goal.settle-requires-clause-possible
settle-requires-clause-possible c =
    subst IsPossible (sym c.loop-point.invariant.links_are) (order_possible c.args.lens.now c.args.links.now c.args.order.now c.requires.links c.requires.order)

pub settle-requires-clause-caught : goal.settle-requires-clause-caught
settle-requires-clause-caught c =
    let lens = c.args.lens.now in
    let links = c.args.links.now in
    let order = c.as_slice-point-items.result.now in
    let i = c.loop-point.point-index in
    let d : Point = record { rank = record { 0 = 0 }; pos = 0 } in
    let q = get_or order i d in
    let here : IsAt order i q = slice_get-get_or order i d c.loop-point-test.true in
    let is : IsOrder lens links order = subst (IsOrder lens links) (sym c.as_slice-point-items.ensures) c.requires.order in
    let inboxes = c.in_ok-inboxes.inboxes.items in
    let point = is.only i q here in
    let there : q.rank.0 < length inboxes = (let in_lens = in_ranks lens q.rank.0 (q.pos / 2) (omega arith) in omega (arith, c.in_ok-inboxes.ensures.size)) in
    let inbox : c.index-inbox.result.now ≡ slice_index_or inboxes q.rank.0 [] = get_or_read inboxes q.rank.0 c.index-inbox.result.now there c.index-inbox.ensures [] in
    let all : c.as_slice.result.now ≡ sources_of (slice_index_or inboxes q.rank.0 []) (q.pos / 2) =
    c.as_slice.ensures ∙ c.in_ok-sources.ensures ∙ ap (λ (v : List (List Source)). sources_of v (q.pos / 2)) inbox in
    settle_caught lens links order c.requires.links c.requires.calls is inboxes c.in_ok-inboxes.ensures i c.loop-point.builder c.loop-point.invariant q here c.if-point-eq1.true c.as_slice.result.now all

pub settle-requires-clause-rank : goal.settle-requires-clause-rank
settle-requires-clause-rank c =
    let lens = c.args.lens.now in
    let links = c.args.links.now in
    let order = c.as_slice-point-items.result.now in
    let i = c.loop-point.point-index in
    let d : Point = record { rank = record { 0 = 0 }; pos = 0 } in
    let q = get_or order i d in
    let here : IsAt order i q = slice_get-get_or order i d c.loop-point-test.true in
    let is : IsOrder lens links order = subst (IsOrder lens links) (sym c.as_slice-point-items.ensures) c.requires.order in
    let inboxes = c.in_ok-inboxes.inboxes.items in
    let point = is.only i q here in
    let there : q.rank.0 < length inboxes = (let in_lens = in_ranks lens q.rank.0 (q.pos / 2) (omega arith) in omega (arith, c.in_ok-inboxes.ensures.size)) in
    let inbox : c.index-inbox.result.now ≡ slice_index_or inboxes q.rank.0 [] = get_or_read inboxes q.rank.0 c.index-inbox.result.now there c.index-inbox.ensures [] in
    let all : c.as_slice.result.now ≡ sources_of (slice_index_or inboxes q.rank.0 []) (q.pos / 2) =
    c.as_slice.ensures ∙ c.in_ok-sources.ensures ∙ ap (λ (v : List (List Source)). sources_of v (q.pos / 2)) inbox in
    settle_rank lens links order c.requires.links c.requires.calls is inboxes c.in_ok-inboxes.ensures i c.loop-point.builder c.loop-point.invariant q here c.if-point-eq1.true c.as_slice.result.now all

pub settle-requires-clause-usable : goal.settle-requires-clause-usable
settle-requires-clause-usable c =
    let lens = c.args.lens.now in
    let links = c.args.links.now in
    let order = c.as_slice-point-items.result.now in
    let i = c.loop-point.point-index in
    let d : Point = record { rank = record { 0 = 0 }; pos = 0 } in
    let q = get_or order i d in
    let here : IsAt order i q = slice_get-get_or order i d c.loop-point-test.true in
    let is : IsOrder lens links order = subst (IsOrder lens links) (sym c.as_slice-point-items.ensures) c.requires.order in
    let inboxes = c.in_ok-inboxes.inboxes.items in
    let point = is.only i q here in
    let there : q.rank.0 < length inboxes = (let in_lens = in_ranks lens q.rank.0 (q.pos / 2) (omega arith) in omega (arith, c.in_ok-inboxes.ensures.size)) in
    let inbox : c.index-inbox.result.now ≡ slice_index_or inboxes q.rank.0 [] = get_or_read inboxes q.rank.0 c.index-inbox.result.now there c.index-inbox.ensures [] in
    let all : c.as_slice.result.now ≡ sources_of (slice_index_or inboxes q.rank.0 []) (q.pos / 2) =
    c.as_slice.ensures ∙ c.in_ok-sources.ensures ∙ ap (λ (v : List (List Source)). sources_of v (q.pos / 2)) inbox in
    settle_usable lens links order c.requires.links c.requires.calls is inboxes c.in_ok-inboxes.ensures i c.loop-point.builder c.loop-point.invariant q here c.if-point-eq1.true c.as_slice.result.now all

pub settle-requires-clause-received : goal.settle-requires-clause-received
settle-requires-clause-received c =
    let lens = c.args.lens.now in
    let links = c.args.links.now in
    let order = c.as_slice-point-items.result.now in
    let i = c.loop-point.point-index in
    let d : Point = record { rank = record { 0 = 0 }; pos = 0 } in
    let q = get_or order i d in
    let here : IsAt order i q = slice_get-get_or order i d c.loop-point-test.true in
    let is : IsOrder lens links order = subst (IsOrder lens links) (sym c.as_slice-point-items.ensures) c.requires.order in
    let inboxes = c.in_ok-inboxes.inboxes.items in
    let point = is.only i q here in
    let there : q.rank.0 < length inboxes = (let in_lens = in_ranks lens q.rank.0 (q.pos / 2) (omega arith) in omega (arith, c.in_ok-inboxes.ensures.size)) in
    let inbox : c.index-inbox.result.now ≡ slice_index_or inboxes q.rank.0 [] = get_or_read inboxes q.rank.0 c.index-inbox.result.now there c.index-inbox.ensures [] in
    let all : c.as_slice.result.now ≡ sources_of (slice_index_or inboxes q.rank.0 []) (q.pos / 2) =
    c.as_slice.ensures ∙ c.in_ok-sources.ensures ∙ ap (λ (v : List (List Source)). sources_of v (q.pos / 2)) inbox in
    settle_received lens links order c.requires.links c.requires.calls is inboxes c.in_ok-inboxes.ensures i c.loop-point.builder c.loop-point.invariant q here c.if-point-eq1.true c.as_slice.result.now all

pub loop-point-preserved : goal.loop-point-preserved
loop-point-preserved c =
    let lens = c.args.lens.now in
    let links = c.args.links.now in
    let order = c.as_slice-point-items.result.now in
    let i = c.loop-point.point-index in
    let d : Point = record { rank = record { 0 = 0 }; pos = 0 } in
    let q = get_or order i d in
    let here : IsAt order i q = slice_get-get_or order i d c.loop-point-test.true in
    let is : IsOrder lens links order = subst (IsOrder lens links) (sym c.as_slice-point-items.ensures) c.requires.order in
    let inboxes = c.in_ok-inboxes.inboxes.items in
    let B : Builder → Type 0 = λ b. IsBuiltTo lens links order (i + 1) b in
    elim c.if-point-eq1.branch [
      | then-point-eq1+in_ok-sources+in_ok-settle w ↦
          let point = is.only i q here in
          let there : q.rank.0 < length inboxes = (let in_lens = in_ranks lens q.rank.0 (q.pos / 2) (omega arith) in omega (arith, c.in_ok-inboxes.ensures.size)) in
          let inbox : w.index-inbox.result.now ≡ slice_index_or inboxes q.rank.0 [] = get_or_read inboxes q.rank.0 w.index-inbox.result.now there w.index-inbox.ensures [] in
          let all : w.as_slice.result.now ≡ sources_of (slice_index_or inboxes q.rank.0 []) (q.pos / 2) =
          w.as_slice.ensures ∙ w.in_ok-sources.ensures ∙ ap (λ (v : List (List Source)). sources_of v (q.pos / 2)) inbox in
          subst B (sym w.builder-is) (built_more lens links order c.requires.links c.requires.calls is inboxes c.in_ok-inboxes.ensures i c.loop-point.builder c.loop-point.invariant q here w.if-point-eq1.true w.as_slice.result.now all w.settle.new.self w.settle.ensures.links w.in_ok-settle.ensures.builder w.in_ok-settle.ensures.steps)
      | else-point-eq1 w ↦
          let odd = w.if-point-eq1.false in
          subst B (sym w.builder-is) (built_entry lens links order c.requires.links is i c.loop-point.builder c.loop-point.invariant q here (omega arith))
    ]

pub returns : goal.returns
returns c =
    let lens = c.args.lens.now in
    let links = c.args.links.now in
    let order = c.as_slice-point-items.result.now in
    let is : IsOrder lens links order = subst (IsOrder lens links) (sym c.as_slice-point-items.ensures) c.requires.order in
    clocks_of lens links order c.loop-point.point-index c.loop-point.builder c.requires.links is c.loop-point.invariant (omega arith)
