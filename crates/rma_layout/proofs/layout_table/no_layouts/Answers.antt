use Rattle.std.proofs.Common.{[]}
use Rattle.std.proofs.lemmas.List.Elements.{All-nil, All-push, All-same}
use Rattle.rma_layout.specs.inside.Known.{IsKnownIf}
use Rattle.rma_layout.proofs.layout_table.no_layouts.Goals as goal

pub loop-init : goal.loop-init
loop-init c = λ origins. All-same (IsKnownIf origins) _ [] c.in_ok-known.ensures.items (All-nil (IsKnownIf origins))

pub loop-preserved : goal.loop-preserved
loop-preserved c = λ origins. All-same (IsKnownIf origins) _ _ c.in_ok-push.ensures.items (All-push (IsKnownIf origins) c.loop.known.items _ (c.loop.invariant origins) tt)

pub returns : goal.returns
returns c = c.loop.invariant
