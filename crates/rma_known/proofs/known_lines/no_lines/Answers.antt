use Rattle.std.proofs.Common.{◌≡◌, [], None, refl}
use Rattle.std.proofs.lemmas.List.Elements.{All-nil, All-push, All-same}
use Rattle.rma_known.proofs.known_lines.no_lines.Goals as goal

pub loop-init : goal.loop-init
loop-init c = All-same (λ slot. slot ≡ None) _ [] c.in_ok-slots.ensures.items (All-nil (λ slot. slot ≡ None))

pub loop-preserved : goal.loop-preserved
loop-preserved c = All-same (λ slot. slot ≡ None) _ _ c.in_ok-push.ensures.items (All-push (λ slot. slot ≡ None) c.loop.slots.items _ c.loop.invariant refl)

pub returns : goal.returns
returns c = c.loop.invariant
