use Rattle.std.proofs.Common.{◌≡◌, [], None, refl}
use Rattle.std.proofs.lemmas.List.Elements.{All-nil, All-push, All-same}
use Rattle.rma_known.proofs.TemplateLemmas.{none_placed}
use Rattle.rma_known.proofs.call_templates.no_templates.Goals as goal

pub loop-init : goal.loop-init
loop-init c = All-same (λ slot. slot ≡ None) _ [] c.in_ok-slots.ensures.items (All-nil (λ slot. slot ≡ None))

pub loop-preserved : goal.loop-preserved
loop-preserved c = All-same (λ slot. slot ≡ None) _ _ c.in_ok-push.ensures.items (All-push (λ slot. slot ≡ None) c.loop.slots.items _ c.loop.invariant refl)

pub returns : goal.returns
returns c = λ known there. none_placed c.loop.slots.items known c.loop.invariant there.0 there.1
