-- The access of a call at an index.
use Rattle.std.proofs.Common.{◌≡◌, ℕ, zero, suc, List, [], ◌∷◌, length, take, Option, Some, slice_get, sym, ap, subst, ◌∙◌, option_map}
use Rattle.std.specs.Option.{option_and_then}
use Rattle.std.proofs.lemmas.Option.{get_or_from_slice_get, none-some, slice_get-map, slice_get_within}
use Rattle.rma_call.specs.Call.{Call, CallTable}
use Rattle.rma_epoch.specs.Table.{OnWindow, sound_calls}
use Rattle.rma_epoch.proofs.SoundLemmas.{sound_first}
use Rattle.rma_rules.specs.declared.access_name.Role.{Role}
use Rattle.rma_touch.specs.Touch.{Touch}
use Rattle.rma_touch.specs.Touches.{Span, access_with, touch_at}
use Rattle.rma_span.specs.declared.rank_spans.RankSpans.{RankSpans}
use Rattle.rma_span.specs.declared.spans.CallSpans.{CallSpans}
use Rattle.rma_span.specs.Span.{AreAskable, Origin, access_of, span_of, spanned_calls}
use Rattle.rma_span.specs.inside.Stored.{AreSpansOf, Represents}

-- what stands among the first of a list stands in the list
pub taken_in : {X : Type 0} (n k : ℕ) (xs : List X) (x : X) → slice_get (take n xs) k ≡ Some x → slice_get xs k ≡ Some x
taken_in zero k xs x e = absurd (none-some x e)
taken_in (suc n) k [] x e = absurd (none-some x e)
taken_in (suc n) zero (y ∷ ys) x e = e
taken_in (suc n) (suc k) (y ∷ ys) x e = taken_in n k ys x e

-- the spans at an index are those of a call
pub spans_here : (own : Origin) (kept : RankSpans) (index : ℕ) (spans : CallSpans) → Represents own kept → slice_get kept.spans.items index ≡ Some spans
    → AreSpansOf own kept.own_lists kept.target_lists spans
spans_here own kept index spans are there =
    subst (AreSpansOf own kept.own_lists kept.target_lists) (get_or_from_slice_get kept.spans.items index spans spans there)
    (are.each index spans (slice_get_within kept.spans.items index spans there))

-- and its number stands there
pub number_here : (own : Origin) (kept : RankSpans) (index : ℕ) (spans : CallSpans) → Represents own kept → slice_get kept.spans.items index ≡ Some spans
    → slice_get (spanned_calls own) index ≡ Some spans.call
number_here own kept index spans are there =
    ap (λ l. slice_get l index) (sym are.numbers)
    ∙ slice_get-map (λ (s : CallSpans). s.call) kept.spans.items index
    ∙ ap (option_map (λ (s : CallSpans). s.call)) there

-- a sound call stands among all calls of the rank
pub call_in : (own : Origin) (table : CallTable) (known : List OnWindow) (number : ℕ) (call : Call) → AreAskable own table known → slice_get own.sound number ≡ Some call
    → slice_get table.calls number ≡ Some call
call_in own table known number call ask there =
    let first = ask.sound ∙ sound_first own.windows table.calls in
    taken_in (length (sound_calls own.windows table.calls)) number table.calls call (ap (λ l. slice_get l number) (sym first) ∙ there)

-- an access is what a call touches, with its span
pub access_is : (own : Origin) (number : ℕ) (call : Call) (role : Role) (touch : Option Touch) (span : Option Span) → touch ≡ touch_at own.windows own.rank call.what role → span ≡ span_of own number call role
    → option_and_then (λ t. option_map (access_with own.rank number call t) span) touch ≡ access_of own number call role
access_is own number call role touch span e f =
    ap (λ s. option_and_then (λ t. option_map (access_with own.rank number call t) s) touch) f
    ∙ ap (option_and_then (λ t. option_map (access_with own.rank number call t) (span_of own number call role))) e
