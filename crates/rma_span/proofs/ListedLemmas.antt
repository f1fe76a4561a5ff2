-- All accesses of a rank, call by call.
use Rattle.std.proofs.Common.{◌≡◌, ℕ, suc, ◌+◌, List, [], ◌∷◌, ◌++◌, Option, Some, None, Bool, true, false, slice_get, refl, sym, ap, subst, ◌∙◌, arith, if◌then◌else◌, option_map}
use Rattle.std.specs.List.{filter_map, flat_map}
use Rattle.std.specs.Option.{option_and_then, option_map_or}
use Rattle.std.proofs.lemmas.Option.{none-some}
use Rattle.rma_call.specs.Call.{Call}
use Rattle.rma_call.specs.declared.what.What.{What}
use Rattle.rma_call.specs.declared.what.What.TheVariants.{Local, Rma, Sync}
use Rattle.rma_base.specs.declared.rank.Rank.{Rank}
use Rattle.rma_epoch.specs.declared.epoch.Epoch.{Epoch}
use Rattle.rma_rules.specs.declared.access_name.Role.{Role}
use Rattle.rma_run.specs.Run.{by_number}
use Rattle.rma_touch.specs.Touch.{Touch}
use Rattle.rma_touch.specs.Touches.{Span, access_with, roles, touch_at}
use Rattle.rma_span.specs.Span.{Origin, access_of, accesses_at, accesses_of, buffer_span, call_accesses, epoch_of, is_at_target, own_span_of, span_of, spanned, spanned_calls, target_span, target_span_of}

-- ---- a call that touches nothing

no_target : (own : Origin) (number : ℕ) (call : Call) (does : What) → own_span_of own number call does ≡ None → target_span_of own number does ≡ None
no_target own number call (Sync sync) h = refl
no_target own number call (Local local) h = refl
no_target own number call (Rma access) h = by (epoch_of own number) access.target h
  where
    by : (o : Option Epoch) (t : Option Rank) → option_and_then (λ epoch. option_map (λ target. buffer_span own epoch target call.request number) t) o ≡ None
        → option_and_then (λ epoch. option_map (λ target. target_span own epoch target number) t) o ≡ None
    by None t h = refl
    by (Some epoch) None h = refl
    by (Some epoch) (Some target) h = absurd (none-some (buffer_span own epoch target call.request number) (sym h))

no_span : (own : Origin) (number : ℕ) (call : Call) (role : Role) → own_span_of own number call call.what ≡ None → span_of own number call role ≡ None
no_span own number call role h = by (is_at_target role)
  where
    by : (b : Bool) → (if b then target_span_of own number call.what else own_span_of own number call call.what) ≡ None
    by true = no_target own number call call.what h
    by false = h

no_access : (own : Origin) (number : ℕ) (call : Call) (role : Role) → own_span_of own number call call.what ≡ None → access_of own number call role ≡ None
no_access own number call role h = rw (no_span own number call role h) (by (touch_at own.windows own.rank call.what role))
  where
    by : (o : Option Touch) → option_and_then (λ touch. option_map (access_with own.rank number call touch) (let none : Option Span = None in none)) o ≡ None
    by None = refl
    by (Some touch) = refl

no_accesses : (own : Origin) (number : ℕ) (call : Call) → own_span_of own number call call.what ≡ None → (some : List Role) → filter_map (access_of own number call) some ≡ []
no_accesses own number call h [] = refl
no_accesses own number call h (role ∷ some) = rw (no_access own number call role h) (no_accesses own number call h some)

-- ---- all calls

of_calls : (own : Origin) (n : ℕ) (calls : List Call) → ((k : ℕ) (call : Call) → slice_get calls k ≡ Some call → slice_get own.sound (n + k) ≡ Some call)
    → by_number (call_accesses own) n calls ≡ flat_map (accesses_at own) (by_number (spanned own) n calls)
of_calls own n [] there = refl
of_calls own n (call ∷ calls) there =
    by (own_span_of own n call call.what) refl (of_calls own (n + 1) calls (λ k other h. subst (λ m. slice_get own.sound m ≡ Some other) (let e : n + suc k ≡ n + 1 + k = omega arith in e) (there (suc k) other h)))
  where
    here : slice_get own.sound n ≡ Some call
    here = subst (λ m. slice_get own.sound m ≡ Some call) (let e : n + 0 ≡ n = omega arith in e) (there 0 call refl)

    by : (o : Option Span) → own_span_of own n call call.what ≡ o
        → by_number (call_accesses own) (n + 1) calls ≡ flat_map (accesses_at own) (by_number (spanned own) (n + 1) calls)
        → call_accesses own n call ++ by_number (call_accesses own) (n + 1) calls ≡ flat_map (accesses_at own) (spanned own n call ++ by_number (spanned own) (n + 1) calls)
    by None h rest =
        let nothing : call_accesses own n call ≡ [] = no_accesses own n call h roles in
        let none : spanned own n call ≡ [] = rw h refl in
        ap (λ l. l ++ by_number (call_accesses own) (n + 1) calls) nothing
        ∙ rest
        ∙ ap (λ l. flat_map (accesses_at own) (l ++ by_number (spanned own) (n + 1) calls)) (sym none)
    by (Some span) h rest =
        let one : spanned own n call ≡ n ∷ [] = rw h refl in
        let mine : accesses_at own n ≡ call_accesses own n call = ap (λ o. option_map_or (call_accesses own n) o []) here in
        ap (λ l. call_accesses own n call ++ l) rest
        ∙ ap (λ l. l ++ flat_map (accesses_at own) (by_number (spanned own) (n + 1) calls)) (sym mine)
        ∙ ap (λ l. flat_map (accesses_at own) (l ++ by_number (spanned own) (n + 1) calls)) (sym one)

pub all_accesses : (own : Origin) → accesses_of own ≡ flat_map (accesses_at own) (spanned_calls own)
all_accesses own = of_calls own 0 own.sound (λ k call h. subst (λ m. slice_get own.sound m ≡ Some call) (let e : k ≡ 0 + k = omega arith in e) h)
