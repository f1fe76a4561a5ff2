-- What is asked of a rank of a run of good logs.
use Rattle.std.proofs.Common.{◌≡◌, ℕ, zero, suc, ◌+◌, ◌<◌, ◌≤◌, List, [], ◌∷◌, Option, Some, None, map, slice_get, slice_index_or, length, inl, inr, refl, sym, ap, subst, ◌∙◌, arith}
use Rattle.std.specs.Prelude.{All, Contains}
use Rattle.std.specs.List.{cons_option, filter_map}
use Rattle.std.proofs.lemmas.List.{length-map}
use Rattle.std.proofs.lemmas.List.Elements.{All-get_or, Contains-append_left, Contains-append_right}
use Rattle.std.proofs.lemmas.Option.{get_or_from_slice_get, slice_get_cases, slice_get_read, slice_get_within}
use Rattle.rma_base.specs.Limits.{fed_limit}
use Rattle.rma_base.specs.declared.rank.Rank.{Rank}
use Rattle.rma_call.specs.Call.{Call, CallTable, RankCalls}
use Rattle.rma_epoch.specs.Table.{AreParts, OnWindow, sound_calls}
use Rattle.rma_kept.specs.Kept.{AreKept}
use Rattle.rma_rules.specs.Access.{Access}
use Rattle.rma_rules.specs.declared.access_name.Role.{Role}
use Rattle.rma_rules.specs.declared.access_name.Role.TheVariants as role
use Rattle.rma_run.specs.Run.{by_number}
use Rattle.rma_span.specs.Span.{AreAskable, AreFreedLater, Origin, access_of, accesses_of, call_accesses, origin_with, spanned_calls}
use Rattle.rma_span.specs.declared.rank_spans.RankSpans.{RankSpans}
use Rattle.rma_span.specs.declared.spans.CallSpans.{CallSpans}
use Rattle.rma_span.specs.inside.Stored.{AreSpansOf, Represents}
use Rattle.rma_span.proofs.FreedLemmas.{freed_later, has_buffers}
use Rattle.rma_touch.specs.Touches.{roles}
use Rattle.rma_window.specs.Windows.{Window}
use Rattle.rma_accesses.specs.Run.{AreGood}

-- an element has a place
pub place_of : {X : Type 0} (xs : List X) (x : X) → Contains xs x → (i : ℕ) × (slice_get xs i ≡ Some x)
place_of xs x there = (there.0, slice_get_read xs (length xs) there.0 x refl there.1 (sym there.2))

-- a rank of the run has no more calls than there may be
pub few_calls : (ranks : List RankCalls) (own : RankCalls) → AreGood ranks → Contains ranks own → length own.calls ≤ fed_limit
few_calls ranks own good there = let place = place_of ranks own there in good.run.few place.0 own place.1

-- its buffers are free after their calls
pub freed : (ranks : List RankCalls) (own : RankCalls) (windows : List Window) (rank : Rank) (calls : List Call) → AreGood ranks → Contains ranks own → calls ≡ own.calls
    → AreFreedLater (origin_with windows ranks rank calls)
freed ranks own windows rank calls good there same =
    freed_later own.rank.0 (length ranks) calls (origin_with windows ranks rank calls) (subst (AreKept own.rank.0 (length ranks)) (sym same) (good.kept own there)) refl

-- and what is known of its calls can be asked
pub askable : (ranks : List RankCalls) (own : RankCalls) (origin : Origin) (table : CallTable) (known : List OnWindow) → AreGood ranks → Contains ranks own → table.calls ≡ own.calls
    → origin.sound ≡ sound_calls origin.windows own.calls → AreParts origin.windows table known → AreAskable origin table known
askable ranks own origin table known good there same sound parts = record {
  sound = sound ∙ ap (sound_calls origin.windows) (sym same);
  few = subst (λ calls. length calls ≤ fed_limit) (sym same) (few_calls ranks own good there);
  parts = parts;
  buffers = λ place call is. has_buffers call.what (good.kept own there place call (subst (λ calls. slice_get calls place ≡ Some call) same is)).buffers_are_canonical;
}

-- ---- places in lists

-- an element at a place is one
pub contained : {X : Type 0} (xs : List X) (i : ℕ) (x : X) → slice_get xs i ≡ Some x → Contains xs x
contained xs i x there = (i, slice_get_within xs i x there, get_or_from_slice_get xs i x x there)

-- a mapped list has the mapped element at its place
pub mapped : {X Y : Type 0} (f : X → Y) (xs : List X) (i : ℕ) (x : X) → slice_get xs i ≡ Some x → slice_get (map f xs) i ≡ Some (f x)
mapped f (y ∷ xs) zero x there = let same : y ≡ x = cc in ap (λ z. Some (f z)) same
mapped f (y ∷ xs) (suc i) x there = mapped f xs i x there
mapped f [] i x there = absurd (let lt = slice_get_within [] i x there in omega (arith, lt))

-- what holds of all holds at a place
pub all_at : {X : Type 0} (P : X → Type 0) (xs : List X) (i : ℕ) (x : X) → All P xs → slice_get xs i ≡ Some x → P x
all_at P xs i x all there = subst P (get_or_from_slice_get xs i x x there) (All-get_or P xs i x (slice_get_within xs i x there) all)

-- what a loop over a slice has in hand
pub item_is : {X : Type 0} (xs slice : List X) (i : ℕ) (x : X) → slice ≡ xs → i < length slice → x ≡ slice_index_or slice i x → slice_get xs i ≡ Some x
item_is xs slice i x same within is = subst (λ l. slice_get l i ≡ Some x) same (slice_get_read slice (length slice) i x refl within is)

-- ---- an access of a rank

-- what is had of a call is had of the calls
pub by_number_has : {Y : Type 0} (f : ℕ → Call → List Y) (n : ℕ) (calls : List Call) (k : ℕ) (call : Call) (y : Y) → slice_get calls k ≡ Some call → Contains (f (n + k) call) y
    → Contains (by_number f n calls) y
by_number_has f n (first ∷ calls) zero call y there has =
    let same : first ≡ call = cc in
    Contains-append_left (f n first) (by_number f (n + 1) calls) y (subst (λ c. Contains (f n c) y) (sym same) (subst (λ m. Contains (f m call) y) (let e : n + 0 ≡ n = omega arith in e) has))
by_number_has f n (first ∷ calls) (suc k) call y there has =
    Contains-append_right (f n first) (by_number f (n + 1) calls) y (by_number_has f (n + 1) calls k call y there (subst (λ m. Contains (f m call) y) (let e : n + suc k ≡ n + 1 + k = omega arith in e) has))
by_number_has f n [] k call y there has = absurd (let lt = slice_get_within [] k call there in omega (arith, lt))

-- what is had of an element is kept
pub filter_map_has : {X Y : Type 0} (f : X → Option Y) (xs : List X) (k : ℕ) (x : X) (y : Y) → slice_get xs k ≡ Some x → f x ≡ Some y → Contains (filter_map f xs) y
filter_map_has f (first ∷ xs) zero x y there is =
    let same : first ≡ x = cc in
    subst (λ o. Contains (cons_option o (filter_map f xs)) y) (sym (ap f same ∙ is)) (Contains-append_left (y ∷ []) (filter_map f xs) y (contained (y ∷ []) 0 y refl))
filter_map_has f (first ∷ xs) (suc k) x y there is = later (f first) (filter_map f xs) y (filter_map_has f xs k x y there is)
  where
    later : {Y : Type 0} (o : Option Y) (ys : List Y) (y : Y) → Contains ys y → Contains (cons_option o ys) y
    later None ys y has = has
    later (Some z) ys y has = Contains-append_right (z ∷ []) ys y has
filter_map_has f [] k x y there is = absurd (let lt = slice_get_within [] k x there in omega (arith, lt))

-- each role has its place
role_place : (role : Role) → (k : ℕ) × (slice_get roles k ≡ Some role)
role_place role.Local = (0, refl)
role_place role.Target = (1, refl)
role_place role.Origin = (2, refl)
role_place role.Result = (3, refl)
role_place role.Compare = (4, refl)

-- the access that a sound call of the rank makes is one of the rank
pub made_by_rank : (own : Origin) (number : ℕ) (call : Call) (role : Role) (a : Access) → slice_get own.sound number ≡ Some call → access_of own number call role ≡ Some a
    → Contains (accesses_of own) a
made_by_rank own number call role a there is =
    let place = role_place role in
    by_number_has (call_accesses own) 0 own.sound number call a there
    (subst (λ n. Contains (call_accesses own n call) a) (let e : number ≡ 0 + number = omega arith in e) (filter_map_has (access_of own number call) roles place.0 role a place.1 is))

-- the call at an index among those that access memory is there, however the rest of the run is seen
pub spanned_there : (first own : Origin) (kept : RankSpans) (index : ℕ) → Represents first kept → Represents own kept → index < length (spanned_calls first)
    → (number : ℕ) × (call : Call) × (slice_get (spanned_calls own) index ≡ Some number) × (slice_get own.sound number ≡ Some call)
spanned_there first own kept index by_first by_own within =
    let items = kept.spans.items in
    let long : length items ≡ length (spanned_calls first) = sym (length-map items (λ (s : CallSpans). s.call)) ∙ ap length by_first.numbers in
    let cases = slice_get_cases items index in
    elim cases.1 [
      | inl some ↦
          let spans = some.0 in
          let of_call = all_at (AreSpansOf own kept.own_lists kept.target_lists) items index spans by_own.each some.2 in
          (spans.call, of_call.call, subst (λ l. slice_get l index ≡ Some spans.call) by_own.numbers (mapped (λ (s : CallSpans). s.call) items index spans some.2), of_call.there)
      | inr none ↦ absurd (let le = none.0 in omega (arith, le, long, within))
    ]
