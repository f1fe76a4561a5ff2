-- A run that is stuck has a call that is told.
use Rattle.std.proofs.Common.{◌≡◌, ◌≢◌, ℕ, zero, suc, ◌/◌, ◌%◌, ◌<◌, ◌≤◌, inl, inr, List, [], ◌∷◌, length, get_or, drop, replicate, Option, Some, None, slice_get, refl, sym, ap, subst, ◌∙◌, arith, ⊎_elim}
use Rattle.std.specs.Prelude.{slice_index, option_map}
use Rattle.std.specs.List.{cons_option}
use Rattle.std.specs.Option.{option_and_then}
use Rattle.std.proofs.lemmas.Bool.{cases_lt}
use Rattle.std.proofs.lemmas.List.{length-map, get_or_past}
use Rattle.std.proofs.lemmas.Option.{slice_get-get_or, slice_get-map, slice_get_cases, get_or_from_slice_get}
use Rattle.rma_base.specs.declared.point.Point.{Point}
use Rattle.rma_call.specs.Call.{Call, RankCalls}
use Rattle.rma_link.specs.declared.links.Links.{Links}
use Rattle.rma_link.specs.Point.{entry, return_of, IsPoint}
use Rattle.rma_link.specs.Order.{IsAfterCycle, IsPossible}
use Rattle.rma_link.specs.Order.IsAtOrBefore.{at}
use Rattle.rma_link.proofs.OrderLemmas.{same_point, on_cycle_within}
use Rattle.rma_run.specs.Run.{AreInOrder, lens_of}
use Rattle.rma_walk.specs.Outcome.{IsImpossible, IsStuck}
use Rattle.rma_order.specs.declared.impossible.ImpossibleCall.{ImpossibleCall}
use Rattle.rma_order.specs.RunLinks.{LinkTheSame, links_of}
use Rattle.rma_order.specs.Impossible.{AreImpossibleCalls, first_at, told, told_all}
use Rattle.rma_order.proofs.ImpossibleLemmas.{one_impossible}
use Rattle.rma_order.proofs.LinkLemmas.{links_are_within}
use Rattle.rma_order.proofs.SameLinks.{on_cycle_all, none_impossible}
use Rattle.rma_order.proofs.ToldLemmas.{at_next, first_at_none, told_none}

-- a call that is there is told
told_one : (own : RankCalls) (n : ℕ) (call : Call) (rest : List ImpossibleCall) → slice_get own.calls n ≡ Some call → cons_option (told own n) rest ≢ []
told_one own n call rest is =
    let P : Option Call → Type 0 = λ o. cons_option (option_map {U = ImpossibleCall} (λ call. record { rank = own.rank; line = call.line }) o) rest ≢ [] in
    subst P (sym is) (λ none. absurd (let no : ⊥ = cc in no))

and_more : (o : Option ImpossibleCall) (rest : List ImpossibleCall) → rest ≢ [] → cons_option o rest ≢ []
and_more None rest some = some
and_more (Some call) rest some = λ none. absurd (let no : ⊥ = cc in no)

-- so where a rank has such a call, some call is told
some_told : (ranks : List RankCalls) (firsts : List (Option ℕ)) (i : ℕ) (own : RankCalls) (n : ℕ) (call : Call) → slice_get ranks i ≡ Some own → first_at firsts i ≡ Some n → slice_get own.calls n ≡ Some call
    → told_all ranks firsts ≢ []
some_told [] firsts i own n call is_at first there = absurd (let no : ⊥ = cc in no)
some_told (r ∷ ranks) firsts zero own n call is_at first there =
    let is : r ≡ own = cc in
    let rest = told_all ranks (drop 1 firsts) in
    let P : Option ℕ → Type 0 = λ o. cons_option (option_and_then (told r) o) rest ≢ [] in
    subst P (sym first) (told_one r n call rest (ap (λ (o : RankCalls). slice_get o.calls n) is ∙ there))
some_told (r ∷ ranks) firsts (suc i) own n call is_at first there =
    and_more (option_and_then (told r) (first_at firsts 0)) (told_all ranks (drop 1 firsts)) (some_told ranks (drop 1 firsts) i own n call is_at (at_next firsts i ∙ first) there)

-- a point is the entry or the return of its call
impossible_at : (links : Links) (p : Point) → IsAfterCycle links p → IsImpossible links p.rank (p.pos / 2)
impossible_at links p after =
    ⊎_elim
    (λ (even : p.pos % 2 < 1). inl (subst (IsAfterCycle links) (same_point p (entry p.rank (p.pos / 2)) refl (omega arith)) after))
    (λ (odd : 1 ≤ p.pos % 2). inr (subst (IsAfterCycle links) (same_point p (return_of p.rank (p.pos / 2)) refl (omega arith)) after))
    (cases_lt (p.pos % 2) 1)

in_lens : (lens : List ℕ) (p : Point) → IsPoint lens p → p.rank.0 < length lens
in_lens lens p is =
    ⊎_elim
    (λ (there : p.rank.0 < length lens). there)
    (λ (past : length lens ≤ p.rank.0). let none : slice_index lens p.rank.0 ≡ 0 = get_or_past lens p.rank.0 0 past in absurd (omega arith))
    (cases_lt p.rank.0 (length lens))

-- the call of a number below those of its rank
call_there : (own : RankCalls) (n : ℕ) → n < length own.calls → (call : Call) × (slice_get own.calls n ≡ Some call)
call_there own n below =
    ⊎_elim
    (λ (there : (call : Call) × (n < length own.calls) × (slice_get own.calls n ≡ Some call) × (get_or own.calls n call ≡ call)). (there.0, there.2))
    (λ (past : (length own.calls ≤ n) × (slice_get own.calls n ≡ None)). let over = past.0 in absurd (omega arith))
    (slice_get_cases own.calls n).1

-- so the call of a rank that has this number is told
told_at : (ranks : List RankCalls) (firsts : List (Option ℕ)) (r n : ℕ) → slice_get firsts r ≡ Some (Some n) → n < slice_index (lens_of ranks) r → told_all ranks firsts ≢ []
told_at ranks firsts r n is below =
    ⊎_elim
    (λ (there : (own : RankCalls) × (r < length ranks) × (slice_get ranks r ≡ Some own) × (get_or ranks r own ≡ own)).
    let own = there.0 in
    let calls : RankCalls → ℕ = λ own. length own.calls in
    let counted : slice_get (lens_of ranks) r ≡ Some (length own.calls) = slice_get-map calls ranks r ∙ ap (λ (o : Option RankCalls). option_map calls o) there.2 in
    let count : slice_index (lens_of ranks) r ≡ length own.calls = get_or_from_slice_get (lens_of ranks) r (length own.calls) 0 counted in
    let call = call_there own n (omega arith) in
    some_told ranks firsts r own n call.0 there.2 (ap (λ (o : Option (Option ℕ)). option_and_then (λ first. first) o) is) call.1)
    (λ (past : (length ranks ≤ r) × (slice_get ranks r ≡ None)).
    let over = past.0 in
    let size : length (lens_of ranks) ≡ length ranks = length-map ranks (λ own. length own.calls) in
    let none : slice_index (lens_of ranks) r ≡ 0 = get_or_past (lens_of ranks) r 0 (omega arith) in
    absurd (omega arith))
    (slice_get_cases ranks r).1

-- a stuck run has a call that is told
pub stuck_is_told : (ranks : List RankCalls) → AreInOrder ranks → (links : Links) → LinkTheSame links (links_of ranks) → (firsts : List (Option ℕ)) → IsStuck (lens_of ranks) links firsts → told_all ranks firsts ≢ []
stuck_is_told ranks in_order links same firsts stuck = by (get_or firsts p.rank.0 None) (slice_get-get_or firsts p.rank.0 None there)
  where
    p : Point
    p = stuck.0.0

    within : IsPoint (lens_of ranks) p
    within = on_cycle_within (lens_of ranks) (links_of ranks) p (links_are_within ranks in_order) (on_cycle_all links (links_of ranks) same.only p stuck.0.1)

    there : p.rank.0 < length firsts
    there = let size = stuck.1.each in let one = in_lens (lens_of ranks) p within in omega arith

    by : (o : Option ℕ) → slice_get firsts p.rank.0 ≡ Some o → told_all ranks firsts ≢ []
    by None is = absurd (stuck.1.first p.rank.0 None is (p.pos / 2) (omega (arith, within)) (impossible_at links p (p, stuck.0.1, at)))
    by (Some n) is = told_at ranks firsts p.rank.0 n is (stuck.1.first p.rank.0 (Some n) is).0

-- a possible run has no impossible call
pub possible_or_told : (ranks : List RankCalls) (found : List ImpossibleCall) → AreImpossibleCalls ranks found → found ≢ [] → IsPossible (links_of ranks) → ⊥
possible_or_told ranks found are some possible =
    let lens = lens_of ranks in
    let links = links_of ranks in
    let same : LinkTheSame links links = record { only = λ from to linked. linked; all = λ from to linked. linked } in
    let none : AreImpossibleCalls ranks [] = (replicate (length lens) None, none_impossible lens links links same possible, sym (told_none ranks (replicate (length lens) None) (first_at_none (length lens)))) in
    some (one_impossible ranks found [] are none)
