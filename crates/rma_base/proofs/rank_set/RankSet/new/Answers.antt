use Rattle.std.proofs.Common.{◌≡◌, ℕ, ◌+◌, ◌<◌, ◌||◌, ◌++◌, [], ◌∷◌, List, true, false, ◌∙◌, ap, sym, map, take, drop, length, get_or, Err, add-one, drop-cons}
use Rattle.rma_base.specs.declared.rank_set.RankSetError.TheVariants.{Repeated}
use Rattle.std.specs.List.Sorted.{IsPermutation}
use Rattle.std.proofs.lemmas.List.{take_more, map-append}
use Rattle.std.proofs.lemmas.List.Sorted.{list_any-IsPermutation, IsPermutation-push_more}
use Rattle.std.proofs.Common.{eqb, take-append-drop}
use Rattle.std.proofs.lemmas.Result.{err_from_is_err_and}
use Rattle.rma_base.specs.declared.rank.Rank.{Rank}
use Rattle.rma_base.specs.RankSet.{number_of, has_repeat, has_number, placed, placed_all}
use Rattle.rma_base.proofs.RankSetLemmas.{has_repeat_push, has_repeat_front}
use Rattle.rma_base.proofs.rank_set.RankSet.new.Goals as goal

-- the numbers of one rank more
numbers-more : (ranks : List Rank) (i : ℕ) (d : Rank) → i < length ranks
    → map number_of (take (i + 1) ranks) ≡ map number_of (take i ranks) ++ number_of (get_or ranks i d) ∷ []
numbers-more ranks i d lt = ap (map number_of) (take_more ranks i d lt) ∙ map-append number_of (take i ranks) (get_or ranks i d ∷ [])

-- whether the next number repeats one
repeat-more : (ranks : List Rank) (i : ℕ) (d : Rank) (set : List ℕ) → i < length ranks → IsPermutation (map number_of (take i ranks)) set
    → has_repeat (map number_of (take i ranks)) ≡ false
    → has_repeat (map number_of (take (i + 1) ranks)) ≡ has_number (number_of (get_or ranks i d)) set
repeat-more ranks i d set lt same single =
    let front = map number_of (take i ranks) in
    let next = number_of (get_or ranks i d) in
    ap has_repeat (numbers-more ranks i d lt) ∙ has_repeat_push front next ∙ ap (λ repeats. repeats || has_number next front) single
    ∙ list_any-IsPermutation (λ m. eqb m next) front set same

repeat-all : (ranks : List Rank) (i : ℕ) → has_repeat (map number_of (take i ranks)) ≡ true → has_repeat (map number_of ranks) ≡ true
repeat-all ranks i h =
    ap (λ them. has_repeat (map number_of them)) (sym (take-append-drop i ranks)) ∙ ap has_repeat (map-append number_of (take i ranks) (drop i ranks)) ∙ has_repeat_front (map number_of (take i ranks)) (map number_of (drop i ranks)) h

-- the next number is put in its place
next-placed : (ranks : List Rank) (i : ℕ) (d : Rank) (sorted : List ℕ) → i < length ranks
    → placed_all (placed (number_of (get_or ranks i d)) sorted) (map number_of (drop (i + 1) ranks)) ≡ placed_all sorted (map number_of (drop i ranks))
next-placed ranks i d sorted lt = rw (add-one, drop-cons ranks i d)

pub returns-in_err-place-clause-repeated : goal.returns-in_err-place-clause-repeated
returns-in_err-place-clause-repeated c =
    let returned = err_from_is_err_and c.from_residual.result c.from_residual.ensures.1 in
    let ranks = c.args.ranks.now in
    let i = c.loop-rank.rank-index in
    let numbers = c.loop-rank.numbers.items in
    rw (returned.1, returned.2)
    (λ is_repeated. let same : c.in_err-place.field-0.0 ≡ Repeated = cc is_repeated in
    repeat-all ranks (i + 1)
    (repeat-more ranks i (record { 0 = 0 }) numbers c.loop-rank-test.true c.loop-rank.invariant.same c.loop-rank.invariant.single
    ∙ c.in_err-place.ensures.repeated (ap Err same)))

pub loop-rank-preserved : goal.loop-rank-preserved
loop-rank-preserved c = record {
  ascending = c.in_ok-place.ensures.ascending;
  same = rw (numbers-more c.args.ranks.now c.loop-rank.rank-index (record { 0 = 0 }) c.loop-rank-test.true) (IsPermutation-push_more _ _ _ _ c.loop-rank.invariant.same c.in_ok-place.ensures.placed);
  sorted = rw c.in_ok-place.ensures.sorted (next-placed c.args.ranks.now c.loop-rank.rank-index (record { 0 = 0 }) c.loop-rank.numbers.items c.loop-rank-test.true ∙ c.loop-rank.invariant.sorted);
  single = repeat-more c.args.ranks.now c.loop-rank.rank-index (record { 0 = 0 }) c.loop-rank.numbers.items c.loop-rank-test.true c.loop-rank.invariant.same c.loop-rank.invariant.single ∙ c.in_ok-place.ensures.is_new;
}
