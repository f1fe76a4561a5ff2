-- Where calls stand among the barriers and the creations of windows of their ranks.
use Rattle.std.proofs.Common.{◌≡◌, ℕ, zero, suc, ◌+◌, ◌<◌, ◌≤◌, Bool, true, false, cond, List, [], ◌∷◌, length, drop, take, Some, None, nat_lt, get_or, slice_get, refl, sym, ap, subst, ◌∙◌, arith}
use Rattle.std.specs.Prelude.{Contains}
use Rattle.std.specs.List.{prefix_len}
use Rattle.std.specs.Option.{option_map_or}
use Rattle.std.proofs.lemmas.Bool.{le-ltb, lt-ltb, ltb-true, ltb-false}
use Rattle.std.proofs.lemmas.List.Elements.{All-contains}
use Rattle.std.proofs.lemmas.List.Sums.{sum_by-cons}
use Rattle.std.proofs.lemmas.Option.{get_or_from_slice_get, same_Some, slice_get-get_or}
use Rattle.rma_call.specs.Call.{Call}
use Rattle.rma_call.specs.declared.what.What.{What}
use Rattle.rma_call.specs.declared.what.What.TheVariants as what
use Rattle.rma_call.specs.declared.what.SyncCall.TheVariants as sync
use Rattle.rma_call.specs.declared.moving.MovingCall.{MovingCall}
use Rattle.rma_round.specs.declared.kind.Kind.{Kind}
use Rattle.rma_round.specs.declared.kind.Kind.TheVariants as kind
use Rattle.rma_round.specs.declared.name_rounds.NameRounds.{NameRounds}
use Rattle.rma_round.specs.declared.name_rounds.RankRounds.{RankRounds}
use Rattle.rma_round.specs.Kind.{count_of, is_on, moved_on, named}
use Rattle.rma_round.specs.Round.{numbers, numbers_from}
use Rattle.rma_round.specs.inside.Rounds.{AreFoundOnName, AreOnName, AreRows, calls_in}
use Rattle.rma_round.proofs.NumberLemmas.{call_at, rises}
use Rattle.rma_agreement.specs.Collective.{place_of}
use Rattle.rma_agreement.specs.inside.Place.{AllPlaced, Ascend, RowIsPlaced, SharePlaces, place_among, place_in_round}
use Rattle.rma_round.proofs.RowLemmas.{calls_of_row, row_of, some_there, some_within}
use Rattle.rma_agreement.proofs.RowLemmas.{IsUnused}

-- ---- numbers below one

-- as many more as there are behind those that are known
pub more_pass : {X : Type 0} (p : X → Bool) (xs : List X) (n : ℕ) → n ≤ prefix_len p xs → n + prefix_len p (drop n xs) ≡ prefix_len p xs
more_pass p xs zero le = omega arith
more_pass p [] (suc n) le = absurd (omega arith)
more_pass p (x ∷ xs) (suc n) le = by (p x) le (more_pass p xs n)
  where
    by : (b : Bool) → suc n ≤ cond b (1 + prefix_len p xs) 0 → (n ≤ prefix_len p xs → n + prefix_len p (drop n xs) ≡ prefix_len p xs) → suc n + prefix_len p (drop n xs) ≡ cond b (1 + prefix_len p xs) 0
    by true le rest = let is = rest (omega (arith, le)) in omega (arith, is)
    by false le rest = absurd (omega (arith, le))

-- no fewer are below a larger one
pub place_grows : (xs : List ℕ) (a b : ℕ) → a ≤ b → place_among xs a ≤ place_among xs b
place_grows [] a b le = omega arith
place_grows (x ∷ xs) a b le = by (nat_lt x a) refl (place_grows xs a b le)
  where
    by : (below : Bool) → nat_lt x a ≡ below → place_among xs a ≤ place_among xs b → cond below (1 + place_among xs a) 0 ≤ cond (nat_lt x b) (1 + place_among xs b) 0
    by true is rest = let less : x < a = ltb-true x a is in rw (lt-ltb x b (omega (arith, less, le))) (omega (arith, rest))
    by false is rest = omega arith

-- so a place that is found stands before no later number
pub next_before : (others own : List ℕ) (r place : ℕ) → Ascend own → place ≡ place_among others (get_or own r 0) → (round : ℕ) → r + 1 ≤ round → round < length own → place ≤ place_among others (get_or own round 0)
next_before others own r place up is round le lt =
    let less = up r round (omega (arith, le)) lt in
    subst (λ n. n ≤ place_among others (get_or own round 0)) (sym is) (place_grows others (get_or own r 0) (get_or own round 0) (omega (arith, less)))

-- numbers that have one place have the place of the round
pub place_here : (first_others first others own : List ℕ) (r number : ℕ) → place_among others (get_or own r 0) ≡ place_among first_others (get_or first r 0) → r < length first → slice_get own r ≡ Some number →
    place_among others number ≡ place_in_round first_others first r
place_here first_others first others own r number same lt at =
    ap (place_among others) (sym (get_or_from_slice_get own r number 0 at))
    ∙ same
    ∙ ap (λ o. option_map_or (place_among first_others) o 0) (sym (slice_get-get_or first r 0 lt))

-- ---- the place of a call

module _ (kind : Kind) (name : List ℕ) where
  none_below : (n number : ℕ) (calls : List Call) → number ≤ n → place_among (numbers_from kind name n calls) number ≡ 0
  none_below n number [] le = refl
  none_below n number (c ∷ cs) le = by (is_on kind name c) (none_below (n + 1) number cs (omega arith))
    where
      by : (b : Bool) → place_among (numbers_from kind name (n + 1) cs) number ≡ 0 → place_among (cond b (n ∷ numbers_from kind name (n + 1) cs) (numbers_from kind name (n + 1) cs)) number ≡ 0
      by true rest = rw (le-ltb n number le) refl
      by false rest = rest

  count_below : (n : ℕ) (calls : List Call) (k : ℕ) → count_of kind name (take k calls) ≡ place_among (numbers_from kind name n calls) (n + k)
  count_below n [] zero = refl
  count_below n [] (suc k) = refl
  count_below n (c ∷ cs) zero = sym (none_below n (n + 0) (c ∷ cs) (omega arith))
  count_below n (c ∷ cs) (suc k) =
      sum_by-cons (λ x. cond (is_on kind name x) 1 0) c (take k cs)
      ∙ by (is_on kind name c) (count_below (n + 1) cs k ∙ ap (place_among (numbers_from kind name (n + 1) cs)) (let e : n + 1 + k ≡ n + suc k = omega arith in e))
    where
      by : (b : Bool) → count_of kind name (take k cs) ≡ place_among (numbers_from kind name (n + 1) cs) (n + suc k) →
          cond b 1 0 + count_of kind name (take k cs) ≡ place_among (cond b (n ∷ numbers_from kind name (n + 1) cs) (numbers_from kind name (n + 1) cs)) (n + suc k)
      by true rest = rw (lt-ltb n (n + suc k) (omega arith)) (omega (arith, rest))
      by false rest = omega (arith, rest)

  -- as many calls stand before one as there are smaller numbers
  count_is_place : (calls : List Call) (k : ℕ) → count_of kind name (take k calls) ≡ place_among (numbers kind name calls) k
  count_is_place calls k = count_below 0 calls k ∙ ap (place_among (numbers kind name calls)) (let e : 0 + k ≡ k = omega arith in e)

  -- a call of a round is of the kind on the name
  is_named : (own : List Call) (round number : ℕ) (call : Call) → slice_get (numbers kind name own) round ≡ Some number → slice_get own number ≡ Some call → named kind call.what ≡ Some name
  is_named own round number call at there =
      let found = call_at kind name own round number at in
      let same : found.0 ≡ call = same_Some found.0 call (sym found.1 ∙ there) in
      ap (λ (c : Call). named kind c.what) (sym same) ∙ found.2

module _ (name : List ℕ) (own : List Call) (round number : ℕ) (call : Call) (at : slice_get (numbers kind.Moving name own) round ≡ Some number) (there : slice_get own number ≡ Some call) where
  moving_place : place_of (take number own) call.what ≡ place_among (numbers kind.Collective name own) number
  moving_place =
      ap (λ o. option_map_or (λ comm. count_of kind.Collective comm (take number own)) o 0) (is_named kind.Moving name own round number call at there)
      ∙ count_is_place kind.Collective name own number

-- ---- rounds whose calls have one place

-- a call that moves no data has the place 0
pub share_none : (own : Kind) (calls : ℕ → List Call) → ((call : MovingCall) → named own (what.Sync (sync.Moving call)) ≡ None) → (name : List ℕ) → SharePlaces own calls name
share_none own calls none name = (
  λ round. 0,
  λ rank round number call at there.
      ap (λ o. option_map_or (λ comm. count_of kind.Collective comm (take number (calls rank))) o 0) (by call.what (is_named own name (calls rank) round number call at there)),
)
  where
    by : (does : What) → named own does ≡ Some name → moved_on does ≡ None
    by (what.Sync (sync.Moving call)) is = absurd (let not = none call in let no : ⊥ = cc in no)
    by does is = refl

pub share_unused : (own : Kind) (calls : ℕ → List Call) (name : List ℕ) → IsUnused own calls name → SharePlaces own calls name
share_unused own calls name unused = (λ round. 0, λ rank round number call at there. absurd (unused rank number call there (is_named own name (calls rank) round number call at there)))

-- calls that move data on a communicator without barriers and creations
pub share_alone : (calls : ℕ → List Call) (name : List ℕ) → AreFoundOnName kind.Collective name calls None → SharePlaces kind.Moving calls name
share_alone calls name found = (
  λ round. 0,
  λ rank round number call at there. moving_place name (calls rank) round number call at there ∙ ap (λ l. place_among l number) (sym (found rank)),
)

module _ (calls : ℕ → List Call) (name : List ℕ) (movings others : NameRounds) (rows : List RankRounds) (on_name : AreOnName kind.Moving name calls movings)
    (found : AreFoundOnName kind.Collective name calls (Some others)) (are_rows : AreRows movings rows) where
  row_ascends : (row : RankRounds) → Contains rows row → Ascend row.numbers.now
  row_ascends row has = subst Ascend (sym (calls_of_row movings rows are_rows row has ∙ on_name row.rank.0)) (rises kind.Moving name (calls row.rank.0))

  pub share_placed : (0 < length rows → AllPlaced others rows) → SharePlaces kind.Moving calls name
  share_placed placed = by (nat_lt 0 (length rows)) refl
    where
      by : (b : Bool) → nat_lt 0 (length rows) ≡ b → SharePlaces kind.Moving calls name
      by true some =
          let all = placed (ltb-true 0 (length rows) some) in
          let first = all.0 in (
            place_in_round (calls_in others first.rank.0) first.numbers.now,
            λ rank round number call at there.
                let kept : slice_get (calls_in movings rank) round ≡ Some number = ap (λ l. slice_get l round) (on_name rank) ∙ at in
                let row = row_of movings rows are_rows rank (some_there (calls_in movings rank) round number kept) in
                let own : slice_get row.0.numbers.now round ≡ Some number = ap (λ l. slice_get l round) (calls_of_row movings rows are_rows row.0 row.1 ∙ ap (calls_in movings) row.2) ∙ kept in
                moving_place name (calls rank) round number call at there
                ∙ ap (λ l. place_among l number) (sym (found rank) ∙ ap (calls_in others) (sym row.2))
                ∙ All-contains (RowIsPlaced others first) rows row.0 all.2 row.1 (row_ascends first all.1) (row_ascends row.0 row.1) round number own,
          )
      by false none = (
        λ round. 0,
        λ rank round number call at there.
            let kept : slice_get (calls_in movings rank) round ≡ Some number = ap (λ l. slice_get l round) (on_name rank) ∙ at in
            let row = row_of movings rows are_rows rank (some_there (calls_in movings rank) round number kept) in
            let some = some_within rows row.0 row.1 in
            let le = ltb-false 0 (length rows) none in
            absurd (omega (arith, some, le)),
      )
