-- Rounds on whose names nothing is at fault.
use Rattle.std.proofs.Common.{◌≡◌, ℕ, ◌+◌, ◌<◌, ◌≤◌, Bool, true, false, cond, ◌&&◌, List, [], ◌∷◌, length, Option, Some, None, nat_le, slice_get, refl, sym, ap, subst, ◌∙◌, arith}
use Rattle.std.specs.Prelude.{Contains}
use Rattle.std.specs.List.{list_all}
use Rattle.std.specs.Option.{option_map_or}
use Rattle.std.proofs.lemmas.Bool.Decides.{nat_tests}
use Rattle.std.proofs.lemmas.List.Elements.{All-contains}
use Rattle.std.proofs.lemmas.List.Sums.{sum_by-cons}
use Rattle.rma_call.specs.Call.{Call, RankCalls}
use Rattle.rma_call.specs.declared.what.What.{What}
use Rattle.rma_call.specs.declared.what.What.TheVariants as what
use Rattle.rma_call.specs.declared.what.SyncCall.TheVariants as sync
use Rattle.rma_call.specs.declared.frame.FrameCall.TheVariants as frame
use Rattle.rma_call.specs.declared.window.WindowCall.TheVariants as window
use Rattle.rma_call.specs.declared.epoch.EpochCall.TheVariants as epoch
use Rattle.rma_call.specs.declared.moving.MovingCall.TheVariants as moving
use Rattle.rma_run.specs.Run.{calls_of}
use Rattle.rma_round.specs.declared.kind.Kind.{Kind}
use Rattle.rma_round.specs.declared.name_rounds.NameRounds.{NameRounds}
use Rattle.rma_round.specs.declared.name_rounds.RankRounds.{RankRounds}
use Rattle.rma_round.specs.Kind.{count_of, is_on, named}
use Rattle.rma_round.specs.Round.{numbers, numbers_from}
use Rattle.rma_round.specs.inside.Rounds.{AreOnName, AreRows, calls_in}
use Rattle.rma_round.proofs.NumberLemmas.{call_at}
use Rattle.rma_agreement.specs.declared.argument.Arguments.{Arguments}
use Rattle.rma_agreement.specs.declared.argument.Arguments.TheVariants.{Barrier, Creation, Fence, Moving, Nothing}
use Rattle.rma_agreement.specs.Argument.{arguments_of}
use Rattle.rma_agreement.specs.Collective.{made}
use Rattle.rma_member.specs.Member.{members}
use Rattle.rma_agreement.specs.inside.Agreement.{AgreeOn, AllAgree, IsInRound, IsRegular, RowAgrees, arguments_at}
use Rattle.rma_agreement.specs.inside.Place.{SharePlaces}
use Rattle.rma_agreement.specs.Balance.{IsBalanced}
use Rattle.rma_round.proofs.RowLemmas.{calls_of_row, row_of, some_there, some_within}
use Rattle.rma_agreement.proofs.RowLemmas.{IsUnused, every_name}

-- ---- lists

same_all : {X : Type 0} (f g : X → Bool) (xs : List X) → ((x : X) → f x ≡ g x) → list_all f xs ≡ list_all g xs
same_all f g [] same = refl
same_all f g (x ∷ xs) same = ap (λ b. b && list_all f xs) (same x) ∙ ap (λ b. g x && b) (same_all f g xs same)

-- ---- what a call has to agree on, but for its place

-- the same at another place
abbrev at : ℕ → Arguments → Arguments
at place Barrier = Barrier
at place (Creation window) = Creation window
at place (Fence noprecede nosucceed) = Fence noprecede nosucceed
at place (Moving transfer) = Moving (record { movement = transfer.movement; bytes = transfer.bytes; place = place })
at place Nothing = Nothing

at_is : (place : ℕ) (does : What) → arguments_of place does ≡ at place (arguments_of 0 does)
at_is place (what.Sync (sync.Frame (frame.Barrier comm))) = refl
at_is place (what.Sync (sync.Window (window.Create name comm base size unit model ops dynamic))) = refl
at_is place (what.Sync (sync.Epoch (epoch.Fence name assertions))) = refl
at_is place (what.Sync (sync.Moving (moving.Bcast root bytes comm))) = refl
at_is place does = refl

-- calls that agree but for their places agree at one place
same_at : (place : ℕ) (first own : What) → arguments_of 0 first ≡ arguments_of 0 own → arguments_of place first ≡ arguments_of place own
same_at place first own same = at_is place first ∙ ap (at place) same ∙ sym (at_is place own)

-- ---- calls of a kind on a name

module _ (kind : Kind) (name : List ℕ) where
  count_from : (n : ℕ) (calls : List Call) → count_of kind name calls ≡ length (numbers_from kind name n calls)
  count_from n [] = refl
  count_from n (c ∷ cs) = sum_by-cons (λ x. cond (is_on kind name x) 1 0) c cs ∙ by (is_on kind name c) (count_from (n + 1) cs)
    where
      by : (b : Bool) → count_of kind name cs ≡ length (numbers_from kind name (n + 1) cs) →
          cond b 1 0 + count_of kind name cs ≡ length (cond b (n ∷ numbers_from kind name (n + 1) cs) (numbers_from kind name (n + 1) cs))
      by true rest = omega (arith, rest)
      by false rest = omega (arith, rest)

  made_counted : (ranks : List RankCalls) (m : ℕ) → made kind ranks m name ≡ length (numbers kind name (calls_of ranks m))
  made_counted ranks m = by (slice_get ranks m)
    where
      by : (o : Option RankCalls) → option_map_or (λ r. count_of kind name r.calls) o 0 ≡ length (numbers kind name (option_map_or (λ r. r.calls) o []))
      by None = refl
      by (Some r) = count_from 0 r.calls

-- ---- names that no call is on

module _ (kind : Kind) (ranks : List RankCalls) (name : List ℕ) (none : IsUnused kind (calls_of ranks) name) where
  no_numbers : (rank : ℕ) → numbers kind name (calls_of ranks rank) ≡ []
  no_numbers rank = by (numbers kind name (calls_of ranks rank)) refl
    where
      by : (ns : List ℕ) → numbers kind name (calls_of ranks rank) ≡ ns → numbers kind name (calls_of ranks rank) ≡ []
      by [] is = is
      by (n ∷ ns) is = let one = call_at kind name (calls_of ranks rank) 0 n (ap (λ l. slice_get l 0) is) in absurd (none rank n one.0 one.1 one.2)

  none_balanced : IsBalanced kind ranks name
  none_balanced =
      let made_none : (m : ℕ) → made kind ranks m name ≡ 0 = λ m. made_counted kind name ranks m ∙ ap length (no_numbers m) in (
        0,
        λ m. omega (arith, made_none m),
        zero_all (λ m. made kind ranks m name) (members kind ranks name),
      )
    where
      zero_all : (f : ℕ → ℕ) (ms : List ℕ) → list_all (λ m. nat_le 0 (f m)) ms ≡ true
      zero_all f [] = refl
      zero_all f (m ∷ ms) = let le : nat_le 0 (f m) ≡ true = grind (arith, nat_tests) in ap (λ b. b && list_all (λ k. nat_le 0 (f k)) ms) le ∙ zero_all f ms

  none_agree : AgreeOn kind ranks name
  none_agree = λ number first own one other.
      let there : slice_get (numbers kind name (calls_of ranks one.rank)) number ≡ Some one.index = one.is_numbered in
      let never : None ≡ Some one.index = ap (λ l. slice_get l number) (sym (no_numbers one.rank)) ∙ there in
      absurd (let no : ⊥ = cc in no)

-- ---- a name whose rounds are kept

module _ (kind : Kind) (ranks : List RankCalls) (name : List ℕ) (rounds : NameRounds) (on_name : AreOnName kind name (calls_of ranks) rounds) where
  made_kept : (m : ℕ) → made kind ranks m name ≡ length (calls_in rounds m)
  made_kept m = made_counted kind name ranks m ∙ ap length (sym (on_name m))

  pub kept_balanced : (own : List ℕ) → own ≡ members kind ranks name → (most : ℕ) → ((rank : ℕ) → length (calls_in rounds rank) ≤ most) →
      list_all (λ m. nat_le most (length (calls_in rounds m))) own ≡ true → IsBalanced kind ranks name
  kept_balanced own has_to most few enough = (
    most,
    λ m. subst (λ n. n ≤ most) (sym (made_kept m)) (few m),
    same_all (λ m. nat_le most (made kind ranks m name)) (λ m. nat_le most (length (calls_in rounds m))) (members kind ranks name) (λ m. ap (nat_le most) (made_kept m))
        ∙ ap (list_all (λ m. nat_le most (length (calls_in rounds m)))) (sym has_to)
        ∙ enough,
  )

module _ (kind : Kind) (ranks : List RankCalls) (name : List ℕ) (rounds : NameRounds) (rows : List RankRounds) (on_name : AreOnName kind name (calls_of ranks) rounds) (are_rows : AreRows rounds rows) where
  -- a call of a round agrees with the first rank's call, but for its place
  agrees : (all : AllAgree ranks rows) (number : ℕ) (arguments : Arguments) (one : IsInRound kind ranks name number arguments) → arguments_of 0 one.call.what ≡ arguments_at ranks all.0 number
  agrees all number arguments one =
      let kept : slice_get (calls_in rounds one.rank) number ≡ Some one.index = ap (λ l. slice_get l number) (on_name one.rank) ∙ one.is_numbered in
      let row = row_of rounds rows are_rows one.rank (some_there (calls_in rounds one.rank) number one.index kept) in
      let own : slice_get row.0.numbers.now number ≡ Some one.index =
      ap (λ l. slice_get l number) (calls_of_row rounds rows are_rows row.0 row.1 ∙ ap (calls_in rounds) row.2) ∙ kept in
      let there : slice_get (calls_of ranks row.0.rank.0) one.index ≡ Some one.call = ap (λ r. slice_get (calls_of ranks r) one.index) row.2 ∙ one.there in
      All-contains (λ (r : RankRounds). RowAgrees ranks all.0 r) rows row.0 all.1 row.1 number one.index one.call own there

  pub kept_agree : (0 < length rows → AllAgree ranks rows) → SharePlaces kind (calls_of ranks) name → AgreeOn kind ranks name
  kept_agree agree share = λ number first own one other.
      let kept : slice_get (calls_in rounds one.rank) number ≡ Some one.index = ap (λ l. slice_get l number) (on_name one.rank) ∙ one.is_numbered in
      let row = row_of rounds rows are_rows one.rank (some_there (calls_in rounds one.rank) number one.index kept) in
      let all = agree (some_within rows row.0 row.1) in
      at_place number first one
      ∙ same_at (share.0 number) one.call.what other.call.what (agrees all number first one ∙ sym (agrees all number own other))
      ∙ sym (at_place number own other)
    where
      at_place : (number : ℕ) (arguments : Arguments) (one : IsInRound kind ranks name number arguments) → arguments ≡ arguments_of (share.0 number) one.call.what
      at_place number arguments one = sym one.are ∙ ap (λ n. arguments_of n one.call.what) (share.1 one.rank number one.index one.call one.is_numbered one.there)

-- ---- all names

-- where nothing is at fault on the names that calls are on, nothing is at fault
pub all_regular : (kind : Kind) (ranks : List RankCalls) (names : List (List ℕ)) →
    ((rank number : ℕ) (call : Call) (name : List ℕ) → slice_get (calls_of ranks rank) number ≡ Some call → named kind call.what ≡ Some name → Contains names name) →
    ((j : ℕ) (name : List ℕ) → j < length names → slice_get names j ≡ Some name → IsBalanced kind ranks name × AgreeOn kind ranks name) → IsRegular kind ranks
all_regular kind ranks names each on =
    let both = every_name kind (calls_of ranks) names (λ name. IsBalanced kind ranks name × AgreeOn kind ranks name) each on (λ name none. (none_balanced kind ranks name none, none_agree kind ranks name none)) in
    record { balanced = λ name. (both name).0; agree = λ name. (both name).1 }
