-- The calls of a round, by what is kept of the ranks that make them.
use Rattle.std.proofs.Common.{◌≡◌, ◌≢◌, ℕ, suc, ◌+◌, ◌-◌, ◌<◌, ◌≤◌, ◌⊎◌, inl, inr, true, false, ◌∷◌, ◌++◌, List, [], length, take, get_or, Some, None, nat_eq, nat_cmp, eqb, slice_get, refl, sym, ap, subst, ◌∙◌, arith}
use Rattle.std.specs.Prelude.{option_map}
use Rattle.std.specs.List.{filter_map, cons_option, AllByRecursion}
use Rattle.std.specs.List.Sorted.{IsStrictlySortedBy}
use Rattle.std.specs.Map.{keys_of}
use Rattle.std.specs.BTreeMap.{is_at}
use Rattle.std.specs.Cmp.{ranked, unsigned_tied}
use Rattle.std.proofs.lemmas.Bool.Decides.{nat_tests, eqb_tells}
use Rattle.std.proofs.lemmas.Option.{slice_get_past, slice_get-map, slice_get-get_or}
use Rattle.std.specs.declared.cmp.Ordering.TheVariants.{Less}
use Rattle.rma_base.specs.declared.rank.Rank.{Rank}
use Rattle.rma_call.specs.Call.{RankCalls}
use Rattle.rma_link.specs.declared.meet.Member.{Member}
use Rattle.rma_run.specs.Run.{AreInOrder, calls_of}
use Rattle.rma_run.proofs.WalkLemmas.{filter_map_taken}
use Rattle.rma_round.specs.declared.kind.Kind.{Kind}
use Rattle.rma_round.specs.declared.name_rounds.RankRounds.{RankRounds}
use Rattle.rma_round.specs.Round.{numbers}
use Rattle.rma_round.specs.Meet.{member_at, round_at}
use Rattle.rma_round.specs.inside.Rounds.{listed, row_entry, row_entries}
use Rattle.rma_round.specs.inside.Met.{member_in}

-- ranks ascend, from this one on
abbrev Ascend : ℕ → List (ℕ × List ℕ) → Type 0
Ascend n [] = Unit {0}
Ascend n (e ∷ es) = (n ≤ e.0) × Ascend (e.0 + 1) es

above_all : (x : ℕ) (es : List (ℕ × List ℕ)) → AllByRecursion (λ y. nat_cmp x y ≡ Less) (keys_of es) → AllByRecursion (λ y. x + 1 ≤ y) (keys_of es)
above_all x [] all = tt
above_all x (e ∷ es) all = (let lt : x < e.0 = ranked x e.0 Less (sym all.0) in omega arith, above_all x es all.1)

ascend_from : (n : ℕ) (es : List (ℕ × List ℕ)) → AllByRecursion (λ y. n ≤ y) (keys_of es) → IsStrictlySortedBy nat_cmp (keys_of es) → Ascend n es
unfolding IsStrictlySortedBy
ascend_from n [] all sorted = tt
ascend_from n (e ∷ es) all sorted = (all.0, ascend_from (e.0 + 1) es (above_all e.0 es sorted.0) sorted.1)

all_from_zero : (es : List (ℕ × List ℕ)) → AllByRecursion (λ y. 0 ≤ y) (keys_of es)
all_from_zero [] = tt
all_from_zero (e ∷ es) = (omega arith, all_from_zero es)

ascend_weaker : (n m : ℕ) (es : List (ℕ × List ℕ)) → n ≤ m → Ascend m es → Ascend n es
ascend_weaker n m [] le up = tt
ascend_weaker n m (e ∷ es) le up = (let from = up.0 in omega arith, up.1)

-- ---- what is listed under a rank

at_is : (rank key : ℕ) → is_at (nat_cmp rank) key ≡ nat_eq rank key
at_is rank key = unsigned_tied rank key

differ : (a b : ℕ) → a < b → nat_eq a b ≡ false
differ a b lt = grind (arith, nat_tests)

differ_back : (a b : ℕ) → b < a → nat_eq a b ≡ false
differ_back a b lt = grind (arith, nat_tests)

itself : (n : ℕ) → nat_eq n n ≡ true
itself n = grind (arith, nat_tests)

listed_other : (e : ℕ × List ℕ) (es : List (ℕ × List ℕ)) (rank : ℕ) → nat_eq rank e.0 ≡ false → listed (e ∷ es) rank ≡ listed es rank
listed_other e es rank not = rw (at_is rank e.0, not) refl

listed_first : (e : ℕ × List ℕ) (es : List (ℕ × List ℕ)) → listed (e ∷ es) e.0 ≡ e.1
listed_first e es = rw (at_is e.0 e.0, itself e.0) refl

-- a rank below all has none
listed_below : (m : ℕ) (es : List (ℕ × List ℕ)) (rank : ℕ) → Ascend m es → rank < m → listed es rank ≡ []
listed_below m [] rank up lt = refl
listed_below m (e ∷ es) rank up lt =
    let from = up.0 in
    listed_other e es rank (differ rank e.0 (omega arith)) ∙ listed_below (e.0 + 1) es rank up.1 (omega arith)

-- ---- the calls of a round

pub none_there : (place rank : ℕ) (ns : List ℕ) → slice_get ns place ≡ None → member_in place (rank, ns) ≡ None
none_there place rank ns none = ap (option_map (λ (call : ℕ). let m : Member = record { rank = record { 0 = rank }; call = call } in m)) none

module _ (place : ℕ) where
  none_at : (rank : ℕ) (ns : List ℕ) → ns ≡ [] → member_in place (rank, ns) ≡ None
  none_at rank ns none = rw none (ap (option_map (λ (call : ℕ). let m : Member = record { rank = record { 0 = rank }; call = call } in m)) (slice_get_past [] place (omega arith)))

  none_in : (n : ℕ) (es : List (ℕ × List ℕ)) → Ascend n es → ((d : ℕ) → listed es (n + d) ≡ []) → filter_map (member_in place) es ≡ []
  none_in n [] up none = refl
  none_in n (e ∷ es) up none =
      let from = up.0 in
      let at : n + (e.0 - n) ≡ e.0 = omega arith in
      let own : e.1 ≡ [] = sym (listed_first e es) ∙ ap (listed (e ∷ es)) (sym at) ∙ none (e.0 - n) in
      let later : (d : ℕ) → listed es (e.0 + 1 + d) ≡ [] = λ d.
      let k : n + (e.0 + 1 + d - n) ≡ e.0 + 1 + d = omega arith in
      sym (listed_other e es (e.0 + 1 + d) (differ_back (e.0 + 1 + d) e.0 (omega arith))) ∙ ap (listed (e ∷ es)) (sym k) ∙ none (e.0 + 1 + d - n) in
      ap (λ o. cons_option o (filter_map (member_in place) es)) (none_at e.0 e.1 own) ∙ none_in (e.0 + 1) es up.1 later

  module _ (kind : Kind) (name : List ℕ) where
    same_member : (e : ℕ × List ℕ) (own : RankCalls) → own.rank.0 ≡ e.0 → e.1 ≡ numbers kind name own.calls → member_in place e ≡ member_at kind name place own
    same_member e own rank ns =
        ap (λ (list : List ℕ). option_map (λ (call : ℕ). let m : Member = record { rank = record { 0 = e.0 }; call = call } in m) (slice_get list place)) ns
        ∙ ap (λ (r : Rank). option_map (λ (call : ℕ). let m : Member = record { rank = r; call = call } in m) (slice_get (numbers kind name own.calls) place)) (ap (λ n. let r : Rank = record { 0 = n } in r) (sym rank))

    no_member : (own : RankCalls) → [] ≡ numbers kind name own.calls → member_at kind name place own ≡ None
    no_member own none = sym (same_member (own.rank.0, []) own refl none) ∙ none_at own.rank.0 [] refl

    -- the ranks that are kept have the same calls as all ranks
    members_from : (n : ℕ) (ranks : List RankCalls) (es : List (ℕ × List ℕ)) → ((i : ℕ) (own : RankCalls) → slice_get ranks i ≡ Some own → own.rank.0 ≡ n + i) → Ascend n es
        → ((d : ℕ) → listed es (n + d) ≡ numbers kind name (calls_of ranks d)) → filter_map (member_in place) es ≡ filter_map (member_at kind name place) ranks
    members_from n [] es order up are = none_in n es up are
    members_from n (own ∷ rest) es order up are =
        by es up are
        (λ fs above later. members_from (n + 1) rest fs (λ i other there. order (suc i) other there ∙ (let e : n + suc i ≡ n + 1 + i = omega arith in e)) above
        (λ d. ap (listed fs) (let e : n + 1 + d ≡ n + suc d = omega arith in e) ∙ later d))
      where
        rank_is : own.rank.0 ≡ n
        rank_is = order 0 own refl ∙ (let e : n + 0 ≡ n = omega arith in e)

        -- the first rank has none
        skip : (fs : List (ℕ × List ℕ)) → Ascend (n + 1) fs → ((d : ℕ) → listed fs (n + d) ≡ numbers kind name (calls_of (own ∷ rest) d)) → filter_map (member_in place) fs ≡ filter_map (member_at kind name place) rest
            → filter_map (member_in place) fs ≡ filter_map (member_at kind name place) (own ∷ rest)
        skip fs above fs_are same =
            let none : [] ≡ numbers kind name own.calls = sym (listed_below (n + 1) fs (n + 0) above (omega arith)) ∙ fs_are 0 in
            same ∙ ap (λ o. cons_option o (filter_map (member_at kind name place) rest)) (sym (no_member own none))

        first : (e : ℕ × List ℕ) (fs : List (ℕ × List ℕ)) → Ascend n (e ∷ fs) → ((d : ℕ) → listed (e ∷ fs) (n + d) ≡ numbers kind name (calls_of (own ∷ rest) d))
            → ((gs : List (ℕ × List ℕ)) → Ascend (n + 1) gs → ((d : ℕ) → listed gs (n + suc d) ≡ numbers kind name (calls_of rest d)) → filter_map (member_in place) gs ≡ filter_map (member_at kind name place) rest)
            → ((eqb e.0 n ≡ true) × (e.0 ≡ n)) ⊎ ((eqb e.0 n ≡ false) × (e.0 ≢ n)) → filter_map (member_in place) (e ∷ fs) ≡ filter_map (member_at kind name place) (own ∷ rest)
        first e fs above fs_are others (inl (test, here)) =
            let ns : e.1 ≡ numbers kind name own.calls = sym (listed_first e fs) ∙ ap (listed (e ∷ fs)) (let at : e.0 ≡ n + 0 = omega (arith, here) in at) ∙ fs_are 0 in
            let later : (d : ℕ) → listed fs (n + suc d) ≡ numbers kind name (calls_of rest d) = λ d.
            sym (listed_other e fs (n + suc d) (differ_back (n + suc d) e.0 (omega (arith, here)))) ∙ fs_are (suc d) in
            ap (λ o. cons_option o (filter_map (member_in place) fs)) (same_member e own (rank_is ∙ sym here) ns)
            ∙ ap (cons_option (member_at kind name place own)) (others fs (subst (λ k. Ascend (k + 1) fs) here above.1) later)
        first e fs above fs_are others (inr (test, apart)) =
            let up_one : Ascend (n + 1) (e ∷ fs) = (let from = above.0 in omega (arith, apart), above.1) in
            skip (e ∷ fs) up_one fs_are (others (e ∷ fs) up_one (λ d. fs_are (suc d)))

        by : (fs : List (ℕ × List ℕ)) → Ascend n fs → ((d : ℕ) → listed fs (n + d) ≡ numbers kind name (calls_of (own ∷ rest) d))
            → ((gs : List (ℕ × List ℕ)) → Ascend (n + 1) gs → ((d : ℕ) → listed gs (n + suc d) ≡ numbers kind name (calls_of rest d)) → filter_map (member_in place) gs ≡ filter_map (member_at kind name place) rest)
            → filter_map (member_in place) fs ≡ filter_map (member_at kind name place) (own ∷ rest)
        by [] above fs_are others = skip [] tt fs_are (others [] tt (λ d. fs_are (suc d)))
        by (e ∷ fs) above fs_are others = first e fs above fs_are others (eqb_tells e.0 n)

module _ (place : ℕ) (kind : Kind) (name : List ℕ) (ranks : List RankCalls) (es : List (ℕ × List ℕ)) (in_order : AreInOrder ranks) (sorted : IsStrictlySortedBy nat_cmp (keys_of es))
    (are : (other : ℕ) → listed es other ≡ numbers kind name (calls_of ranks other)) where
  -- the calls of a round are those of the ranks that are kept
  pub members_are : filter_map (member_in place) es ≡ round_at kind name ranks place
  members_are =
      members_from place kind name 0 ranks es (λ i own there. in_order i own there ∙ (let e : i ≡ 0 + i = omega arith in e)) (ascend_from 0 es (all_from_zero es) sorted)
      (λ d. ap (listed es) (let e : 0 + d ≡ d = omega arith in e) ∙ are d)

-- the calls of a round with those of one rank more
pub members_taken : (place : ℕ) (rows : List RankRounds) (i : ℕ) (row : RankRounds) → i < length rows →
    filter_map (member_in place) (take i (row_entries rows)) ++ cons_option (member_in place (row_entry (get_or rows i row))) [] ≡ filter_map (member_in place) (take (i + 1) (row_entries rows))
members_taken place rows i row lt =
    filter_map_taken (member_in place) (row_entries rows) i (row_entry (get_or rows i row)) []
    (slice_get-map row_entry rows i ∙ ap (option_map row_entry) (slice_get-get_or rows i row lt))
