-- The meets of a run, each once and each at every call that waits for all.
use Rattle.std.proofs.Common.{◌≡◌, ℕ, zero, suc, min, nat_eq, ◌+◌, ◌-◌, ◌*◌, ◌/◌, ◌<◌, ◌≤◌, inl, inr, ⊎_elim, Bool, true, false, cond, ◌||◌, ◌∷◌, ◌++◌, List, [], length, map, Option, Some, None, nat_le, get_or, slice_get, refl, sym, ap, subst, ◌∙◌, arith, append_assoc, append-nil}
use Rattle.std.specs.Prelude.{All, Contains, option_map}
use Rattle.std.specs.List.{flat_map, list_any, cons_option}
use Rattle.std.specs.List.Sorted.{IsStrictlyIncreasing}
use Rattle.std.specs.Option.{option_map_or}
use Rattle.std.specs.Cmp.Lexicographic.{same_text}
use Rattle.std.proofs.lemmas.Bool.{cases_lt}
use Rattle.std.proofs.lemmas.Cmp.{nat_eq_equiv}
use Rattle.std.proofs.lemmas.Option.{slice_get_within}
use Rattle.std.proofs.lemmas.Map.Views.{Contains-from_lookup}
use Rattle.std.proofs.lemmas.Bool.Decides.{nat_tests}
use Rattle.std.proofs.lemmas.List.Elements.{Contains-append_left, Contains-append_right, Contains-append_cases}
use Rattle.rma_base.specs.declared.rank.Rank.{Rank}
use Rattle.rma_call.specs.Call.{Call, RankCalls}
use Rattle.rma_link.specs.declared.meet.Meet.{Meet}
use Rattle.rma_link.specs.declared.meet.Member.{Member}
use Rattle.rma_link.specs.Within.{IsMemberWithin, IsMeetWithin}
use Rattle.rma_run.specs.Run.{AreInOrder, calls_of, lens_of}
use Rattle.rma_run.proofs.CallLemmas.{calls_are_own, number_below}
use Rattle.rma_run.proofs.PositionLemmas.{Rises, AreFrom, from_cons, from_rest, rises_cons}
use Rattle.rma_run.proofs.ContainLemmas.{has_first, has_later, has_none, first_or_later, in_flat_map, flat_map_has, in_filter_map, filter_map_has, in_by_rank, by_rank_has, IsCallIn, all_from_contains}
use Rattle.rma_round.specs.declared.kind.Kind.{Kind}
use Rattle.rma_round.specs.declared.kind.Kind.TheVariants.{Collective, Free, Fence, Moving}
use Rattle.rma_round.specs.Kind.{named}
use Rattle.rma_round.specs.Round.{numbers, place_in}
use Rattle.rma_round.specs.Meet.{waits_for_all, member_at, round_at, meet_of, meets_on, kinds, meets_at, round_meets, IsRoundMeet, HasMeets}
use Rattle.rma_round.specs.declared.name_rounds.NameRounds.{NameRounds}
use Rattle.rma_round.specs.declared.rounds.Rounds.{Rounds}
use Rattle.rma_round.specs.inside.Rounds.{listed, kept, numbers_in, rounds_in, of_kind, Represents}
use Rattle.rma_round.specs.inside.Met.{member_waits, met, before_round, from_round, turn_start, name_meets, turn_meets, kind_meets, all_meets}
use Rattle.rma_round.proofs.KeptLemmas.{Represents_of_kind}
use Rattle.rma_round.proofs.RowLemmas.{listed_within}
use Rattle.rma_round.proofs.NumberLemmas.{call_at, place_is, place_has}

pub four_appended : (x a b c d : List Meet) → (((x ++ a) ++ b) ++ c) ++ d ≡ x ++ (a ++ (b ++ (c ++ (d ++ []))))
four_appended x a b c d =
    append_assoc ((x ++ a) ++ b) c d
    ∙ append_assoc (x ++ a) b (c ++ d)
    ∙ append_assoc x a (b ++ (c ++ d))
    ∙ ap (λ l. x ++ (a ++ (b ++ (c ++ l)))) (sym (append-nil d))

-- ---- lists

or_true : (b : Bool) → b || true ≡ true
or_true true = refl
or_true false = refl

module _ {X : Type 0} (p : X → Bool) where
  any_has : (xs : List X) → list_any p xs ≡ true → (x : X) × Contains xs x × (p x ≡ true)
  any_has [] any = absurd (cc)
  any_has (x ∷ xs) any = by (p x) refl any (any_has xs)
    where
      by : (b : Bool) → p x ≡ b → b || list_any p xs ≡ true → (list_any p xs ≡ true → (z : X) × Contains xs z × (p z ≡ true)) → (z : X) × Contains (x ∷ xs) z × (p z ≡ true)
      by true is all rest = (x, has_first x xs, is)
      by false is all rest = let one = rest all in (one.0, has_later x one.0 xs one.1, one.2)

  has_any : (xs : List X) (x : X) → p x ≡ true → Contains xs x → list_any p xs ≡ true
  has_any [] x is has = has_none x has
  has_any (y ∷ ys) x is has =
      first_or_later y x ys
      (λ at. ap (λ b. b || list_any p ys) (ap p at ∙ is))
      (λ later. ap (λ b. p y || b) (has_any ys x is later) ∙ or_true (p y))
      has

kinds_have : (kind : Kind) → Contains kinds kind
kinds_have Collective = (0, omega arith, refl)
kinds_have Free = (1, omega arith, refl)
kinds_have Fence = (2, omega arith, refl)
kinds_have Moving = (3, omega arith, refl)

-- ---- the meet of some calls

in_meet_of : (calls : List Member) (meet : Meet) → Contains (meet_of calls) meet → (2 ≤ length meet.calls) × (meet.calls ≡ calls)
in_meet_of calls meet has = by (nat_le 2 (length calls)) refl has
  where
    by : (b : Bool) → nat_le 2 (length calls) ≡ b → Contains (cond b ((let m : Meet = record { calls = calls } in m) ∷ []) []) meet → (2 ≤ length meet.calls) × (meet.calls ≡ calls)
    by true test among =
        let m : Meet = record { calls = calls } in
        let same : m ≡ meet = first_or_later m meet [] (λ at. at) (λ later. has_none meet later) among in
        let is : calls ≡ meet.calls = ap (λ (x : Meet). x.calls) same in
        let le : 2 ≤ length calls = grind (arith, nat_tests) in
        (subst (λ (l : List Member). 2 ≤ length l) is le, sym is)
    by false test among = has_none meet among

meet_of_has : (calls : List Member) (meet : Meet) → 2 ≤ length meet.calls → meet.calls ≡ calls → Contains (meet_of calls) meet
meet_of_has calls meet several is =
    let le : 2 ≤ length calls = subst (λ (l : List Member). 2 ≤ length l) is several in
    let test : nat_le 2 (length calls) ≡ true = grind (arith, nat_tests) in
    let m : Meet = record { calls = calls } in
    let same : m ≡ meet = ap (λ (l : List Member). let x : Meet = record { calls = l } in x) (sym is) in
    subst (λ b. Contains (cond b (m ∷ []) []) meet) (sym test) (subst (Contains (m ∷ [])) same (has_first m []))

-- ---- the meets of a run are those of the definition

module _ (ranks : List RankCalls) (own : RankCalls) (number : ℕ) (call : Call) (isin : IsCallIn ranks own number call) (meet : Meet) (waits : waits_for_all call.what ≡ true) (kind : Kind) where
  of_place : (name : List ℕ) → named kind call.what ≡ Some name → (o : Option ℕ) → place_in kind name (calls_of ranks own.rank.0) number ≡ o
      → Contains (option_map_or (λ place. meet_of (round_at kind name ranks place)) o []) meet → IsRoundMeet ranks meet
  of_place name is_named None is has = has_none meet has
  of_place name is_named (Some place) is has =
      let one = in_meet_of (round_at kind name ranks place) meet has in
      record {
        own = own;
        number = number;
        call = call;
        kind = kind;
        name = name;
        place = place;
        of_run = isin.of_run;
        there = isin.there;
        waits = waits;
        is_named = is_named;
        is_at = is;
        several = one.0;
        calls_are = one.1;
      }

  of_name : (o : Option (List ℕ)) → named kind call.what ≡ o
      → Contains (option_map_or (λ name. option_map_or (λ place. meet_of (round_at kind name ranks place)) (place_in kind name (calls_of ranks own.rank.0) number) []) o []) meet → IsRoundMeet ranks meet
  of_name None is has = has_none meet has
  of_name (Some name) is has = of_place name is (place_in kind name (calls_of ranks own.rank.0) number) refl has

pub meet_is : (ranks : List RankCalls) (meet : Meet) → Contains (round_meets ranks) meet → IsRoundMeet ranks meet
meet_is ranks meet has = let one = in_by_rank (meets_at ranks) ranks meet has in by one.0 one.1 one.2 one.3 (waits_for_all one.2.what) refl one.4
  where
    by : (own : RankCalls) (number : ℕ) (call : Call) → IsCallIn ranks own number call → (b : Bool) → waits_for_all call.what ≡ b
        → Contains (cond b (flat_map (meets_on ranks own.rank.0 number call.what) kinds) []) meet → IsRoundMeet ranks meet
    by own number call isin true waits among =
        let k = in_flat_map (meets_on ranks own.rank.0 number call.what) kinds meet among in
        of_name ranks own number call isin meet waits k.0 (named k.0 call.what) refl k.2
    by own number call isin false waits among = has_none meet among

pub meet_has : (ranks : List RankCalls) (meet : Meet) → IsRoundMeet ranks meet → Contains (round_meets ranks) meet
meet_has ranks meet is =
    by_rank_has (meets_at ranks) ranks is.own is.number is.call meet (record { of_run = is.of_run; there = is.there })
    (rw is.waits
    (flat_map_has (meets_on ranks is.own.rank.0 is.number is.call.what) kinds is.kind meet (kinds_have is.kind)
    (rw (is.is_named, is.is_at) (meet_of_has (round_at is.kind is.name ranks is.place) meet is.several is.calls_are))))

-- ---- the members of a round

record IsMemberOf (ranks : List RankCalls) (kind : Kind) (name : List ℕ) (place : ℕ) (member : Member) : Type 0 where
  own : RankCalls
  call : Call
  isin : IsCallIn ranks own member.call call
  rank_is : own.rank ≡ member.rank
  is_named : named kind call.what ≡ Some name
  is_at : place_in kind name (calls_of ranks own.rank.0) member.call ≡ Some place
  of_rank : slice_get (calls_of ranks member.rank.0) member.call ≡ Some call

module _ (ranks : List RankCalls) (in_order : AreInOrder ranks) (kind : Kind) (name : List ℕ) (place : ℕ) where
  member_of : (member : Member) (own : RankCalls) → Contains ranks own → (o : Option ℕ) → slice_get (numbers kind name own.calls) place ≡ o
      → option_map (λ call. let m : Member = record { rank = own.rank; call = call } in m) o ≡ Some member → IsMemberOf ranks kind name place member
  member_of member own has None at is = absurd (cc)
  member_of member own has (Some j) at is =
      let m : Member = record { rank = own.rank; call = j } in
      let same : m ≡ member = cc in
      let at_member : slice_get (numbers kind name own.calls) place ≡ Some member.call = at ∙ ap Some (ap (λ (x : Member). x.call) same) in
      let rank : own.rank ≡ member.rank = ap (λ (x : Member). x.rank) same in
      let one = call_at kind name own.calls place member.call at_member in
      let calls = calls_are_own ranks own in_order has in
      record {
        own = own;
        call = one.0;
        isin = record { of_run = has; there = one.1 };
        rank_is = rank;
        is_named = one.2;
        is_at = place_is kind name (calls_of ranks own.rank.0) place member.call (ap (λ l. slice_get (numbers kind name l) place) calls ∙ at_member);
        of_rank = ap (λ (r : Rank). slice_get (calls_of ranks r.0) member.call) (sym rank) ∙ ap (λ l. slice_get l member.call) calls ∙ one.1;
      }

  of_round : (member : Member) → Contains (round_at kind name ranks place) member → IsMemberOf ranks kind name place member
  of_round member has =
      let one = in_filter_map (member_at kind name place) ranks member has in
      member_of member one.0 one.1 (slice_get (numbers kind name one.0.calls) place) refl one.2

  -- ---- each meet is had once, of its round

  waits_of : (member : Member) (call : Call) → slice_get (calls_of ranks member.rank.0) member.call ≡ Some call → member_waits ranks member ≡ waits_for_all call.what
  waits_of member call there = ap (λ o. option_map_or (λ (c : Call). waits_for_all c.what) o false) there

  of_met : (meet : Meet) (b : Bool) → list_any (member_waits ranks) (round_at kind name ranks place) ≡ b → Contains (cond b (meet_of (round_at kind name ranks place)) []) meet → IsRoundMeet ranks meet
  of_met meet true any has =
      let some = any_has (member_waits ranks) (round_at kind name ranks place) any in
      let m = of_round some.0 some.1 in
      let one = in_meet_of (round_at kind name ranks place) meet has in
      record {
        own = m.own;
        number = some.0.call;
        call = m.call;
        kind = kind;
        name = name;
        place = place;
        of_run = m.isin.of_run;
        there = m.isin.there;
        waits = sym (waits_of some.0 m.call m.of_rank) ∙ some.2;
        is_named = m.is_named;
        is_at = m.is_at;
        several = one.0;
        calls_are = one.1;
      }
  of_met meet false any has = has_none meet has

module _ (f : ℕ → List Meet) (meet : Meet) where
  -- what is had of the first rounds is had of one of them
  in_before_round : (n : ℕ) → Contains (before_round f n) meet → (place : ℕ) × Contains (f place) meet
  in_before_round zero has = has_none meet has
  in_before_round (suc n) has =
      ⊎_elim
      (λ (before : Contains (before_round f n) meet). in_before_round n before)
      (λ (here : Contains (f n) meet). (n, here))
      (Contains-append_cases (before_round f n) (f n) meet has)

  before_round_has : (n place : ℕ) → place < n → Contains (f place) meet → Contains (before_round f n) meet
  before_round_has zero place lt has = absurd (omega arith)
  before_round_has (suc n) place lt has =
      ⊎_elim
      (λ (before : place < n). Contains-append_left (before_round f n) (f n) meet (before_round_has n place before has))
      (λ (from : n ≤ place). let is : place ≡ n = omega arith in Contains-append_right (before_round f n) (f n) meet (subst (λ k. Contains (f k) meet) is has))
      (cases_lt place n)

-- the first turn begins with no round, and the last one ends with all
starts_at_none : (turns rounds : ℕ) → 0 < turns → turn_start turns rounds 0 ≡ 0
starts_at_none turns rounds some = by (nat_eq 0 turns) refl
  where
    by : (b : Bool) → nat_eq 0 turns ≡ b → cond b rounds (min (0 * (rounds / turns)) rounds) ≡ 0
    by true is = absurd (grind (arith, nat_tests))
    by false is = omega arith

ends_with_all : (turns rounds : ℕ) → turn_start turns rounds turns ≡ rounds
ends_with_all turns rounds = ap (λ b. cond b rounds (min (turns * (rounds / turns)) rounds)) (nat_eq_equiv.refl turns)

-- a round is had among those from one number up to another
from_round_has : (f : ℕ → List Meet) (meet : Meet) (from to place : ℕ) → from ≤ place → place < to → Contains (f place) meet → Contains (from_round f from to) meet
from_round_has f meet from to place at below has =
    let is : place ≡ from + (place - from) = omega arith in
    before_round_has (λ k. f (from + k)) meet (to - from) (place - from) (omega arith) (subst (λ p. Contains (f p) meet) is has)

-- between 0 and a number at which something ends, each place lies between two starts
between : (start : ℕ → ℕ) (n place : ℕ) → start 0 ≡ 0 → place < start n → (turn : ℕ) × (turn < n) × (start turn ≤ place) × (place < start (turn + 1))
between start zero place first below = absurd (omega (arith, first, below))
between start (suc n) place first below =
    ⊎_elim
    (λ (before : place < start n). let one = between start n place first before in (one.0, omega (arith, one.1), one.2, one.3))
    (λ (from : start n ≤ place). (n, omega arith, from, subst (λ m. place < start m) (let same : suc n ≡ n + 1 = omega arith in same) below))
    (cases_lt place (start n))

module _ (ranks : List RankCalls) (rounds : Rounds) (in_order : AreInOrder ranks) (are : Represents (calls_of ranks) rounds) (turns : ℕ) (some : 0 < turns) where
  -- the turn of a round
  turn_of : (most place : ℕ) → place < most → (turn : ℕ) × (turn < turns) × (turn_start turns most turn ≤ place) × (place < turn_start turns most (turn + 1))
  turn_of most place below =
      between (turn_start turns most) turns place (starts_at_none turns most some) (subst (λ (n : ℕ). place < n) (sym (ends_with_all turns most)) below)

  all_is : (meet : Meet) → Contains (all_meets ranks rounds turns) meet → IsRoundMeet ranks meet
  all_is meet has =
      let k = in_flat_map (kind_meets ranks rounds turns) kinds meet has in
      let names = (of_kind k.0 rounds).names.entries in
      let t = in_before_round (turn_meets ranks k.0 turns names) meet turns k.2 in
      let e = in_flat_map (name_meets ranks k.0 turns t.0) names meet t.1 in
      let most = rounds_in e.0.1 in
      let from = turn_start turns most t.0 in
      let p = in_before_round (λ n. met ranks (round_at k.0 e.0.0 ranks (from + n))) meet (turn_start turns most (t.0 + 1) - from) e.2 in
      let place = from + p.0 in
      of_met ranks in_order k.0 e.0.0 place meet (list_any (member_waits ranks) (round_at k.0 e.0.0 ranks place)) refl p.1

  -- a round of which a call waits has its meet
  met_has : (meet : Meet) (is : IsRoundMeet ranks meet) → Contains (met ranks (round_at is.kind is.name ranks is.place)) meet
  met_has meet is =
      let calls = calls_are_own ranks is.own in_order is.of_run in
      let own : Member = record { rank = is.own.rank; call = is.number } in
      let at : slice_get (numbers is.kind is.name is.own.calls) is.place ≡ Some is.number =
      ap (λ l. slice_get (numbers is.kind is.name l) is.place) (sym calls) ∙ place_has is.kind is.name (calls_of ranks is.own.rank.0) is.place is.number is.is_at in
      let has_own : Contains (round_at is.kind is.name ranks is.place) own =
      filter_map_has (member_at is.kind is.name is.place) ranks is.own own is.of_run (ap (option_map (λ (c : ℕ). let m : Member = record { rank = is.own.rank; call = c } in m)) at) in
      let there : slice_get (calls_of ranks is.own.rank.0) is.number ≡ Some is.call = ap (λ l. slice_get l is.number) calls ∙ is.there in
      let waits : member_waits ranks own ≡ true = waits_of ranks in_order is.kind is.name is.place own is.call there ∙ is.waits in
      let any : list_any (member_waits ranks) (round_at is.kind is.name ranks is.place) ≡ true = has_any (member_waits ranks) (round_at is.kind is.name ranks is.place) own waits has_own in
      rw any (meet_of_has (round_at is.kind is.name ranks is.place) meet is.several is.calls_are)

  is_all : (meet : Meet) → IsRoundMeet ranks meet → Contains (all_meets ranks rounds turns) meet
  is_all meet is =
      flat_map_has (kind_meets ranks rounds turns) kinds is.kind meet (kinds_have is.kind)
      (by (kept names is.name) refl ((Represents_of_kind is.kind (calls_of ranks) rounds are).numbers_are is.name is.own.rank.0))
    where
      names : List (List ℕ × NameRounds)
      names = (of_kind is.kind rounds).names.entries

      at : slice_get (numbers is.kind is.name (calls_of ranks is.own.rank.0)) is.place ≡ Some is.number
      at = place_has is.kind is.name (calls_of ranks is.own.rank.0) is.place is.number is.is_at

      by : (o : Option NameRounds) → kept names is.name ≡ o → numbers_in o is.own.rank.0 ≡ numbers is.kind is.name (calls_of ranks is.own.rank.0) → Contains (kind_meets ranks rounds turns is.kind) meet
      by None found same = let none = ap (λ l. slice_get l is.place) same ∙ at in absurd (cc)
      by (Some own) found same =
          let there = slice_get_within (numbers is.kind is.name (calls_of ranks is.own.rank.0)) is.place is.number at in
          let few = listed_within is.own.rank.0 own.ranks.entries 0 in
          let long : length (listed own.ranks.entries is.own.rank.0) ≡ length (numbers is.kind is.name (calls_of ranks is.own.rank.0)) = ap length same in
          let most = rounds_in own in
          let f : ℕ → List Meet = λ place. met ranks (round_at is.kind is.name ranks place) in
          let t = turn_of most is.place (omega arith) in
          before_round_has (turn_meets ranks is.kind turns names) meet turns t.0 t.1
          (flat_map_has (name_meets ranks is.kind turns t.0) names (is.name, own) meet (Contains-from_lookup (λ x y e. same_text x y (sym e)) is.name own names found)
          (from_round_has f meet (turn_start turns most t.0) (turn_start turns most (t.0 + 1)) is.place t.2 t.3 (met_has meet is)))

  -- so the meets are those of the run
  pub has_meets : (before : List Meet) → HasMeets (before ++ all_meets ranks rounds turns) before (round_meets ranks)
  has_meets before meet = (
    (λ has. ⊎_elim (λ old. inl old) (λ new. inr (meet_has ranks meet (all_is meet new))) (Contains-append_cases before (all_meets ranks rounds turns) meet has)),
    (λ either. ⊎_elim
        (λ old. Contains-append_left before (all_meets ranks rounds turns) meet old)
        (λ new. Contains-append_right before (all_meets ranks rounds turns) meet (is_all meet (meet_is ranks meet new)))
        either),
  )

-- ---- the meets of a run are between its calls

module _ (kind : Kind) (name : List ℕ) (place : ℕ) where
  abbrev Rise : ℕ → List Member → Type 0
  Rise n members = AreFrom n (map (λ m. m.rank.0) members) × Rises (map (λ m. m.rank.0) members)

  ranks_rise : (n : ℕ) (ranks : List RankCalls) → ((i : ℕ) (own : RankCalls) → slice_get ranks i ≡ Some own → own.rank.0 ≡ n + i) → Rise n (round_at kind name ranks place)
  ranks_rise n [] order = ((λ k lt. absurd (omega arith)), (λ i j lt within. absurd (omega arith)))
  ranks_rise n (own ∷ rest) order =
      by (slice_get (numbers kind name own.calls) place) (ranks_rise (n + 1) rest (λ i other there. order (suc i) other there ∙ (let e : n + suc i ≡ n + 1 + i = omega arith in e)))
    where
      first : own.rank.0 ≡ n
      first = order 0 own refl ∙ (let e : n + 0 ≡ n = omega arith in e)

      by : (o : Option ℕ) → Rise (n + 1) (round_at kind name rest place) → Rise n (cons_option (option_map (λ call. let m : Member = record { rank = own.rank; call = call } in m) o) (round_at kind name rest place))
      by None up = (from_rest n (map (λ m. m.rank.0) (round_at kind name rest place)) up.0, up.1)
      by (Some call) up =
          subst (λ k. AreFrom n (k ∷ map (λ m. m.rank.0) (round_at kind name rest place)) × Rises (k ∷ map (λ m. m.rank.0) (round_at kind name rest place))) (sym first)
          (from_cons n (map (λ m. m.rank.0) (round_at kind name rest place)) up.0, rises_cons n (map (λ m. m.rank.0) (round_at kind name rest place)) up.0 up.1)

meet_within : (ranks : List RankCalls) (meet : Meet) → AreInOrder ranks → IsRoundMeet ranks meet → IsMeetWithin (lens_of ranks) meet
meet_within ranks meet in_order is =
    subst (λ (l : List Member). All (IsMemberWithin (lens_of ranks)) l × IsStrictlyIncreasing (map (λ m. m.rank.0) l)) (sym is.calls_are) (members, up)
  where
    members : All (IsMemberWithin (lens_of ranks)) (round_at is.kind is.name ranks is.place)
    members =
        all_from_contains (IsMemberWithin (lens_of ranks)) (round_at is.kind is.name ranks is.place)
        (λ member has.
        let m = of_round ranks in_order is.kind is.name is.place member has in
        subst (λ (r : Rank). member.call < get_or (lens_of ranks) r.0 0) m.rank_is (number_below ranks m.own member.call m.call in_order m.isin.of_run m.isin.there))

    up : IsStrictlyIncreasing (map (λ m. m.rank.0) (round_at is.kind is.name ranks is.place))
    up k lt =
        let rise = ranks_rise is.kind is.name is.place 0 ranks (λ i own there. in_order i own there ∙ (let e : i ≡ 0 + i = omega arith in e)) in
        rise.1 k (k + 1) (omega arith) lt

pub meets_are_within : (ranks : List RankCalls) → AreInOrder ranks → All (IsMeetWithin (lens_of ranks)) (round_meets ranks)
meets_are_within ranks in_order = all_from_contains (IsMeetWithin (lens_of ranks)) (round_meets ranks) (λ meet has. meet_within ranks meet in_order (meet_is ranks meet has))
