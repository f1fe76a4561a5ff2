-- The calls of a round are by exactly the members.
use Rattle.std.proofs.Common.{◌≡◌, ℕ, zero, suc, ◌+◌, ◌<◌, Bool, true, false, List, [], ◌∷◌, length, take, get_or, Option, Some, None, slice_get, cond, refl, sym, ap, subst, ◌∙◌, ◌↔◌, arith}
use Rattle.std.specs.Prelude.{Contains, nat_le, option_map}
use Rattle.std.specs.List.{list_any}
use Rattle.std.specs.Option.{option_and_then, option_map_or, option_or}
use Rattle.std.proofs.lemmas.Bool.{leb-false, or_parts}
use Rattle.std.proofs.lemmas.List.Sums.{sum_by-cons}
use Rattle.std.proofs.lemmas.Option.{slice_get-get_or}
use Rattle.rma_agreement.specs.Collective.{made}
use Rattle.rma_base.specs.declared.match_reason.MatchReason.{MatchReason}
use Rattle.rma_base.specs.declared.match_reason.MatchReason.TheVariants.{CollectiveMissing, DataMissing}
use Rattle.rma_base.specs.declared.rank.Rank.{Rank}
use Rattle.rma_call.specs.Call.{Call, RankCalls}
use Rattle.rma_link.specs.declared.meet.Member.{Member}
use Rattle.rma_member.specs.Member.{members}
use Rattle.rma_missing.specs.Missing.{fault_if, lacks, missing_at, missing_of, missing_reason}
use Rattle.rma_round.proofs.NumberLemmas.{call_at}
use Rattle.rma_round.specs.Kind.{count_of, is_on, named}
use Rattle.rma_round.specs.Meet.{member_at, round_at}
use Rattle.rma_round.specs.Round.{numbers, numbers_from}
use Rattle.rma_round.specs.declared.kind.Kind.{Kind}
use Rattle.rma_round.specs.declared.kind.Kind.TheVariants.{Collective, Free, Fence, Moving}
use Rattle.rma_run.proofs.ContainLemmas.{filter_map_has, first_or_later, has_none, in_filter_map}
use Rattle.rma_members.specs.Matched.{IsInRound, IsMatched, IsMember}
use Rattle.rma_members.proofs.FaultLemmas.{no_faults, none_walked, or_none}
use Rattle.rma_members.proofs.MemberLemmas.{call_member, contained}

-- ---- how many calls stand before one

module _ (kind : Kind) (name : List ℕ) where
  abbrev one : Call → ℕ
  one call = cond (is_on kind name call) 1 0

  pub count_from : (n : ℕ) (calls : List Call) → count_of kind name calls ≡ length (numbers_from kind name n calls)
  count_from n [] = refl
  count_from n (c ∷ cs) = sum_by-cons one c cs ∙ by (is_on kind name c) (count_from (n + 1) cs)
    where
      by : (b : Bool) → count_of kind name cs ≡ length (numbers_from kind name (n + 1) cs) →
          cond b 1 0 + count_of kind name cs ≡ length (cond b (n ∷ numbers_from kind name (n + 1) cs) (numbers_from kind name (n + 1) cs))
      by true rest = omega (arith, rest)
      by false rest = omega (arith, rest)

  -- so many calls of the kind stand before the one with this place and number
  pub record StandsAt (n : ℕ) (calls : List Call) (place number : ℕ) : Type 0 where
    pub index : ℕ
    pub number_is : number ≡ n + index
    pub count : count_of kind name (take index calls) ≡ place

  next_on : (n : ℕ) (c : Call) (cs : List Call) (place number : ℕ) → is_on kind name c ≡ true → StandsAt (n + 1) cs place number → StandsAt n (c ∷ cs) (suc place) number
  next_on n c cs place number on h = record {
    index = suc h.index;
    number_is = let is = h.number_is in omega arith;
    count = sum_by-cons one c (take h.index cs) ∙ ap (λ (b : Bool). cond b 1 0 + count_of kind name (take h.index cs)) on ∙ (let count = h.count in omega arith);
  }

  next_off : (n : ℕ) (c : Call) (cs : List Call) (place number : ℕ) → is_on kind name c ≡ false → StandsAt (n + 1) cs place number → StandsAt n (c ∷ cs) place number
  next_off n c cs place number off h = record {
    index = suc h.index;
    number_is = let is = h.number_is in omega arith;
    count = sum_by-cons one c (take h.index cs) ∙ ap (λ (b : Bool). cond b 1 0 + count_of kind name (take h.index cs)) off ∙ (let count = h.count in omega arith);
  }

  pub stands_at : (n : ℕ) (calls : List Call) (place number : ℕ) → slice_get (numbers_from kind name n calls) place ≡ Some number → StandsAt n calls place number
  stands_at n [] place number at = cc
  stands_at n (c ∷ cs) place number at = by (is_on kind name c) refl place at (λ p there. stands_at (n + 1) cs p number there)
    where
      by : (b : Bool) → is_on kind name c ≡ b → (place : ℕ) → slice_get (cond b (n ∷ numbers_from kind name (n + 1) cs) (numbers_from kind name (n + 1) cs)) place ≡ Some number
          → ((p : ℕ) → slice_get (numbers_from kind name (n + 1) cs) p ≡ Some number → StandsAt (n + 1) cs p number) → StandsAt n (c ∷ cs) place number
      by true on zero at rest = let same : n ≡ number = cc in record { index = 0; number_is = omega (arith, same); count = refl }
      by true on (suc p) at rest = next_on n c cs p number on (rest p at)
      by false off place at rest = next_off n c cs place number off (rest place at)

-- ---- a call of a round

-- the call that a rank makes of a round
pub record Makes (kind : Kind) (ranks : List RankCalls) (name : List ℕ) (place : ℕ) (rank : Rank) : Type 0 where
  pub own : RankCalls
  pub number : ℕ
  pub call : Call
  pub among : Contains ranks own
  pub there : slice_get own.calls number ≡ Some call
  pub is : named kind call.what ≡ Some name
  pub at : slice_get (numbers kind name own.calls) place ≡ Some number
  pub count : count_of kind name (take number own.calls) ≡ place
  pub rank_is : own.rank ≡ rank

module _ (kind : Kind) (ranks : List RankCalls) (name : List ℕ) (place : ℕ) where
  makes_at : (own : RankCalls) (number : ℕ) → Contains ranks own → slice_get (numbers kind name own.calls) place ≡ Some number → Makes kind ranks name place own.rank
  makes_at own number among at =
      let call = call_at kind name own.calls place number at in
      let stands = stands_at kind name 0 own.calls place number at in
      let same : stands.index ≡ number = let is = stands.number_is in omega arith in
      record {
        own = own;
        number = number;
        call = call.0;
        among = among;
        there = call.1;
        is = call.2;
        at = at;
        count = subst (λ k. count_of kind name (take k own.calls) ≡ place) same stands.count;
        rank_is = refl;
      }

  pub makes_of : (member : Member) → Contains (round_at kind name ranks place) member → Makes kind ranks name place member.rank
  makes_of member has =
      let one = in_filter_map (member_at kind name place) ranks member has in
      by one.0 (slice_get (numbers kind name one.0.calls) place) refl one.1 one.2
    where
      by : (own : RankCalls) (number : Option ℕ) → slice_get (numbers kind name own.calls) place ≡ number → Contains ranks own
          → option_map (λ call. record { rank = own.rank; call = call }) number ≡ Some member → Makes kind ranks name place member.rank
      by own None at among is = cc
      by own (Some number) at among is =
          let made : Member = record { rank = own.rank; call = number } in
          let same : made ≡ member = cc in
          subst (λ (m : Member). Makes kind ranks name place m.rank) same (makes_at own number among at)

  pub is_in_round : (rank : Rank) → Makes kind ranks name place rank → IsInRound kind ranks name place rank.0
  is_in_round rank makes =
      let made : Member = record { rank = makes.own.rank; call = makes.number } in (
        made,
        filter_map_has (member_at kind name place) ranks makes.own made makes.among (ap (option_map (λ (call : ℕ). record { rank = makes.own.rank; call = call })) makes.at),
        ap (λ (r : Rank). r.0) makes.rank_is,
      )

-- ---- the members

any_false : {X : Type 0} → (p : X → Bool) (xs : List X) (x : X) → list_any p xs ≡ false → Contains xs x → p x ≡ false
any_false p [] x none among = has_none x among
any_false p (z ∷ xs) x none among =
    let parts = or_parts (p z) (list_any p xs) none in
    first_or_later z x xs (λ same. ap p (sym same) ∙ parts.0) (λ later. any_false p xs x parts.1 later) among

module _ (ranks : List RankCalls) (h : IsMatched ranks) where
  none_lacking : (kind : Kind) (own : RankCalls) (k : ℕ) (call : Call) (name : List ℕ) → missing_of kind ranks own.rank (take k own.calls) call ≡ None → named kind call.what ≡ Some name
      → lacks kind ranks name (count_of kind name (take k own.calls)) ≡ false
  none_lacking kind own k call name none is =
      by (lacks kind ranks name (count_of kind name (take k own.calls))) (missing_reason kind)
      (sym (ap (option_and_then (λ (n : List ℕ). fault_if (lacks kind ranks n (count_of kind n (take k own.calls))) (missing_reason kind) own.rank call)) is) ∙ none)
    where
      by : (b : Bool) (reason : MatchReason) → fault_if b reason own.rank call ≡ None → b ≡ false
      by true reason h = cc
      by false reason h = refl

  missing_none : (kind : Kind) (own : RankCalls) (k : ℕ) (call : Call) → Contains ranks own → slice_get own.calls k ≡ Some call → missing_of kind ranks own.rank (take k own.calls) call ≡ None
  missing_none kind own k call among there = by kind
    where
      three : missing_at ranks own.rank (take k own.calls) call ≡ None
      three = none_walked (missing_at ranks) ranks own k call (no_faults ranks h.matched 3 CollectiveMissing refl) among there

      by : (kind : Kind) → missing_of kind ranks own.rank (take k own.calls) call ≡ None
      by Collective = (or_none (missing_of Collective ranks own.rank (take k own.calls) call) (missing_of Free ranks own.rank (take k own.calls) call)
          (or_none (option_or (missing_of Collective ranks own.rank (take k own.calls) call) (missing_of Free ranks own.rank (take k own.calls) call)) (missing_of Fence ranks own.rank (take k own.calls) call) three).0).0
      by Free = (or_none (missing_of Collective ranks own.rank (take k own.calls) call) (missing_of Free ranks own.rank (take k own.calls) call)
          (or_none (option_or (missing_of Collective ranks own.rank (take k own.calls) call) (missing_of Free ranks own.rank (take k own.calls) call)) (missing_of Fence ranks own.rank (take k own.calls) call) three).0).1
      by Fence = (or_none (option_or (missing_of Collective ranks own.rank (take k own.calls) call) (missing_of Free ranks own.rank (take k own.calls) call)) (missing_of Fence ranks own.rank (take k own.calls) call) three).1
      by Moving = none_walked (missing_of Moving ranks) ranks own k call (no_faults ranks h.matched 10 DataMissing refl) among there

  -- each member makes a call of a round of which one rank makes one
  pub member_makes : (kind : Kind) (name : List ℕ) (place : ℕ) (some rank : Rank) → Makes kind ranks name place some → IsMember kind ranks name rank.0 → Makes kind ranks name place rank
  member_makes kind name place some rank makes member =
      let none = none_lacking kind makes.own makes.number makes.call name (missing_none kind makes.own makes.number makes.call makes.among makes.there) makes.is in
      let enough : place < made kind ranks rank.0 name =
      subst (λ n. n < made kind ranks rank.0 name) makes.count
      (leb-false (made kind ranks rank.0 name) (count_of kind name (take makes.number makes.own.calls))
      (any_false (λ m. nat_le (made kind ranks m name) (count_of kind name (take makes.number makes.own.calls))) (members kind ranks name) rank.0 none member)) in
      by (slice_get ranks rank.0) refl enough
    where
      by : (found : Option RankCalls) → slice_get ranks rank.0 ≡ found → place < option_map_or (λ (r : RankCalls). count_of kind name r.calls) found 0 → Makes kind ranks name place rank
      by None is enough = absurd (omega arith)
      by (Some own) is enough =
          let few : place < length (numbers kind name own.calls) = subst (λ n. place < n) (count_from kind name 0 own.calls) enough in
          let number = get_or (numbers kind name own.calls) place 0 in
          let at = slice_get-get_or (numbers kind name own.calls) place 0 few in
          let same : own.rank ≡ rank = same_rank own.rank rank (h.in_order rank.0 own is) in
          subst (Makes kind ranks name place) same (makes_at kind ranks name place own number (contained ranks rank.0 own is) at)
        where
          same_rank : (a b : Rank) → a.0 ≡ b.0 → a ≡ b
          same_rank a b same = rw same refl

  pub round_is : (kind : Kind) (name : List ℕ) (place some rank : ℕ) → IsInRound kind ranks name place some → IsInRound kind ranks name place rank ↔ IsMember kind ranks name rank
  round_is kind name place some rank has =
      let makes = makes_of kind ranks name place has.0 has.1 in (
        λ own.
            let mine = makes_of kind ranks name place own.0 own.1 in
            subst (IsMember kind ranks name) (ap (λ (r : Rank). r.0) mine.rank_is ∙ own.2) (call_member ranks h kind mine.own mine.number mine.call name mine.among mine.there mine.is),
        λ member.
            let it : Rank = record { 0 = rank } in
            is_in_round kind ranks name place it (member_makes kind name place has.0.rank it makes member),
      )
