-- Calls of a kind that join, one after the other.
use Rattle.std.proofs.Common.{◌≡◌, ℕ, zero, suc, ◌+◌, ◌<◌, ◌≤◌, ◌≢◌, max, length, nat_lt, arith, subst, Bool, true, false, cond, List, [], ◌∷◌, ◌++◌, Option, Some, None, nat_eq, ◌&&◌, eqb, refl, sym, ap, ◌∙◌, append_assoc, append-nil, eq-eqb}
use Rattle.std.specs.Prelude.{find, option_map, slice_get, ◌==◌}
use Rattle.std.specs.List.{filter_map, cons_option}
use Rattle.std.specs.Option.{option_or, option_and_then}
use Rattle.std.specs.Cmp.Lexicographic.{pointwise, nat_list_eq_equiv, same_text}
use Rattle.std.proofs.lemmas.Bool.{eqb-true}
use Rattle.std.proofs.lemmas.Bool.Decides.{nat_tests}
use Rattle.std.proofs.lemmas.List.{length_push}
use Rattle.std.proofs.lemmas.Option.{slice_get_past, slice_get-get_or}
use Rattle.std.proofs.lemmas.List.Elements.{filter_map-append}
use Rattle.std.proofs.lemmas.List.Folds.{find-append}
use Rattle.rma_call.specs.Call.{Call, RankCalls}
use Rattle.rma_call.specs.declared.match_fault.MatchFault.{MatchFault}
use Rattle.rma_difference.specs.declared.round.NameRounds.{NameRounds}
use Rattle.rma_round.specs.declared.kind.Kind.{Kind}
use Rattle.rma_difference.specs.declared.call_count.CallCounts.{CallCounts}
use Rattle.rma_agreement.specs.declared.first.First.{First}
use Rattle.rma_difference.specs.declared.round.Rounds.{Rounds}
use Rattle.rma_agreement.specs.Argument.{arguments_of}
use Rattle.rma_round.specs.Kind.{named, count_of, is_on}
use Rattle.rma_agreement.specs.Collective.{RoundCall, round_calls, round_call_at, place_of, made_on, so_far}
use Rattle.rma_difference.specs.inside.CallCount.{with_current, number_in, counted}
use Rattle.rma_agreement.specs.Round.{is_at, kept, own_of, differs, round_difference, round_differences}
use Rattle.rma_difference.specs.inside.Round.{first_at, with_first, joined, rounds_of, IsJoined, HaveJoined, AreNameRounds, AreRounds}
use Rattle.rma_agreement.proofs.ArgumentLemmas.{same_arguments_refl}
use Rattle.rma_difference.proofs.CallCountLemmas.{number_in_is}
use Rattle.rma_agreement.proofs.CountLemmas.{is_on_none, is_on_some}
use Rattle.rma_difference.proofs.SoFarLemmas.{round_calls_more, made_now, AreCallCounts_scanned}

abbrev Firsts : Type 0
Firsts = List (List ℕ × NameRounds)

-- ---- one more fault

is_at_refl : (c : RoundCall) → is_at c.name c.number c ≡ true
is_at_refl c = ap (λ b. b && c.number == c.number) (nat_list_eq_equiv.refl c.name) ∙ eq-eqb c.number c.number refl

module _ (kind : Kind) where
  differs_refl : (c : RoundCall) → differs kind (kept c) (kept c) ≡ None
  differs_refl c = rw (same_arguments_refl c.arguments) refl

  -- what a call is found to be in its round, or one before it
  here : (own : RoundCall) (before after : List RoundCall) →
      find (is_at own.name own.number) (before ++ own ∷ after) ≡ option_or (find (is_at own.name own.number) before) (Some own)
  here own before after =
      let p = is_at own.name own.number in
      find-append p before (own ∷ after) ∙ ap (λ b. option_or (find p before) (cond b (Some own) (find p after))) (is_at_refl own)

  some_or : {X : Type 0} (a : Option X) (x : X) (b : Option X) → option_or (option_or a (Some x)) b ≡ option_or a (Some x)
  some_or None x b = refl
  some_or (Some y) x b = refl

  -- the first call of a round stays the first when further calls come
  found : (own : RoundCall) (before after more : List RoundCall) →
      round_difference kind ((before ++ own ∷ after) ++ more) own ≡ round_difference kind (before ++ own ∷ after) own
  found own before after more =
      let p = is_at own.name own.number in
      let at = here own before after in
      ap (λ o. option_and_then (λ f. differs kind (kept f) (kept own)) o)
      (find-append p (before ++ own ∷ after) more ∙ ap (λ o. option_or o (find p more)) at ∙ some_or (find p before) own (find p more) ∙ sym at)

  -- later calls change no fault of those before
  earlier : (before xs more : List RoundCall) → filter_map (round_difference kind ((before ++ xs) ++ more)) xs ≡ filter_map (round_difference kind (before ++ xs)) xs
  earlier before [] more = refl
  earlier before (x ∷ xs) more =
      let shift = append_assoc before (x ∷ []) xs in
      ap (λ d. cons_option d (filter_map (round_difference kind ((before ++ x ∷ xs) ++ more)) xs)) (found x before xs more)
      ∙ ap (cons_option (round_difference kind (before ++ x ∷ xs) x))
      (ap (λ l. filter_map (round_difference kind (l ++ more)) xs) (sym shift) ∙ earlier (before ++ x ∷ []) xs more ∙ ap (λ l. filter_map (round_difference kind l) xs) shift)

  last : (seen : List RoundCall) (own : RoundCall) → round_difference kind (seen ++ own ∷ []) own ≡ round_difference kind seen own
  last seen own = ap (λ o. option_and_then (λ f. differs kind (kept f) (kept own)) o) (here own seen []) ∙ by (find (is_at own.name own.number) seen)
    where
      by : (o : Option RoundCall) → option_and_then (λ f. differs kind (kept f) (kept own)) (option_or o (Some own)) ≡ option_and_then (λ f. differs kind (kept f) (kept own)) o
      by None = differs_refl own
      by (Some f) = refl

  round_differences_push : (seen : List RoundCall) (own : RoundCall) →
      round_differences kind (seen ++ own ∷ []) ≡ round_differences kind seen ++ cons_option (round_difference kind seen own) []
  round_differences_push seen own =
      filter_map-append (round_difference kind (seen ++ own ∷ [])) seen (own ∷ [])
      ∙ ap (λ l. l ++ cons_option (round_difference kind (seen ++ own ∷ []) own) []) (earlier [] seen (own ∷ []))
      ∙ ap (λ d. round_differences kind seen ++ cons_option d []) (last seen own)

  mapped : (own : RoundCall) (o : Option RoundCall) (t : Bool) → option_or (option_map kept o) (cond t (Some (kept own)) None) ≡ option_map kept (option_or o (cond t (Some own) None))
  mapped own None true = refl
  mapped own None false = refl
  mapped own (Some x) t = refl

  fused : (own : RoundCall) (o : Option RoundCall) → option_and_then (λ first. differs kind first (kept own)) (option_map kept o) ≡ option_and_then (λ f. differs kind (kept f) (kept own)) o
  fused own None = refl
  fused own (Some x) = refl

  -- the rounds with one more call
  pub HaveJoined_push : (seen : List RoundCall) (own : RoundCall) (old new : Firsts) (faults more : List MatchFault) →
      HaveJoined kind seen old faults → IsJoined old new own.name own.number (kept own) →
      more ≡ faults ++ cons_option (option_and_then (λ first. differs kind first (kept own)) (first_at old own.name own.number)) [] →
      HaveJoined kind (seen ++ own ∷ []) new more
  HaveJoined_push seen own old new faults more joined noted is = record {
    firsts_are = λ name number.
        let t = is_at name number own in
        noted name number
        ∙ ap (λ o. option_or o (cond t (Some (kept own)) None)) (joined.firsts_are name number)
        ∙ mapped own (find (is_at name number) seen) t
        ∙ ap (option_map kept) (sym (find-append (is_at name number) seen (own ∷ [])));
    faults_are = is
        ∙ ap (λ l. l ++ cons_option (option_and_then (λ first. differs kind first (kept own)) (first_at old own.name own.number)) []) joined.faults_are
        ∙ ap (λ d. round_differences kind seen ++ cons_option d [])
        (ap (option_and_then (λ first. differs kind first (kept own))) (joined.firsts_are own.name own.number) ∙ fused own (find (is_at own.name own.number) seen))
        ∙ sym (round_differences_push seen own);
  }

-- ---- one more call

-- a call of the kind that is on a name
abbrev call_on : Kind → RankCalls → List Call → Call → List ℕ → RoundCall
call_on kind own before call name =
    record { rank = own.rank; line = call.line; name = name; number = count_of kind name before; arguments = arguments_of (place_of before call.what) call.what }

module _ {X : Type 0} where
  slice_get_here : (xs : List X) (x : X) → slice_get (xs ++ x ∷ []) (length xs) ≡ Some x
  slice_get_here [] x = refl
  slice_get_here (y ∷ xs) x = slice_get_here xs x

  slice_get_elsewhere : (xs : List X) (x : X) (n : ℕ) → n ≢ length xs → slice_get (xs ++ x ∷ []) n ≡ slice_get xs n
  slice_get_elsewhere [] x zero ne = absurd (ne refl)
  slice_get_elsewhere [] x (suc n) ne = refl
  slice_get_elsewhere (y ∷ xs) x zero ne = refl
  slice_get_elsewhere (y ∷ xs) x (suc n) ne = slice_get_elsewhere xs x n (λ e. ne (ap (λ k. suc k) e))

  or_none : (o : Option X) → o ≡ option_or o None
  or_none None = refl
  or_none (Some x) = refl

-- the first calls of each number, with a call of the next number or of an earlier one
first_with_first : (firsts : List First) (k n : ℕ) (own : First) → k ≤ length firsts →
    slice_get (with_first firsts k own) n ≡ option_or (slice_get firsts n) (cond (eqb k n) (Some own) None)
first_with_first firsts k n own le = by (nat_lt k (length firsts)) refl (eqb k n) refl
  where
    by : (b : Bool) → nat_lt k (length firsts) ≡ b → (e : Bool) → eqb k n ≡ e →
        slice_get (cond b firsts (firsts ++ own ∷ [])) n ≡ option_or (slice_get firsts n) (cond e (Some own) None)
    by true lt true same =
        let there = slice_get-get_or firsts n own (let at = eqb-true k n same in let below : k < length firsts = grind (arith, nat_tests) in omega arith) in
        there ∙ ap (λ o. option_or o (Some own)) (sym there)
    by true lt false same = or_none (slice_get firsts n)
    by false lt true same =
        let at = eqb-true k n same in
        let end : k ≡ length firsts = let past : length firsts ≤ k = grind (arith, nat_tests) in omega arith in
        ap (slice_get (firsts ++ own ∷ [])) (sym at ∙ end) ∙ slice_get_here firsts own
        ∙ ap (λ o. option_or o (Some own)) (sym (slice_get_past firsts n (omega arith)))
    by false lt false same =
        let end : k ≡ length firsts = let past : length firsts ≤ k = grind (arith, nat_tests) in omega arith in
        slice_get_elsewhere firsts own n (λ e. grind (arith, nat_tests)) ∙ or_none (slice_get firsts n)

length_with_first : (firsts : List First) (k : ℕ) (own : First) → k ≤ length firsts → max (length firsts) (k + 1) ≡ length (with_first firsts k own)
length_with_first firsts k own le = by (nat_lt k (length firsts)) refl
  where
    by : (b : Bool) → nat_lt k (length firsts) ≡ b → max (length firsts) (k + 1) ≡ length (cond b firsts (firsts ++ own ∷ []))
    by true lt = let below : k < length firsts = grind (arith, nat_tests) in omega arith
    by false lt = let past : length firsts ≤ k = grind (arith, nat_tests) in let longer = length_push firsts own in omega arith

with_current_largest : (t : CallCounts) (index : ℕ) → (with_current t index).largest ≡ t.largest
with_current_largest t index = by (eqb t.last.rank index)
  where
    by : (b : Bool) → (cond b t (record { last = record { rank = index; number = 0 }; before = t.before ++ t.last ∷ []; largest = t.largest })).largest ≡ t.largest
    by true = refl
    by false = refl

-- what is kept of a communicator after a call that is not on it
AreNameRounds_same : (kind : Kind) (done : List RankCalls) (own : RankCalls) (before : List Call) (call : Call) (index : ℕ) (name : List ℕ) (m : NameRounds) →
    length done ≡ index → is_on kind name call ≡ false →
    AreNameRounds kind (so_far done own before) index name m → AreNameRounds kind (so_far done own (before ++ call ∷ [])) index name m
AreNameRounds_same kind done own before call index name m at off is = record {
  call_counts_are = AreCallCounts_scanned kind name done own before call index at m.call_counts m.call_counts is.call_counts_are
      (sym (ap (λ b. cond b (counted m.call_counts index) m.call_counts) off));
  firsts_are_as_many = is.firsts_are_as_many;
}

-- what is kept of a communicator after a call on it
AreNameRounds_joined : (kind : Kind) (done : List RankCalls) (own : RankCalls) (before : List Call) (call : Call) (index : ℕ) (name : List ℕ) (m : NameRounds) (first : First) →
    length done ≡ index → is_on kind name call ≡ true →
    AreNameRounds kind (so_far done own before) index name m → AreNameRounds kind (so_far done own (before ++ call ∷ [])) index name (joined m index first)
AreNameRounds_joined kind done own before call index name m first at on is =
    let k = number_in m.call_counts index in
    let short : k ≤ length m.firsts =
    let n = number_in_is (made_on kind (so_far done own before) name) index m.call_counts is.call_counts_are in
    let l = is.call_counts_are.largest_is index in
    let e = is.firsts_are_as_many in omega arith in
    record {
      call_counts_are = AreCallCounts_scanned kind name done own before call index at m.call_counts (counted m.call_counts index) is.call_counts_are
          (sym (ap (λ b. cond b (counted m.call_counts index) m.call_counts) on));
      firsts_are_as_many = ap (λ n. max n (k + 1)) (with_current_largest m.call_counts index ∙ is.firsts_are_as_many) ∙ length_with_first m.firsts k first short;
    }

-- no call of this kind
pub AreRounds_none : (kind : Kind) (done : List RankCalls) (own : RankCalls) (before : List Call) (call : Call) (index : ℕ) (m : Rounds) →
    length done ≡ index → named kind call.what ≡ None →
    AreRounds kind (so_far done own before) index m → AreRounds kind (so_far done own (before ++ call ∷ [])) index m
AreRounds_none kind done own before call index m at none are = record {
  kind_is = are.kind_is;
  have_joined = subst (λ seen. HaveJoined kind seen m.names.entries m.faults) longer are.have_joined;
  rounds_are = λ name. AreNameRounds_same kind done own before call index name (rounds_of m.names.entries name) at (is_on_none kind name call none) (are.rounds_are name);
}
  where
    at_none : round_call_at kind own.rank before call ≡ None
    at_none = ap (option_map (call_on kind own before call)) none

    longer : round_calls kind (so_far done own before) ≡ round_calls kind (so_far done own (before ++ call ∷ []))
    longer =
        sym (append-nil (round_calls kind (so_far done own before)))
        ∙ ap (λ o. round_calls kind (so_far done own before) ++ cons_option o []) (sym at_none)
        ∙ sym (round_calls_more kind done own before call)

module _ (kind : Kind) (done : List RankCalls) (own : RankCalls) (before : List Call) (call : Call) (index : ℕ) (name : List ℕ) (old new : Firsts)
    (at : length done ≡ index) (on : named kind call.what ≡ Some name)
    (kept_is : (other : List ℕ) → rounds_of new other
    ≡ cond (pointwise nat_eq name other) (joined (rounds_of old name) index (own_of own.rank (place_of before call.what) call)) (rounds_of old other))
    (are : (other : List ℕ) → AreNameRounds kind (so_far done own before) index other (rounds_of old other)) where
  -- the call, and what is kept of it
  abbrev it : RoundCall
  it = call_on kind own before call name

  abbrev first : First
  first = own_of own.rank (place_of before call.what) call

  number_is : number_in (rounds_of old name).call_counts index ≡ it.number
  number_is =
      number_in_is (made_on kind (so_far done own before) name) index (rounds_of old name).call_counts (are name).call_counts_are
      ∙ made_now kind name done own before index at

  short : it.number ≤ length (rounds_of old name).firsts
  short =
      let l = (are name).call_counts_are.largest_is index in
      let n = made_now kind name done own before index at in
      let e = (are name).firsts_are_as_many in omega arith

  has_joined : IsJoined old new name it.number first
  has_joined other number = by (pointwise nat_eq name other) refl
    where
      by : (b : Bool) → pointwise nat_eq name other ≡ b →
          first_at new other number ≡ option_or (first_at old other number) (cond (b && it.number == number) (Some first) None)
      by true e =
          let there : name ≡ other = same_text name other (sym e) in
          ap (λ (m : NameRounds). slice_get m.firsts number) (kept_is other ∙ ap (λ b. cond b (joined (rounds_of old name) index first) (rounds_of old other)) e)
          ∙ ap (λ k. slice_get (with_first (rounds_of old name).firsts k first) number) number_is
          ∙ first_with_first (rounds_of old name).firsts it.number number first short
          ∙ ap (λ n. option_or (first_at old n number) (cond (it.number == number) (Some first) None)) there
      by false e =
          ap (λ (m : NameRounds). slice_get m.firsts number) (kept_is other ∙ ap (λ b. cond b (joined (rounds_of old name) index first) (rounds_of old other)) e)
          ∙ or_none (first_at old other number)

  pub name_rounds_are : (other : List ℕ) → AreNameRounds kind (so_far done own (before ++ call ∷ [])) index other (rounds_of new other)
  name_rounds_are other = by (pointwise nat_eq name other) refl
    where
      by : (b : Bool) → pointwise nat_eq name other ≡ b → AreNameRounds kind (so_far done own (before ++ call ∷ [])) index other (rounds_of new other)
      by true e =
          let there : name ≡ other = same_text name other (sym e) in
          let is : rounds_of new other ≡ joined (rounds_of old other) index first =
          kept_is other ∙ ap (λ b. cond b (joined (rounds_of old name) index first) (rounds_of old other)) e
          ∙ ap (λ n. joined (rounds_of old n) index first) there in
          subst (λ m. AreNameRounds kind (so_far done own (before ++ call ∷ [])) index other m) (sym is)
          (AreNameRounds_joined kind done own before call index other (rounds_of old other) first at (is_on_some kind other name call on ∙ e) (are other))
      by false e =
          let is : rounds_of new other ≡ rounds_of old other =
          kept_is other ∙ ap (λ b. cond b (joined (rounds_of old name) index first) (rounds_of old other)) e in
          subst (λ m. AreNameRounds kind (so_far done own (before ++ call ∷ [])) index other m) (sym is)
          (AreNameRounds_same kind done own before call index other (rounds_of old other) at (is_on_some kind other name call on ∙ e) (are other))

  pub HaveJoined_more : (faults more : List MatchFault) → HaveJoined kind (round_calls kind (so_far done own before)) old faults →
      more ≡ faults ++ cons_option (option_and_then (λ f. differs kind f first) (first_at old name (number_in (rounds_of old name).call_counts index))) [] →
      HaveJoined kind (round_calls kind (so_far done own (before ++ call ∷ []))) new more
  HaveJoined_more faults more have is =
      let at_some : round_call_at kind own.rank before call ≡ Some it = ap (option_map (call_on kind own before call)) on in
      let longer : round_calls kind (so_far done own before) ++ it ∷ [] ≡ round_calls kind (so_far done own (before ++ call ∷ [])) =
      ap (λ o. round_calls kind (so_far done own before) ++ cons_option o []) (sym at_some) ∙ sym (round_calls_more kind done own before call) in
      subst (λ seen. HaveJoined kind seen new more) longer
      (HaveJoined_push kind (round_calls kind (so_far done own before)) it old new faults more have has_joined
      (is ∙ ap (λ k. faults ++ cons_option (option_and_then (λ f. differs kind f first) (first_at old name k)) []) number_is))
