-- The fewest calls that a member makes.
use Rattle.std.proofs.Common.{◌≡◌, ℕ, suc, ◌+◌, ◌<◌, ◌≤◌, Bool, true, false, cond, List, [], ◌∷◌, ◌++◌, append_assoc, arith, None, ◌&&◌, ◌||◌, nat_le, nat_eq, Option, Some, refl, sym, ap, subst, ◌∙◌}
use Rattle.std.specs.List.{list_any, list_all, cons_option}
use Rattle.std.specs.Option.{option_and_then, option_or}
use Rattle.std.proofs.lemmas.Bool.Decides.{nat_tests}
use Rattle.std.proofs.lemmas.List.Sums.{sum_by-append, sum_by-cons}
use Rattle.std.specs.Map.{lookup}
use Rattle.std.specs.HashMap.{HashMap}
use Rattle.std.specs.declared.hash.FoldHasher.{FoldHasher}
use Rattle.std.specs.declared.hash.BuildHasherDefault.{BuildHasherDefault}
use Rattle.std.specs.Cmp.Lexicographic.{pointwise, same_text, nat_list_eq_equiv}
use Rattle.rma_round.specs.declared.kind.Kind.{Kind}
use Rattle.rma_missing.specs.declared.missing.MissingOfKind.{MissingOfKind}
use Rattle.rma_base.specs.declared.rank.Rank.{Rank}
use Rattle.rma_call.specs.Call.{Call, RankCalls}
use Rattle.rma_round.specs.declared.kind.Kind.TheVariants as kind
use Rattle.rma_round.specs.Kind.{named, is_on, count_of}
use Rattle.rma_agreement.specs.Collective.{made, walked, walked_all}
use Rattle.rma_agreement.specs.Balance.{IsBalanced}
use Rattle.rma_member.specs.Member.{members}
use Rattle.rma_missing.specs.inside.ByRank.{Numbers, AreCountsByRank, count_in_rank, is_reached}
use Rattle.rma_call.specs.declared.match_fault.MatchFault.{MatchFault}
use Rattle.rma_missing.specs.Missing.{lacks, missing_reason, fault_if, missing_of, missing_at, missing_calls, missing_data}
use Rattle.rma_missing.specs.inside.Missing.{IsMissingOfKind, Tells}
use Rattle.rma_agreement.proofs.CountLemmas.{is_on_some}
use Rattle.rma_missing.proofs.ByRankLemmas.{count_in_rank_made}

abbrev Known : Type 0
Known = HashMap (List ℕ) (Option ℕ) (BuildHasherDefault FoldHasher)

-- the numbers that are kept decide which members lack a number
lacking : (kind : Kind) (ranks : List RankCalls) (counts_by_rank : List Numbers) → AreCountsByRank kind ranks counts_by_rank → (name : List ℕ) (number : ℕ) (ms : List ℕ) →
    list_any (λ m. nat_le (made kind ranks m name) number) ms ≡ list_any (λ m. nat_le (count_in_rank counts_by_rank m name) number) ms
lacking kind ranks counts_by_rank h name number [] = refl
lacking kind ranks counts_by_rank h name number (m ∷ ms) =
    ap (λ n. nat_le n number || list_any (λ k. nat_le (made kind ranks k name) number) ms) (sym (count_in_rank_made kind ranks counts_by_rank h m name))
    ∙ ap (λ b. nat_le (count_in_rank counts_by_rank m name) number || b) (lacking kind ranks counts_by_rank h name number ms)

-- the fewest of the numbers that are kept decides it
pub Tells_fewest : (kind : Kind) (ranks : List RankCalls) (w : MissingOfKind) (name : List ℕ) (counts_by_rank : List Numbers) (ms : List ℕ) (fewest : Option ℕ) →
    IsMissingOfKind kind ranks w → counts_by_rank ≡ w.counts_by_rank → ms ≡ members w.kind ranks name →
    ((number : ℕ) → list_any (λ m. nat_le (count_in_rank counts_by_rank m name) number) ms ≡ is_reached fewest number) → Tells kind ranks name fewest
Tells_fewest kind ranks w name counts_by_rank ms fewest missing same_counts same_members h = λ number.
    lacking kind ranks w.counts_by_rank missing.counts_are name number (members kind ranks name)
    ∙ ap (λ l. list_any (λ m. nat_le (count_in_rank w.counts_by_rank m name) number) l) (ap (λ k. members k ranks name) (sym missing.kind_is) ∙ sym same_members)
    ∙ ap (λ t. list_any (λ m. nat_le (count_in_rank t m name) number) ms) (sym same_counts)
    ∙ h number

-- what is known with one more name
pub IsMissingOfKind_known : (kind : Kind) (ranks : List RankCalls) (w : MissingOfKind) (new : Known) (copy name : List ℕ) (fewest : Option ℕ) →
    IsMissingOfKind kind ranks w → copy ≡ name → Tells kind ranks name fewest →
    ((other : List ℕ) → lookup (pointwise nat_eq other) new.entries ≡ cond (pointwise nat_eq copy other) (Some fewest) (lookup (pointwise nat_eq other) w.known.entries)) →
    IsMissingOfKind kind ranks (record { kind = w.kind; counts_by_rank = w.counts_by_rank; known = new })
IsMissingOfKind_known kind ranks w new copy name fewest missing is tells update = record {
  kind_is = missing.kind_is;
  counts_are = missing.counts_are;
  known_are = λ other found at. by other found (pointwise nat_eq copy other) refl (sym (update other) ∙ at);
}
  where
    by : (other : List ℕ) (found : Option ℕ) (b : Bool) → pointwise nat_eq copy other ≡ b →
        cond b (Some fewest) (lookup (pointwise nat_eq other) w.known.entries) ≡ Some found → Tells kind ranks other found
    by other found true e h =
        let same : fewest ≡ found = cc in
        let there : name ≡ other = sym is ∙ same_text copy other (sym e) in
        subst (λ n. Tells kind ranks n found) there (subst (λ f. Tells kind ranks name f) same tells)
    by other found false e h = missing.known_are other found h

-- ---- where no member makes fewer calls than another rank

none_lacks : (f : ℕ → ℕ) (most number : ℕ) → number < most → (ms : List ℕ) → list_all (λ m. nat_le most (f m)) ms ≡ true →
    list_any (λ m. nat_le (f m) number) ms ≡ false
none_lacks f most number lt [] h = refl
none_lacks f most number lt (m ∷ ms) h = by (nat_le most (f m)) refl h (none_lacks f most number lt ms)
  where
    by : (b : Bool) → nat_le most (f m) ≡ b → (b && list_all (λ k. nat_le most (f k)) ms) ≡ true →
        (list_all (λ k. nat_le most (f k)) ms ≡ true → list_any (λ k. nat_le (f k) number) ms ≡ false) →
        (nat_le (f m) number || list_any (λ k. nat_le (f k) number) ms) ≡ false
    by true e rest more =
        let no : nat_le (f m) number ≡ false = grind (arith, nat_tests) in
        ap (λ b. b || list_any (λ k. nat_le (f k) number) ms) no ∙ more rest
    by false e rest more = cc

count_of_split : (kind : Kind) (name : List ℕ) (before after : List Call) (call : Call) → is_on kind name call ≡ true →
    count_of kind name (before ++ call ∷ after) ≡ count_of kind name before + (1 + count_of kind name after)
count_of_split kind name before after call on =
    let one = λ (c : Call). cond (is_on kind name c) 1 0 in
    sum_by-append one before (call ∷ after)
    ∙ ap (λ n. count_of kind name before + n) (sum_by-cons one call after ∙ ap (λ b. cond b 1 0 + count_of kind name after) on)

module _ (ranks : List RankCalls) (balanced : (kind : Kind) (name : List ℕ) → IsBalanced kind ranks name) where
  missing_of_none : (kind : Kind) (rank : Rank) (before after : List Call) (call : Call) →
      ((name : List ℕ) → count_of kind name (before ++ call ∷ after) ≤ (balanced kind name).0) → missing_of kind ranks rank before call ≡ None
  missing_of_none kind rank before after call few = by (named kind call.what) refl
    where
      by : (o : Option (List ℕ)) → named kind call.what ≡ o →
          option_and_then (λ (n : List ℕ). fault_if (lacks kind ranks n (count_of kind n before)) (missing_reason kind) rank call) o ≡ None
      by None e = refl
      by (Some name) e =
          let on : is_on kind name call ≡ true = is_on_some kind name name call e ∙ nat_list_eq_equiv.refl name in
          let split = count_of_split kind name before after call on in
          let enough = few name in
          let lt : count_of kind name before < (balanced kind name).0 = omega arith in
          ap (λ b. fault_if b (missing_reason kind) rank call)
          (none_lacks (λ m. made kind ranks m name) (balanced kind name).0 (count_of kind name before) lt (members kind ranks name) (balanced kind name).2)

  -- nothing is told of the calls of a rank, where nothing is told of any
  walked_none : (f : Rank → List Call → Call → Option MatchFault) →
      ((rank : Rank) (before after : List Call) (call : Call) → ((kind : Kind) (name : List ℕ) → count_of kind name (before ++ call ∷ after) ≤ (balanced kind name).0) →
      f rank before call ≡ None) →
      (rank : Rank) (before calls : List Call) → ((kind : Kind) (name : List ℕ) → count_of kind name (before ++ calls) ≤ (balanced kind name).0) →
      walked f rank before calls ≡ []
  walked_none f none rank before [] few = refl
  walked_none f none rank before (call ∷ calls) few =
      ap (λ o. cons_option o (walked f rank (before ++ call ∷ []) calls)) (none rank before calls call few)
      ∙ walked_none f none rank (before ++ call ∷ []) calls
      (λ kind name. subst (λ l. count_of kind name l ≤ (balanced kind name).0) (sym (append_assoc before (call ∷ []) calls)) (few kind name))

  all_none : (f : Rank → List Call → Call → Option MatchFault) →
      ((rank : Rank) (before after : List Call) (call : Call) → ((kind : Kind) (name : List ℕ) → count_of kind name (before ++ call ∷ after) ≤ (balanced kind name).0) →
      f rank before call ≡ None) →
      (some : List RankCalls) → ((kind : Kind) (name : List ℕ) (m : ℕ) → made kind some m name ≤ (balanced kind name).0) → walked_all f some ≡ []
  all_none f none [] few = refl
  all_none f none (r ∷ some) few =
      ap (λ l. l ++ walked_all f some) (walked_none f none r.rank [] r.calls (λ kind name. few kind name 0))
      ∙ all_none f none some (λ kind name m. few kind name (suc m))

  missing_at_none : (rank : Rank) (before after : List Call) (call : Call) →
      ((kind : Kind) (name : List ℕ) → count_of kind name (before ++ call ∷ after) ≤ (balanced kind name).0) → missing_at ranks rank before call ≡ None
  missing_at_none rank before after call few =
      let none = λ (k : Kind). missing_of_none k rank before after call (few k) in
      ap (λ o. option_or (option_or o (missing_of kind.Free ranks rank before call)) (missing_of kind.Fence ranks rank before call)) (none kind.Collective)
      ∙ ap (λ o. option_or o (missing_of kind.Fence ranks rank before call)) (none kind.Free)
      ∙ none kind.Fence

  -- no call is missing
  pub missing_calls_none : missing_calls ranks ≡ []
  missing_calls_none = all_none (missing_at ranks) missing_at_none ranks (λ kind name m. (balanced kind name).1 m)

  pub missing_data_none : missing_data ranks ≡ []
  missing_data_none =
      all_none (missing_of kind.Moving ranks) (λ rank before after call few. missing_of_none kind.Moving rank before after call (few kind.Moving)) ranks
      (λ kind name m. (balanced kind name).1 m)
