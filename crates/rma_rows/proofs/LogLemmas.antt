-- The calls of good logs.
use Rattle.std.proofs.Common.{◌≡◌, ℕ, ◌+◌, List, [], ◌∷◌, ◌++◌, length, inl, inr, refl, sym, subst, ◌∙◌, arith}
use Rattle.std.proofs.lemmas.Bool.{cases_lt}
use Rattle.std.proofs.lemmas.List.{length-append, get_or_append_left, get_or_push}
use Rattle.std.proofs.lemmas.Option.{slice_get_read, slice_get_within, get_or_from_slice_get}
use Rattle.rma_call.specs.Call.{RankCalls}
use Rattle.rma_kept.specs.Kept.{AreKept}
use Rattle.rma_kept.proofs.WholeLemmas.{fewer_than_bytes, whole_is}
use Rattle.rma_lex.specs.Checked.{checked_lines}
use Rattle.rma_log.specs.declared.fault.BookEnd.TheVariants.{Calls}
use Rattle.rma_accesses.specs.Run.{AreGood}
use Rattle.rma_accesses.proofs.RankLemmas.{place_of}
use Rattle.rma_rows.specs.Logs.{AreLogsOf, IsEndOfLog, IsLogOf}

-- so are those of a log without a bad line
pub good_log : (logs rank : ℕ) (own : RankCalls) → IsEndOfLog logs rank (Calls own) → IsLogOf logs rank own
good_log logs rank own end = record {
  rank_is = end.2.of_rank;
  kept = (whole_is rank logs (checked_lines end.0) own end.2).kept;
  few = (let fewer = fewer_than_bytes rank logs end.0 own end.2 in let most = end.1 in omega (arith, fewer, most));
}

-- the logs of all ranks are a run of good logs
pub good_run : (logs : ℕ) (calls : List RankCalls) → AreLogsOf logs logs calls → AreGood calls
good_run logs calls are = record {
  run = record { in_order = λ i own there. (are.each i own there).rank_is; few = λ i own there. (are.each i own there).few };
  kept = λ own there. let place = place_of calls own there in subst (λ n. AreKept own.rank.0 n own.calls) (sym are.count_is) (are.each place.0 own place.1).kept;
}

-- one log more
pub one_log_more : (logs count : ℕ) (calls : List RankCalls) (own : RankCalls) → AreLogsOf logs count calls → IsLogOf logs count own → AreLogsOf logs (count + 1) (calls ++ own ∷ [])
one_log_more logs count calls own are one = record {
  count_is = (let e = are.count_is in omega (arith, e, length-append calls (own ∷ [])));
  each = λ i other there. elim (cases_lt i (length calls)) [
    | inl lt ↦ are.each i other (slice_get_read calls (length calls) i other refl lt (sym (sym (get_or_append_left calls (own ∷ []) other i lt) ∙ get_or_from_slice_get (calls ++ own ∷ []) i other other there)))
    | inr ge ↦
        let within = slice_get_within (calls ++ own ∷ []) i other there in
        let at_end : length calls ≡ i = (let e = length-append calls (own ∷ []) in omega (arith, within, ge, e)) in
        let same : own ≡ other = sym (get_or_push calls own other i at_end) ∙ get_or_from_slice_get (calls ++ own ∷ []) i other other there in
        subst (IsLogOf logs i) same (subst (λ n. IsLogOf logs n own) (sym are.count_is ∙ at_end) one)
  ];
}
