-- A log has one outcome, and every log has one.
use Rattle.std.proofs.Common.{◌≡◌, ℕ, zero, suc, ◌+◌, ◌<◌, List, [], ◌∷◌, ◌++◌, length, take, slice_get, Option, Some, None, IsSome, refl, sym, ap, subst, ◌∙◌, ◌⊎◌, inl, inr, ⊎_elim, arith, append_assoc}
use Rattle.std.proofs.lemmas.List.{append-nil}
use Rattle.std.proofs.lemmas.Bool.{cases_lt, false≢true}
use Rattle.rma_base.specs.declared.form_reason.FormReason.{FormReason}
use Rattle.rma_base.specs.declared.line.LineNo.{LineNo}
use Rattle.rma_call.specs.Call.{RankCalls}
use Rattle.rma_log.specs.Calls.{calls_of, end_line}
use Rattle.rma_base.specs.declared.form_reason.FormReason.TheVariants.{MissingEnd}
use Rattle.rma_log.proofs.ReadingLemmas.{AreGood_more, IsFirstBad_more, IsFirstBad_now, more}
use Rattle.rma_log.specs.Ends.{IsEnd}
use Rattle.rma_log.specs.Logs.{Checked, AreGood, IsFirstBad, IsLogFault, entries, line_reason}
use Rattle.rma_log.specs.declared.fault.BookEnd.{BookEnd}
use Rattle.rma_log.specs.declared.fault.BookEnd.TheVariants.{Calls, Fault}
use Rattle.rma_log.specs.declared.fault.FormFault.{FormFault}

slice_get_take : (k n : ℕ) (lines : List Checked) → k < n → slice_get (take n lines) k ≡ slice_get lines k
slice_get_take k zero lines below = absurd (omega arith)
slice_get_take k (suc n) [] below = refl
slice_get_take zero (suc n) (line ∷ lines) below = refl
slice_get_take (suc k) (suc n) (line ∷ lines) below = slice_get_take k n lines (omega arith)

take_less : (k n : ℕ) (lines : List Checked) → k < n → take k (take n lines) ≡ take k lines
take_less k zero lines below = absurd (omega arith)
take_less zero (suc n) lines below = refl
take_less (suc k) (suc n) [] below = refl
take_less (suc k) (suc n) (line ∷ lines) below = ap (λ rest. line ∷ rest) (take_less k n lines (omega arith))

not_both : (o : Option FormReason) (reason : FormReason) → o ≡ None → o ≡ Some reason → ⊥
not_both None reason none some = cc
not_both (Some x) reason none some = cc

-- no line is bad among good ones
good_or_bad : (rank logs : ℕ) (lines : List Checked) (fault : FormFault) → AreGood rank logs lines → IsFirstBad rank logs lines fault → ⊥
good_or_bad rank logs lines fault good bad = not_both (line_reason rank logs (take bad.place lines) bad.line) fault.reason (good bad.place bad.line bad.there) bad.bad

-- nor before the first bad one
not_earlier : (rank logs : ℕ) (lines : List Checked) (one other : FormFault) (h : IsFirstBad rank logs lines one) (k : IsFirstBad rank logs lines other) → h.place < k.place → ⊥
not_earlier rank logs lines one other h k below =
    not_both (line_reason rank logs (take h.place lines) h.line) one.reason
    (sym (ap (λ before. line_reason rank logs before h.line) (take_less h.place k.place lines below))
    ∙ k.good h.place h.line (slice_get_take h.place k.place lines below ∙ h.there))
    h.bad

same_fault : (one other : FormFault) → one.line.0 ≡ other.line.0 → one.reason ≡ other.reason → one ≡ other
same_fault one other line reason = rw (line, reason) refl

same_bad : (rank logs : ℕ) (lines : List Checked) (one other : FormFault) → IsFirstBad rank logs lines one → IsFirstBad rank logs lines other → one ≡ other
same_bad rank logs lines one other h k = elim (cases_lt h.place k.place) [
  | inl below ↦ absurd (not_earlier rank logs lines one other h k below)
  | inr above ↦ elim (cases_lt k.place h.place) [
    | inl below ↦ absurd (not_earlier rank logs lines other one k h below)
    | inr too ↦
        let same : h.place ≡ k.place = omega (arith, above, too) in
        let found : Some h.line ≡ Some k.line = sym h.there ∙ ap (slice_get lines) same ∙ k.there in
        let line : h.line ≡ k.line = cc in
        let reasons : Some one.reason ≡ Some other.reason =
        sym h.bad ∙ ap (λ n. line_reason rank logs (take n lines) h.line) same ∙ ap (λ l. line_reason rank logs (take k.place lines) l) line ∙ k.bad in
        let reason : one.reason ≡ other.reason = cc in
        same_fault one other (h.number ∙ ap (λ n. n + 1) same ∙ sym k.number) reason
  ]
]

-- a bad line, or a missing end
same_some : (rank logs : ℕ) (lines : List Checked) (one other : FormFault) → IsLogFault rank logs lines (Some one) → IsLogFault rank logs lines (Some other) → one ≡ other
same_some rank logs lines one other (inl h) (inl k) = same_bad rank logs lines one other h k
same_some rank logs lines one other (inl h) (inr k) = absurd (good_or_bad rank logs lines one k.good h)
same_some rank logs lines one other (inr h) (inl k) = absurd (good_or_bad rank logs lines other h.good k)
same_some rank logs lines one other (inr h) (inr k) = same_fault one other (h.number ∙ sym k.number) (h.reason ∙ sym k.reason)

no_line : (o : Option LineNo) → IsSome o → o ≡ None → ⊥
no_line None some none = absurd (false≢true some)
no_line (Some line) some none = cc

none_or_some : (rank logs : ℕ) (lines : List Checked) (fault : FormFault) → IsLogFault rank logs lines None → IsLogFault rank logs lines (Some fault) → ⊥
none_or_some rank logs lines fault h (inl k) = good_or_bad rank logs lines fault h.0 k
none_or_some rank logs lines fault h (inr k) = no_line (end_line (entries lines)) h.1 k.none

pub one_fault : (rank logs : ℕ) (lines : List Checked) (fault other : Option FormFault) → IsLogFault rank logs lines fault → IsLogFault rank logs lines other → fault ≡ other
one_fault rank logs lines None None h k = refl
one_fault rank logs lines None (Some other) h k = absurd (none_or_some rank logs lines other h k)
one_fault rank logs lines (Some fault) None h k = absurd (none_or_some rank logs lines fault k h)
one_fault rank logs lines (Some fault) (Some other) h k = ap Some (same_some rank logs lines fault other h k)

same_calls : (one other : RankCalls) → one.rank.0 ≡ other.rank.0 → one.calls ≡ other.calls → one.end.0 ≡ other.end.0 → one ≡ other
same_calls one other rank calls end = rw (rank, calls, end) refl

same_line : (one other : LineNo) → Some one ≡ Some other → one.0 ≡ other.0
same_line one other h = let same : one ≡ other = cc in ap (λ (l : LineNo). l.0) same

pub one_end : (rank logs : ℕ) (lines : List Checked) (end other : BookEnd) → IsEnd rank logs lines end → IsEnd rank logs lines other → end ≡ other
one_end rank logs lines (Calls calls) (Calls others) h k =
    ap Calls (same_calls calls others (h.of_rank ∙ sym k.of_rank) (h.calls_are ∙ sym k.calls_are) (same_line calls.end others.end (sym h.end_is ∙ k.end_is)))
one_end rank logs lines (Calls calls) (Fault fault) h k = absurd (none_or_some rank logs lines fault h.good k)
one_end rank logs lines (Fault fault) (Calls calls) h k = absurd (none_or_some rank logs lines fault k.good h)
one_end rank logs lines (Fault fault) (Fault other) h k = ap Fault (same_some rank logs lines fault other h k)

-- ---- every log has an outcome

judge_line : (rank logs : ℕ) (lines : List Checked) (line : Checked) (number : ℕ) (reason : Option FormReason) → number ≡ length lines + 1 → AreGood rank logs lines
    → line_reason rank logs lines line ≡ reason → AreGood rank logs (more lines line) ⊎ ((fault : FormFault) × IsFirstBad rank logs (more lines line) fault)
judge_line rank logs lines line number None at good is = inl (AreGood_more rank logs lines line good is)
judge_line rank logs lines line number (Some reason) at good is =
    let fault : FormFault = record { line = record { 0 = number }; reason = reason } in
    inr (fault, IsFirstBad_now rank logs lines line fault good is at)

-- the first lines are good, or one of them is the first bad one
first_lines : (rank logs : ℕ) (before after : List Checked) → AreGood rank logs before ⊎ ((fault : FormFault) × IsFirstBad rank logs before fault)
    → AreGood rank logs (before ++ after) ⊎ ((fault : FormFault) × IsFirstBad rank logs (before ++ after) fault)
first_lines rank logs before [] judged = subst (λ lines. AreGood rank logs lines ⊎ ((fault : FormFault) × IsFirstBad rank logs lines fault)) (sym (append-nil before)) judged
first_lines rank logs before (line ∷ after) judged =
    let next : AreGood rank logs (more before line) ⊎ ((fault : FormFault) × IsFirstBad rank logs (more before line) fault) = ⊎_elim
    (λ (good : AreGood rank logs before). judge_line rank logs before line (length before + 1) (line_reason rank logs before line) refl good refl)
    (λ (bad : (fault : FormFault) × IsFirstBad rank logs before fault). inr (bad.0, IsFirstBad_more rank logs before line bad.0 bad.1))
    judged in
    subst (λ lines. AreGood rank logs lines ⊎ ((fault : FormFault) × IsFirstBad rank logs lines fault)) (append_assoc before (line ∷ []) after) (first_lines rank logs (more before line) after next)

pub good_none : (rank logs : ℕ) → AreGood rank logs []
good_none rank logs zero line h = cc
good_none rank logs (suc k) line h = cc

outcome_good : (rank logs : ℕ) (lines : List Checked) (end : Option LineNo) → end_line (entries lines) ≡ end → AreGood rank logs lines → (end : BookEnd) × IsEnd rank logs lines end
outcome_good rank logs lines None is good =
    let fault : FormFault = record { line = record { 0 = length lines + 1 }; reason = MissingEnd } in
    (Fault fault, inr (record { good = good; none = is; number = refl; reason = refl }))
outcome_good rank logs lines (Some end) is good =
    let calls : RankCalls = record { rank = record { 0 = rank }; calls = calls_of (entries lines); end = end } in
    (Calls calls, record { good = (good, subst IsSome (sym is) refl); of_rank = refl; calls_are = refl; end_is = is })

pub outcome : (rank logs : ℕ) (lines : List Checked) → (end : BookEnd) × IsEnd rank logs lines end
outcome rank logs lines =
    ⊎_elim
    (λ (good : AreGood rank logs lines). outcome_good rank logs lines (end_line (entries lines)) refl good)
    (λ (bad : (fault : FormFault) × IsFirstBad rank logs lines fault). (Fault bad.0, inl bad.1))
    (first_lines rank logs [] lines (inl (good_none rank logs)))
