-- The outcomes of some logs.
use Rattle.std.proofs.Common.{◌≡◌, ℕ, zero, suc, ◌+◌, List, [], ◌∷◌, ◌++◌, length, slice_get, Some, true, eqb, refl, sym, ap, subst, ◌∙◌, arith}
use Rattle.std.proofs.lemmas.Bool.{eqb-true}
use Rattle.rma_lex.specs.Checked.{checked_lines}
use Rattle.rma_call.specs.Call.{RankCalls}
use Rattle.rma_log.specs.declared.fault.BookEnd.{BookEnd}
use Rattle.rma_log.specs.declared.fault.BookEnd.TheVariants.{Calls, Fault}
use Rattle.rma_log.specs.declared.fault.FormFault.{FormFault}
use Rattle.rma_log.specs.Ends.{IsEnd}
use Rattle.rma_log.proofs.OutcomeLemmas.{one_end, outcome}
use Rattle.rma_report.specs.declared.finding.Finding.{Finding}
use Rattle.rma_report.specs.declared.finding.Finding.TheVariants.{Malformed}
use Rattle.rma_run.specs.Run.{AreInOrder}
use Rattle.rma_stream.specs.Findings.{AreEnds, bad_lines, calls_in}

pub calls_in_calls : (before : List BookEnd) (calls : RankCalls) → calls_in (before ++ Calls calls ∷ []) ≡ calls_in before ++ calls ∷ []
calls_in_calls [] calls = refl
calls_in_calls (Calls first ∷ before) calls = ap (λ rest. first ∷ rest) (calls_in_calls before calls)
calls_in_calls (Fault first ∷ before) calls = calls_in_calls before calls

pub calls_in_fault : (before : List BookEnd) (fault : FormFault) → calls_in (before ++ Fault fault ∷ []) ≡ calls_in before
calls_in_fault [] fault = refl
calls_in_fault (Calls first ∷ before) fault = ap (λ rest. first ∷ rest) (calls_in_fault before fault)
calls_in_fault (Fault first ∷ before) fault = calls_in_fault before fault

pub bad_lines_calls : (rank : ℕ) (before : List BookEnd) (calls : RankCalls) → bad_lines rank (before ++ Calls calls ∷ []) ≡ bad_lines rank before
bad_lines_calls rank [] calls = refl
bad_lines_calls rank (Calls first ∷ before) calls = bad_lines_calls (rank + 1) before calls
bad_lines_calls rank (Fault first ∷ before) calls = ap (λ rest. Malformed (record { 0 = rank }) first.line first.reason ∷ rest) (bad_lines_calls (rank + 1) before calls)

pub bad_lines_fault : (rank : ℕ) (before : List BookEnd) (fault : FormFault)
    → bad_lines rank (before ++ Fault fault ∷ []) ≡ bad_lines rank before ++ Malformed (record { 0 = rank + length before }) fault.line fault.reason ∷ []
bad_lines_fault rank [] fault = ap (λ n. Malformed (record { 0 = n }) fault.line fault.reason ∷ []) (omega arith)
bad_lines_fault rank (Calls first ∷ before) fault =
    bad_lines_fault (rank + 1) before fault ∙ ap (λ n. bad_lines (rank + 1) before ++ Malformed (record { 0 = n }) fault.line fault.reason ∷ []) (omega arith)
bad_lines_fault rank (Fault first ∷ before) fault = ap (λ rest. Malformed (record { 0 = rank }) first.line first.reason ∷ rest)
    (bad_lines_fault (rank + 1) before fault ∙ ap (λ n. bad_lines (rank + 1) before ++ Malformed (record { 0 = n }) fault.line fault.reason ∷ []) (omega arith))

pub AreEnds_push : (logs rank : ℕ) (texts : List (List ℕ)) (ends : List BookEnd) (text : List ℕ) (end : BookEnd) → AreEnds logs rank texts ends
    → IsEnd (rank + length texts) logs (checked_lines text) end → AreEnds logs rank (texts ++ text ∷ []) (ends ++ end ∷ [])
AreEnds_push logs rank [] [] text end h one = (subst (λ n. IsEnd n logs (checked_lines text) end) (omega arith) one, tt)
AreEnds_push logs rank [] (first ∷ ends) text end h one = absurd h
AreEnds_push logs rank (first ∷ texts) [] text end h one = absurd h
AreEnds_push logs rank (first ∷ texts) (one_end ∷ ends) text end h one =
    (h.0, AreEnds_push logs (rank + 1) texts ends text end h.1 (subst (λ n. IsEnd n logs (checked_lines text) end) (omega arith) one))

pub length_AreEnds : (logs rank : ℕ) (texts : List (List ℕ)) (ends : List BookEnd) → AreEnds logs rank texts ends → length ends ≡ length texts
length_AreEnds logs rank [] [] h = refl
length_AreEnds logs rank [] (end ∷ ends) h = absurd h
length_AreEnds logs rank (text ∷ texts) [] h = absurd h
length_AreEnds logs rank (text ∷ texts) (end ∷ ends) h = omega (arith, length_AreEnds logs (rank + 1) texts ends h.1)

-- a list without elements
pub is_empty : (fs : List Finding) → eqb (length fs) 0 ≡ true → fs ≡ []
is_empty [] none = refl
is_empty (f ∷ fs) none = absurd (omega (arith, eqb-true (length (f ∷ fs)) 0 none))

-- where no line is bad, each log is that of its rank
calls_in_order : (logs rank : ℕ) (texts : List (List ℕ)) (ends : List BookEnd) → AreEnds logs rank texts ends → bad_lines rank ends ≡ [] → (i : ℕ) (own : RankCalls)
    → slice_get (calls_in ends) i ≡ Some own → own.rank.0 ≡ rank + i
calls_in_order logs rank [] [] h none i own at = absurd (let no : ⊥ = cc in no)
calls_in_order logs rank [] (end ∷ ends) h none i own at = absurd h
calls_in_order logs rank (text ∷ texts) [] h none i own at = absurd h
calls_in_order logs rank (text ∷ texts) (Fault fault ∷ ends) h none i own at = absurd (let no : ⊥ = cc in no)
calls_in_order logs rank (text ∷ texts) (Calls calls ∷ ends) h none zero own at =
    let is : calls ≡ own = cc in
    sym (ap (λ (r : RankCalls). r.rank.0) is) ∙ h.0.of_rank ∙ omega arith
calls_in_order logs rank (text ∷ texts) (Calls calls ∷ ends) h none (suc i) own at =
    calls_in_order logs (rank + 1) texts ends h.1 none i own at ∙ omega arith

pub in_order : (logs : ℕ) (texts : List (List ℕ)) (ends : List BookEnd) → AreEnds logs 0 texts ends → bad_lines 0 ends ≡ [] → AreInOrder (calls_in ends)
in_order logs texts ends are none i own at = calls_in_order logs 0 texts ends are none i own at ∙ (let here : 0 + i ≡ i = omega arith in here)

-- the logs come to a list of ends
pub some_list : (logs rank : ℕ) (texts : List (List ℕ)) → (ends : List BookEnd) × AreEnds logs rank texts ends
some_list logs rank [] = ([], tt)
some_list logs rank (text ∷ texts) =
    let first = outcome rank logs (checked_lines text) in
    let later = some_list logs (rank + 1) texts in
    (first.0 ∷ later.0, (first.1, later.1))

-- the logs come to one list of ends
pub one_list : (logs rank : ℕ) (texts : List (List ℕ)) (ends others : List BookEnd) → AreEnds logs rank texts ends → AreEnds logs rank texts others → ends ≡ others
one_list logs rank [] [] [] h k = refl
one_list logs rank [] [] (other ∷ others) h k = absurd k
one_list logs rank [] (end ∷ ends) others h k = absurd h
one_list logs rank (text ∷ texts) [] others h k = absurd h
one_list logs rank (text ∷ texts) (end ∷ ends) [] h k = absurd k
one_list logs rank (text ∷ texts) (end ∷ ends) (other ∷ others) h k =
    let first = one_end rank logs (checked_lines text) end other h.0 k.0 in
    let later = one_list logs (rank + 1) texts ends others h.1 k.1 in
    rw (first, later) refl
