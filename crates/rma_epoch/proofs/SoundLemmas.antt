-- The sound calls of a rank.
use Rattle.std.proofs.Common.{◌≡◌, ℕ, suc, ◌+◌, cond, ◌∷◌, ◌++◌, List, [], take, drop, Some, None, slice_get, sym, ap, ◌∙◌, arith, append_assoc, length, refl, Option, ◌≤◌}
use Rattle.std.proofs.Math.Seq.{drop-cons}
use Rattle.std.proofs.lemmas.List.{append-nil, length-append, take-append-drop}
use Rattle.std.proofs.lemmas.Option.{slice_get_within, get_or_from_slice_get}
use Rattle.std.specs.Prelude.{is_none, option_map}
use Rattle.std.specs.Option.{option_or}
use Rattle.rma_base.specs.declared.epoch_reason.EpochReason.{EpochReason}
use Rattle.rma_base.specs.declared.line.LineNo.{LineNo}
use Rattle.rma_call.specs.Call.{Call, RankCalls}
use Rattle.rma_epoch.specs.declared.fault.EpochFault.{EpochFault}
use Rattle.rma_window.specs.Windows.{Window}
use Rattle.rma_open.specs.Reason.{reason_at}
use Rattle.rma_epoch.specs.Fault.{fault_from}
use Rattle.rma_epoch.specs.Table.{sound_calls, sound_from}
use Rattle.rma_epoch.specs.Laws.{FaultComesNext, SoundComeFirst}
use Rattle.rma_epoch.proofs.LiveLemmas.{taken_there}

-- the sound calls from a call on
sound_step : (windows : List Window) (calls : List Call) (i : ℕ) (call : Call) → slice_get calls i ≡ Some call →
    sound_from windows (take i calls) (drop i calls) ≡ cond (is_none (reason_at windows (take i calls) call)) (call ∷ sound_from windows (take (i + 1) calls) (drop (i + 1) calls)) []
sound_step windows calls i call there =
    let more : drop i calls ≡ call ∷ drop (suc i) calls =
    drop-cons calls i call (slice_get_within calls i call there) ∙ ap (λ x. x ∷ drop (suc i) calls) (get_or_from_slice_get calls i call call there) in
    let next : suc i ≡ i + 1 = omega arith in
    let sound = is_none (reason_at windows (take i calls) call) in
    ap (sound_from windows (take i calls)) more
    ∙ ap (λ k. cond sound (call ∷ sound_from windows (take i calls ++ call ∷ []) (drop k calls)) []) next
    ∙ ap (λ before. cond sound (call ∷ sound_from windows before (drop (i + 1) calls)) []) (sym (taken_there calls i call there))

-- a call that has no reason is sound too
pub sound_more : (windows : List Window) (calls : List Call) (i : ℕ) (call : Call) → slice_get calls i ≡ Some call → reason_at windows (take i calls) call ≡ None
    → sound_from windows [] calls ≡ take i calls ++ sound_from windows (take i calls) (drop i calls)
    → sound_from windows [] calls ≡ take (i + 1) calls ++ sound_from windows (take (i + 1) calls) (drop (i + 1) calls)
sound_more windows calls i call there none so =
    let rest = sound_from windows (take (i + 1) calls) (drop (i + 1) calls) in
    so
    ∙ ap (λ rest. take i calls ++ rest) (sound_step windows calls i call there ∙ ap (λ reason. cond (is_none reason) (call ∷ rest) []) none)
    ∙ sym (append_assoc (take i calls) (call ∷ []) rest)
    ∙ ap (λ before. before ++ rest) (sym (taken_there calls i call there))

-- the first call that has a reason ends them
pub sound_until : (windows : List Window) (calls : List Call) (i : ℕ) (call : Call) (reason : EpochReason) → slice_get calls i ≡ Some call → reason_at windows (take i calls) call ≡ Some reason
    → sound_from windows [] calls ≡ take i calls ++ sound_from windows (take i calls) (drop i calls)
    → sound_from windows [] calls ≡ take i calls
sound_until windows calls i call reason there some so =
    let rest = sound_from windows (take (i + 1) calls) (drop (i + 1) calls) in
    so
    ∙ ap (λ rest. take i calls ++ rest) (sound_step windows calls i call there ∙ ap (λ reason. cond (is_none reason) (call ∷ rest) []) some)
    ∙ append-nil (take i calls)

-- ---- what comes first

come_first : (windows : List Window) (before calls : List Call) → sound_from windows before calls ≡ take (length (sound_from windows before calls)) calls
come_first windows before [] = refl
come_first windows before (call ∷ calls) = by (reason_at windows before call) (come_first windows (before ++ call ∷ []) calls)
  where
    rest : List Call
    rest = sound_from windows (before ++ call ∷ []) calls

    by : (o : Option EpochReason) → rest ≡ take (length rest) calls → cond (is_none o) (call ∷ rest) [] ≡ take (length (cond (is_none o) (call ∷ rest) [])) (call ∷ calls)
    by None first = ap (λ sound. call ∷ sound) first
    by (Some reason) first = refl

pub sound_first : (windows : List Window) (calls : List Call) → SoundComeFirst windows calls
sound_first windows calls = come_first windows [] calls

-- there are no more sound calls than calls
pub sound_within : (windows : List Window) (calls : List Call) → length (sound_calls windows calls) ≤ length calls
sound_within windows calls =
    let n = length (sound_calls windows calls) in
    let parts : length (take n calls) + length (drop n calls) ≡ length calls = sym (length-append (take n calls) (drop n calls)) ∙ ap length (take-append-drop n calls) in
    let first : n ≡ length (take n calls) = ap length (sound_first windows calls) in
    omega arith

comes_next : (windows : List Window) (before calls : List Call) (end : LineNo) (call : Call) → slice_get calls (length (sound_from windows before calls)) ≡ Some call
    → option_map (λ (fault : EpochFault). fault.line) (fault_from windows before calls end) ≡ Some call.line
comes_next windows before [] end call there = absurd (let no : ⊥ = cc in no)
comes_next windows before (x ∷ xs) end call there = by (reason_at windows before x) there (λ next. comes_next windows (before ++ x ∷ []) xs end call next)
  where
    rest : List Call
    rest = sound_from windows (before ++ x ∷ []) xs

    by : (o : Option EpochReason) → slice_get (x ∷ xs) (length (cond (is_none o) (x ∷ rest) [])) ≡ Some call
        → (slice_get xs (length rest) ≡ Some call → option_map (λ (fault : EpochFault). fault.line) (fault_from windows (before ++ x ∷ []) xs end) ≡ Some call.line)
        → option_map (λ (fault : EpochFault). fault.line) (option_or (option_map (λ (reason : EpochReason). record { line = x.line; reason = reason }) o) (fault_from windows (before ++ x ∷ []) xs end)) ≡ Some call.line
    by None there next = next there
    by (Some reason) there next = let same : x ≡ call = cc in ap (λ (c : Call). Some c.line) same

pub fault_next : (windows : List Window) (own : RankCalls) → FaultComesNext windows own
fault_next windows own call there = comes_next windows [] own.calls own.end call there
