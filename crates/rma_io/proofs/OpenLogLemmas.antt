-- What is left of logs, when one of them is read on or some of them are looked at.
use Rattle.std.proofs.Common.{◌≡◌, ℕ, ◌<◌, List, length, take, get_or, set, All, inl, inr, arith}
use Rattle.std.proofs.lemmas.Bool.{cases_lt}
use Rattle.std.proofs.lemmas.List.{take-set-le, get_or-take, get_or_past, map-set, length-map, length-take}
use Rattle.std.proofs.lemmas.List.Elements.{All-same}
use Rattle.rma_io.specs.Schedule.{IsZero}
use Rattle.rma_io.specs.inside.OpenLogs.{Progress, lefts}

-- logs with nothing left stay so while another one is read
pub none_below_set : (left : List ℕ) (finished rank n : ℕ) → All IsZero (take finished left) → 0 < get_or left rank 0
    → All IsZero (take finished (set left rank n))
none_below_set left finished rank n none some =
    elim (cases_lt rank finished) [
      | inl below ↦ elim (cases_lt rank (length left)) [
        | inl within ↦ absurd (omega (arith, none rank 0 (omega (arith, length-take finished left)), get_or-take finished left rank 0 below))
        | inr past ↦ absurd (omega (arith, get_or_past left rank 0 past))
      ]
      | inr above ↦ All-same IsZero _ _ (take-set-le finished left rank n above) none
    ]

pub lefts_set : (logs : List Progress) (rank : ℕ) (log : Progress) → lefts (set logs rank log) ≡ set (lefts logs) rank log.left
lefts_set logs rank log = map-set (λ (p : Progress). p.left) logs rank log

-- a log with bytes left is one of those there
pub within_some : (logs : List Progress) (rank : ℕ) → 0 < get_or (lefts logs) rank 0 → rank < length logs
within_some logs rank some =
    elim (cases_lt rank (length logs)) [
      | inl within ↦ within
      | inr past ↦
          let n = length-map logs (λ (p : Progress). p.left) in
          absurd (omega (arith, get_or_past (lefts logs) rank 0 (omega arith)))
    ]
