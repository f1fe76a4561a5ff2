-- What is known of logs, when one of them is read or none.
use Rattle.std.proofs.Common.{◌≡◌, ℕ, ◌<◌, List, length, set, refl, sym, subst}
use Rattle.std.specs.Prelude.{Option, Some, None}
use Rattle.std.specs.Io.KnownBytes.{Keeps}
use Rattle.std.proofs.lemmas.List.{get_or-set_same, get_or-set_other}
use Rattle.rma_io.specs.Known.{StillKnown}
use Rattle.rma_io.specs.LogBytes.{LogBytes, unknown, log_of, Takes, Stays, TakesFrom, AllStay}

StillKnown_same : (known : Option (List ℕ)) → StillKnown (λ old new. new ≡ old) known known
StillKnown_same None = tt
StillKnown_same (Some bytes) = refl

pub Keeps_same : (known : Option (List ℕ)) → Keeps known known
Keeps_same None = tt
Keeps_same (Some bytes) = refl

pub Stays_same : (log : LogBytes) → Stays log log
Stays_same log = record { taken = StillKnown_same log.taken; left = Keeps_same log.left }

pub AllStay_same : (logs : List LogBytes) → AllStay logs logs
AllStay_same logs rank = Stays_same (log_of logs rank)

-- one log was read
pub TakesFrom_set : (logs : List LogBytes) (rank : ℕ) (piece : List ℕ) (before after : LogBytes)
    → rank < length logs → log_of logs rank ≡ before → Takes piece before after → TakesFrom rank piece logs (set logs rank after)
TakesFrom_set logs rank piece before after within was takes = record {
  takes =
      subst (λ (log : LogBytes). Takes piece log (log_of (set logs rank after) rank)) (sym was)
      (subst (λ (log : LogBytes). Takes piece before log) (sym (get_or-set_same logs rank after unknown within)) takes);
  others = λ other ne.
      subst (λ (log : LogBytes). Stays (log_of logs other) log) (sym (get_or-set_other logs rank other after unknown ne)) (Stays_same (log_of logs other));
}
