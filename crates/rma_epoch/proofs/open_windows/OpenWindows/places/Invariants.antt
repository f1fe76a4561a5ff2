use Rattle.std.proofs.Common.{◌≡◌, List, length}
use Rattle.rma_call.specs.Call.{Call}
use Rattle.rma_epoch.specs.inside.Parts.{AreEntries, AreRemembered}
use Rattle.rma_epoch.specs.inside.Windows.{ArePlaces, IsOpenAfter, names_in}
use Rattle.rma_epoch.proofs.open_windows.OpenWindows.places.Given as goal

-- the places of the numbers before are there, and what is open is as it was
abbrev pub invariant-loop-number : goal.invariant-loop-number
invariant-loop-number l = record {
  len : length l.places.items ≡ l.number;
  places : ArePlaces l.windows (names_in l.self) l.calls.whats l.places.items;
  same : (before : List Call) → IsOpenAfter before l.initial.self → IsOpenAfter before l.self;
  count : length l.parts.entries.items ≡ l.number;
  remembered : AreRemembered l.windows l.parts.parts.entries;
  parts : AreEntries l.windows l.calls.whats l.parts;
}
