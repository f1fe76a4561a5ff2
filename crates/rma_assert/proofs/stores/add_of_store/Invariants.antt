use Rattle.std.proofs.Common.{◌≡◌, ◌≤◌, true, List, Some}
use Rattle.rma_window.specs.Windows.{Window}
use Rattle.rma_rules.specs.Kind.{is_store}
use Rattle.rma_rules.specs.Share.{MeetsPart}
use Rattle.rma_concurrent.specs.inside.Places.{HasMore}
use Rattle.rma_assert.specs.inside.Gathered.{IsAtPlace, IsUpTo}
use Rattle.rma_assert.specs.inside.Stored.{IsStored}
use Rattle.rma_assert.proofs.stores.add_of_store.Given as goal

-- the calls before are asked
abbrev pub invariant-loop-place : goal.invariant-loop-place
invariant-loop-place l = record {
  from : l.first ≤ l.place;
  more : (windows : List Window) → is_store l.access.kind ≡ true → MeetsPart windows l.access (Some l.given.window)
      → HasMore (IsUpTo (IsAtPlace (IsStored windows l.given l.access) l.given.published.now) l.place) l.initial.found.items l.found.items;
}
