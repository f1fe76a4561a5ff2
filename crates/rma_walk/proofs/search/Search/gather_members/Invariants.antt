use Rattle.std.proofs.Common.{◌≡◌}
use Rattle.std.specs.Prelude.{slice_index}
use Rattle.rma_walk.specs.inside.Search.{IsAhead}
use Rattle.rma_walk.proofs.search.Search.gather_members.Given as goal

abbrev pub invariant-loop-member : goal.invariant-loop-member
invariant-loop-member l = record {
  ahead : IsAhead l.run.lens.now l.run.links.now l.current l.initial.self l.self;
  inboxes : l.self.pending.inboxes ≡ l.initial.self.pending.inboxes;
  known : slice_index l.self.pending.known.items l.index ≡ l.member;
}
