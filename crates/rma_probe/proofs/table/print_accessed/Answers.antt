use Rattle.std.proofs.Common.{subst, sym}
use Rattle.std.specs.Prelude.{All, Contains}
use Rattle.rma_span.specs.Span.{accesses}
use Rattle.rma_probe.proofs.table.print_accessed.Goals as goal

pub print_pairs-requires : goal.print_pairs-requires
print_pairs-requires c =
    let given = c.requires in (
      given.0,
      record { run = given.1.run; windows = given.3; lists = given.2.lists.calls; clocks = given.4 },
      subst (All (Contains (accesses given.0))) (sym c.as_slice.ensures.value) (c.in_ok-all.ensures given.0 given.2),
    )
