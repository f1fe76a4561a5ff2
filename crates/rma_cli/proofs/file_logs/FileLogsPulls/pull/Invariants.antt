use Rattle.std.proofs.Common.{◌≡◌, false, ◌<◌, length, vec_len, All}
use Rattle.rma_cli.specs.inside.Files.{OthersEnded, OneOpen, NothingTaken}
use Rattle.rma_cli.proofs.file_logs.FileLogsPulls.pull.Given as goal

abbrev pub invariant-loop-self : goal.invariant-loop-self
invariant-loop-self g l = record {
  ranks : All (λ rank. rank < length l.self-inside.files.items) l.self-inside.unended.items;
  ended : OthersEnded l.self-inside.unended.items l.self-inside.files.items;
  next : 0 < l.self-inside.next → l.self-inside.next < length l.self-inside.unended.items;
  first : l.self-inside.in_turns ≡ false → l.self-inside.next ≡ 0;
  one : l.self-inside.in_turns ≡ false → OneOpen l.self-inside.unended.items l.self-inside.files.items;
  files : NothingTaken l.initial.self-inside.files.items l.self-inside.files.items;
  refused : l.self-inside.refused ≡ l.initial.self-inside.refused;
  taken : l.self-inside.taken ≡ l.initial.self-inside.taken;
  in_turns : l.self-inside.in_turns ≡ l.initial.self-inside.in_turns;
  faults : l.self-inside.faults ≡ l.initial.self-inside.faults;
}

abbrev pub decreases-loop-self : goal.decreases-loop-self
decreases-loop-self g l = vec_len l.self-inside.unended
