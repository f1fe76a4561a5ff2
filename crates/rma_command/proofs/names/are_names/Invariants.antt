use Rattle.std.proofs.Common.{◌≡◌, true, map, take, string_bytes}
use Rattle.std.specs.List.{list_all}
use Rattle.rma_command.specs.inside.Words.{is_name}
use Rattle.rma_command.proofs.names.are_names.Given as goal

abbrev pub invariant-loop-word : goal.invariant-loop-word
invariant-loop-word l = list_all is_name (map string_bytes (take l.word-index l.words)) ≡ true
