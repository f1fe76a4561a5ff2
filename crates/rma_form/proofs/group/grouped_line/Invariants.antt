use Rattle.std.proofs.Common.{◌≡◌, ◌++◌, take}
use Rattle.std.specs.Prelude.{flat_map, string_bytes}
use Rattle.rma_form.specs.inside.Suffix.{behind_space}
use Rattle.rma_form.proofs.group.grouped_line.Given as goal

abbrev pub invariant-loop-item : goal.invariant-loop-item
invariant-loop-item g l = string_bytes l.line ≡ string_bytes l.initial.line ++ flat_map (λ item. behind_space (g.G.Group.spelling item)) (take l.item-index l.items)
