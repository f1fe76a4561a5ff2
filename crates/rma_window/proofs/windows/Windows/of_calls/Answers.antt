use Rattle.std.proofs.Common.{◌≡◌, ap, ◌∙◌}
use Rattle.std.specs.Prelude.{find, map, option_map}
use Rattle.std.proofs.lemmas.List.{take_all}
use Rattle.rma_window.specs.Creation.{creations}
use Rattle.rma_window.specs.Windows.{attributes_of, is_named, name_of, part_named, windows_by}
use Rattle.rma_window.proofs.WholeLemmas.{attributes_are, names_are, parts_are}
use Rattle.rma_window.proofs.windows.Windows.of_calls.Goals as goal

-- the windows are those of all creations
all_taken : (c : goal.After-loop-rank) → c.loop-rank.windows ≡ windows_by (creations c.args.ranks.now)
all_taken c = c.loop-rank.invariant ∙ ap (λ taken. windows_by (creations taken)) (take_all c.loop-rank.rank-index c.args.ranks.now c.loop-rank-test.false)

pub returns-clause-names : goal.returns-clause-names
returns-clause-names c = ap (map name_of) (all_taken c) ∙ names_are (creations c.args.ranks.now)

pub returns-clause-attributes : goal.returns-clause-attributes
returns-clause-attributes c = λ name. ap (λ windows. option_map attributes_of (find (is_named name) windows)) (all_taken c) ∙ attributes_are name (creations c.args.ranks.now)

pub returns-clause-parts : goal.returns-clause-parts
returns-clause-parts c = λ name rank. ap (λ windows. part_named windows name rank) (all_taken c) ∙ parts_are name rank (creations c.args.ranks.now)
