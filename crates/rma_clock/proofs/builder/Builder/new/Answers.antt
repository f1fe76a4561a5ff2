use Rattle.std.proofs.Common.{None, replicate, refl, ap, ◌∙◌, rules}
use Rattle.rma_clock.proofs.BuilderLemmas.{empty_builder}
use Rattle.rma_clock.proofs.builder.Builder.new.Goals as goal

pub returns-clause-builder : goal.returns-clause-builder
returns-clause-builder c =
    empty_builder c.args.ranks c.args.links.now _ refl c.in_ok-table.ensures.steps c.in_ok-table.ensures.rows
    (c.in_ok-meets.ensures.items_if_clones_equal (λ y same. search rules) ∙ ap (λ n. replicate n None) c.len.ensures)
