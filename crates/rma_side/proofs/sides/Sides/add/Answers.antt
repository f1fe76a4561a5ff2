use Rattle.std.proofs.Common.{◌++◌, ◌∷◌, [], ap, ◌∙◌}
use Rattle.std.proofs.lemmas.List.{map-append}
use Rattle.indexmap.proofs.CallerLemmas.{insert_entry-new}
use Rattle.rma_side.specs.inside.Sides.{asked_by, asked_in}
use Rattle.rma_side.proofs.SidesLemmas.{is_key, key, key_is_new}
use Rattle.rma_side.proofs.sides.Sides.add.Goals as goal

pub returns-clause-ok : goal.returns-clause-ok
returns-clause-ok c =
    let own = c.self.inside.sides in
    let it = key c.args.index c.args.target in
    let new = key_is_new c.args.index c.args.target own.entries (rw (← c.self.view_is) at c.requires) in
    ap asked_in (c.in_ok-insert.ensures.entries ∙ insert_entry-new is_key own it c.args.side new)
    ∙ map-append asked_by own.entries ((it, c.args.side) ∷ [])
    ∙ ap (λ sides. sides ++ asked_by (it, c.args.side) ∷ []) c.self.view_is
