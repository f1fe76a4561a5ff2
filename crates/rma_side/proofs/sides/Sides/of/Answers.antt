use Rattle.std.proofs.Common.{◌≡◌, ◌++◌, ◌∷◌, [], length, slice_get, Some, None, refl, sym, ap, subst, ◌∙◌}
use Rattle.std.specs.Prelude.{option_map}
use Rattle.std.proofs.lemmas.List.Elements.{All-push}
use Rattle.std.proofs.lemmas.Option.{slice_get_read}
use Rattle.std.proofs.lemmas.Result.{on_ok_weaker}
use Rattle.rma_run.specs.Run.{calls_of}
use Rattle.rma_side.specs.Side.{side_of}
use Rattle.rma_side.specs.Sides.{AreSides, Asked, asked, number_of, side_at, side_in, with_side}
use Rattle.rma_side.proofs.SidesLemmas.{before_push, found, from_both, known_stays, number_of_last, side_last, with_new}
use Rattle.rma_side.proofs.sides.Sides.of.Goals as goal

pub returns-in-Some-clause-side : goal.returns-in-Some-clause-side
returns-in-Some-clause-side c = λ are.
    let at = side_at (calls_of c.args.ranks.now) c.args.windows.now c.args.rank c.args.epochs.now in
    found c.args.index c.args.target at c.args.self.now c.in-Some.number (sym c.in-Some.ensures) are.each

pub returns-in-Some-clause-ok : goal.returns-in-Some-clause-ok
returns-in-Some-clause-ok c =
    known_stays
    c.args.index
    c.args.target
    (λ epoch. side_of (calls_of c.args.ranks.now) c.args.windows.now c.args.rank epoch c.args.target)
    c.args.self.now
    c.in-Some.number
    (sym c.in-Some.ensures)
    c.args.epochs.now
    c.args.index
    c.requires.there

-- the side that is asked for is the one that is added
is_asked : (c : goal.After-add) → side_at (calls_of c.args.ranks.now) c.args.windows.now c.args.rank c.args.epochs.now c.args.index c.args.target ≡ Some c.side_of-side.result
is_asked c =
    let epochs = c.args.epochs.now in
    let epoch = c.index-epochs-index.result in
    rw (slice_get_read epochs (length epochs) c.args.index epoch refl c.requires.there c.index-epochs-index.is) (ap Some (sym c.side_of-side.ensures))

pub returns-clause-side : goal.returns-clause-side
returns-clause-side c =
    from_both
    c.add.result
    (λ number last new are.
    ap (λ sides. side_in sides number) new
    ∙ ap (side_in (c.args.self.now ++ asked c.args.index c.args.target c.side_of-side.result ∷ [])) last
    ∙ side_last c.args.self.now (asked c.args.index c.args.target c.side_of-side.result)
    ∙ sym (is_asked c))
    c.add.ensures.number
    c.add.ensures.ok

pub returns-clause-sides : goal.returns-clause-sides
returns-clause-sides c =
    let calls = calls_of c.args.ranks.now in
    let at = side_at calls c.args.windows.now c.args.rank c.args.epochs.now in
    on_ok_weaker
    c.add.result
    (λ new are.
    subst (AreSides calls c.args.windows.now c.args.rank c.args.epochs.now) (sym new) (record {
      each = All-push (λ (own : Asked). at own.epoch own.target ≡ Some own.side) c.args.self.now (asked c.args.index c.args.target c.side_of-side.result) are.each (is_asked c);
    }))
    c.add.ensures.ok

pub returns-clause-same : goal.returns-clause-same
returns-clause-same c =
    on_ok_weaker
    c.add.result
    (λ new number within. ap (λ sides. slice_get sides number) new ∙ before_push c.args.self.now (asked c.args.index c.args.target c.side_of-side.result) number within)
    c.add.ensures.ok

-- the side was not asked for
is_new : (c : goal.After-add) → number_of c.args.self.now c.args.index c.args.target ≡ None
is_new c = sym c.in_default.ensures

pub returns-clause-once : goal.returns-clause-once
returns-clause-once c =
    from_both
    c.add.result
    (λ number last new.
    ap (λ sides. number_of sides c.args.index c.args.target) new
    ∙ number_of_last c.args.index c.args.target c.args.self.now c.side_of-side.result (is_new c)
    ∙ ap Some (sym last))
    c.add.ensures.number
    c.add.ensures.ok

pub returns-clause-ok : goal.returns-clause-ok
returns-clause-ok c =
    on_ok_weaker
    c.add.result
    (λ new.
    ap (option_map (λ side. with_side c.args.self.now (asked c.args.index c.args.target side))) (is_asked c)
    ∙ ap Some (with_new c.args.index c.args.target c.args.self.now c.side_of-side.result (is_new c) ∙ sym new))
    c.add.ensures.ok
