use Rattle.std.proofs.Common.{◌++◌, ◌∷◌, [], List, ℕ, length, map, sym, ap, subst, ◌∙◌}
use Rattle.std.specs.Prelude.{All}
use Rattle.rma_clock.specs.declared.rows.Place.{Place}
use Rattle.rma_clock.specs.inside.Rows.{IsPlaced, IsStored, row_of}
use Rattle.rma_clock.proofs.LiveLemmas.{on_err}
use Rattle.rma_clock.proofs.StoredLemmas.{placed_grown, placed_more, rows_more, rows_same}
use Rattle.rma_clock.proofs.rows.Rows.add.Goals as goal

pub invariant_of-self : goal.invariant_of-self
invariant_of-self c =
    let in_ = c.self.inside in
    placed_grown in_.numbers.items in_.lower.items in_.upper.items _ _ _ c.in_err-start.ensures.numbers c.in_err-start.ensures.lower c.in_err-start.ensures.upper in_.places.items c.self.invariant

pub returns-in_err-start-clause-err : goal.returns-in_err-start-clause-err
returns-in_err-start-clause-err c =
    let in_ = c.self.inside in
    on_err c.from_residual.result
    (rows_same in_.numbers.items in_.lower.items in_.upper.items _ _ _ c.in_err-start.ensures.numbers c.in_err-start.ensures.lower c.in_err-start.ensures.upper in_.places.items c.self.invariant ∙ c.self.view_is)

pub invariant_of-self-in_err-push : goal.invariant_of-self-in_err-push
invariant_of-self-in_err-push c =
    let in_ = c.self.inside in
    let Q : List Place → Type 0 = λ places. All (IsPlaced c.store.new.numbers.items c.store.new.lower.items c.store.new.upper.items) places in
    subst Q (sym c.in_err-push.ensures.items)
    (placed_grown in_.numbers.items in_.lower.items in_.upper.items _ _ _ c.in_ok-start.ensures.numbers c.in_ok-start.ensures.lower c.in_ok-start.ensures.upper in_.places.items c.self.invariant)

pub returns-in_err-push-clause-err : goal.returns-in_err-push-clause-err
returns-in_err-push-clause-err c =
    let in_ = c.self.inside in
    on_err c.from_residual-in_err-push.result
    (ap (map (row_of c.store.new.numbers.items c.store.new.lower.items c.store.new.upper.items)) c.in_err-push.ensures.items
    ∙ rows_same in_.numbers.items in_.lower.items in_.upper.items _ _ _ c.in_ok-start.ensures.numbers c.in_ok-start.ensures.lower c.in_ok-start.ensures.upper in_.places.items c.self.invariant
    ∙ c.self.view_is)

-- the row is stored
stored_here : (c : goal.In_ok-push) → IsStored c.store.new.numbers.items c.store.new.lower.items c.store.new.upper.items c.in_ok-start.start c.args.row.now
stored_here c = subst (IsStored c.store.new.numbers.items c.store.new.lower.items c.store.new.upper.items c.in_ok-start.start) c.as_slice-numbers.ensures c.in_ok-start.ensures.stored

pub invariant_of-self-2 : goal.invariant_of-self-2
invariant_of-self-2 c =
    let in_ = c.self.inside in
    let Q : List Place → Type 0 = λ places. All (IsPlaced c.store.new.numbers.items c.store.new.lower.items c.store.new.upper.items) places in
    subst Q (sym c.in_ok-push.ensures.items)
    (placed_more in_.numbers.items in_.lower.items in_.upper.items _ _ _ c.in_ok-start.ensures.numbers c.in_ok-start.ensures.lower c.in_ok-start.ensures.upper in_.places.items c.self.invariant _ c.args.row.now (ap length c.as_slice-numbers.ensures) (stored_here c))

pub returns-clause-ok : goal.returns-clause-ok
returns-clause-ok c =
    let in_ = c.self.inside in
    ap (map (row_of c.store.new.numbers.items c.store.new.lower.items c.store.new.upper.items)) c.in_ok-push.ensures.items
    ∙ rows_more in_.numbers.items in_.lower.items in_.upper.items _ _ _ c.in_ok-start.ensures.numbers c.in_ok-start.ensures.lower c.in_ok-start.ensures.upper in_.places.items c.self.invariant _ c.args.row.now (ap length c.as_slice-numbers.ensures) (stored_here c)
    ∙ ap (λ (rows : List (List ℕ)). rows ++ c.args.row.now ∷ []) c.self.view_is
