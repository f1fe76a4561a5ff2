use Rattle.std.proofs.Common.{◌≡◌, ℕ, ◌<◌, List, [], Some, None, length, get_or, refl, sym, ap, subst, ◌∙◌, arith}
use Rattle.std.specs.List.Sorted.{IsNonDecreasingBy}
use Rattle.std.proofs.lemmas.Bool.{leb-true, le-leb, ltb-true, lt-ltb, false≢true}
use Rattle.std.proofs.lemmas.List.{get_or_read}
use Rattle.rma_base.specs.declared.rank.Rank.{Rank}
use Rattle.rma_link.proofs.OrderLemmas.{later_position}
use Rattle.rma_clock.proofs.ReachedLemmas.{in_reach}
use Rattle.rma_clock.specs.declared.step.Step.{Step}
use Rattle.rma_clock.specs.inside.Before.{Covers}
use Rattle.rma_clock.specs.inside.Table.{IsLastStep, steps_of, row_at}
use Rattle.rma_clock.proofs.BeforeLemmas.{positions_in_order, before_step, before_none, before_point}
use Rattle.rma_clock.proofs.table.Table.leq.Goals as goal

pub returns-then-p-q : goal.returns-then-p-q
returns-then-p-q c points links clocks p_is q_is =
    let p = c.args.p in
    let q = c.args.q in
    let R : ℕ → Rank = λ k. record { 0 = k } in
    let ranks : p.rank ≡ q.rank = ap R c.if-p-q.true in
    (λ test. later_position links p q ranks (leb-true p.pos q.pos test), λ le. le-leb p.pos q.pos (positions_in_order links clocks.possible p q ranks le))

pub last_step-requires : goal.last_step-requires
last_step-requires c =
    let steps = c.args.self.now.steps.items in
    let r = c.args.q.rank.0 in
    let known = c.requires.2 in
    let size = known.rows.size in
    let there : r < length steps = (let in_points = in_reach c.requires.0 c.args.q c.requires.4 in omega arith) in
    let is : c.as_slice.result.now ≡ steps_of steps r = c.as_slice.ensures ∙ get_or_read steps r c.index-steps.result.now there c.index-steps.ensures [] in
    subst (λ xs. IsNonDecreasingBy (λ (s : Step). s.pos) xs) (sym is) (known.rows.sorted r)

pub number-requires : goal.number-requires
number-requires c =
    let steps = c.args.self.now.steps.items in
    let r = c.args.q.rank.0 in
    let known = c.requires.2 in
    let size = known.rows.size in
    let there : r < length steps = (let in_points = in_reach c.requires.0 c.args.q c.requires.4 in omega arith) in
    let is : c.as_slice.result.now ≡ steps_of steps r = c.as_slice.ensures ∙ get_or_read steps r c.index-steps.result.now there c.index-steps.ensures [] in
    let P : List Step → Type 0 = λ xs. IsLastStep xs c.args.q.pos (Some c.in-Some.step) in
    let last = subst P is c.in-Some.ensures in
    let lt : c.in-Some.step.row < length c.args.self.now.rows = (known.rows.right r c.in-Some.step last.0).0 in
    let width : length (row_at c.args.self.now.rows c.in-Some.step.row) ≡ length c.requires.0 = known.rows.widths c.in-Some.step.row [] lt in
    let in_points = in_reach c.requires.0 c.args.p c.requires.3 in
    record { row = lt; rank = omega arith }

pub returns-in-Some : goal.returns-in-Some
returns-in-Some c points links clocks p_is q_is =
    let steps = c.args.self.now.steps.items in
    let r = c.args.q.rank.0 in
    let known = c.requires.2 in
    let size = known.rows.size in
    let there : r < length steps = (let in_points = in_reach c.requires.0 c.args.q c.requires.4 in omega arith) in
    let is : c.as_slice.result.now ≡ steps_of steps r = c.as_slice.ensures ∙ get_or_read steps r c.index-steps.result.now there c.index-steps.ensures [] in
    let P : List Step → Type 0 = λ xs. IsLastStep xs c.args.q.pos (Some c.in-Some.step) in
    let last = subst P is c.in-Some.ensures in
    let lt : c.in-Some.step.row < length c.args.self.now.rows = (known.rows.right r c.in-Some.step last.0).0 in
    let p = c.args.p in
    let q = c.args.q in
    let s = c.in-Some.step in
    let right = (clocks.rows.right r s last.0).1 in
    let number : c.number.result ≡ get_or (row_at c.args.self.now.rows s.row) p.rank.0 0 = c.number.ensures in
    let caught = clocks.caught q q_is in (
      λ test. (let lt_number = ltb-true p.pos c.number.result test in before_point links steps r q.pos caught s last.1 p (right.only p (omega arith))),
      λ le. (let covered : Covers (row_at c.args.self.now.rows s.row) p = right.all p (before_step links steps r q.pos caught s last le refl (omega arith) last.1 c.if-p-q.false) in lt-ltb p.pos c.number.result (omega arith)),
    )

pub returns-in-None : goal.returns-in-None
returns-in-None c points links clocks p_is q_is =
    let steps = c.args.self.now.steps.items in
    let r = c.args.q.rank.0 in
    let known = c.requires.2 in
    let size = known.rows.size in
    let there : r < length steps = (let in_points = in_reach c.requires.0 c.args.q c.requires.4 in omega arith) in
    let is : c.as_slice.result.now ≡ steps_of steps r = c.as_slice.ensures ∙ get_or_read steps r c.index-steps.result.now there c.index-steps.ensures [] in
    let P : List Step → Type 0 = λ xs. IsLastStep xs c.args.q.pos None in
    let last = subst P is c.in-None.ensures in
    (λ test. absurd (false≢true test), λ le. absurd (before_none links steps r c.args.q.pos (clocks.caught c.args.q q_is) last le refl (omega arith) c.if-p-q.false))
