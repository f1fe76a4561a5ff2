use Rattle.std.proofs.Common.{⊎_elim}
use Rattle.rma_rules.specs.declared.rule.Rule.TheVariants.{Overlap, OtherWindow}
use Rattle.rma_rules.specs.Conflict.{ConflictAtTarget}
use Rattle.rma_rules.proofs.ConflictLemmas.{AreOnOne, beside_at, exactly, none_of, overlap_at, tell_at, unique_at}
use Rattle.rma_rules.proofs.target.conflict_at_target.Goals as goal

pub returns-then-not-is_one_update : goal.returns-then-not-is_one_update
returns-then-not-is_one_update c =
    let windows = c.args.windows.now in
    let a = c.args.a.now in
    let b = c.args.b.now in
    none_of (ConflictAtTarget windows a b)
    (λ other row.
    let never = c.if-not-is_one_update.true in
    ⊎_elim (λ overlap. let yes = c.is_one_update.ensures.1 overlap.2 in cc)
    (⊎_elim (λ beside. let yes = c.is_one_update.ensures.1 beside.2 in cc)
    (λ both. let yes = c.are_accumulates_on_one.ensures.1 (both.1.0, both.1.1, both.1.3) in let no = c.if-are_accumulates_on_one.false in cc)) (tell_at windows a b other row))

pub returns-then-share_byte : goal.returns-then-share_byte
returns-then-share_byte c =
    let windows = c.args.windows.now in
    let a = c.args.a.now in
    let b = c.args.b.now in
    let apart : AreOnOne a b → ⊥ = λ both. let yes = c.are_accumulates_on_one.ensures.1 both in let no = c.if-are_accumulates_on_one.false in cc in
    let holds = overlap_at windows a b c.requires.a c.requires.b apart (c.is_one_update.ensures.0 c.if-not-is_one_update.false) (c.share_byte.ensures.0 c.if-share_byte.true) in
    exactly (ConflictAtTarget windows a b) Overlap holds (λ other row. unique_at windows a b other Overlap row holds)

pub returns-then-are_updates_beside : goal.returns-then-are_updates_beside
returns-then-are_updates_beside c =
    let windows = c.args.windows.now in
    let a = c.args.a.now in
    let b = c.args.b.now in
    let beside = c.are_updates_beside.ensures.0 c.if-are_updates_beside.true in
    let holds = beside_at windows a b (beside.0, beside.1, (λ share. let yes = c.share_byte.ensures.1 share in let no = c.if-share_byte.false in cc), beside.2) in
    exactly (ConflictAtTarget windows a b) OtherWindow holds (λ other row. unique_at windows a b other OtherWindow row holds)

pub returns-else-are_updates_beside : goal.returns-else-are_updates_beside
returns-else-are_updates_beside c =
    let windows = c.args.windows.now in
    let a = c.args.a.now in
    let b = c.args.b.now in
    none_of (ConflictAtTarget windows a b)
    (λ other row.
    ⊎_elim (λ overlap. let yes = c.share_byte.ensures.1 overlap.3 in let no = c.if-share_byte.false in cc)
    (⊎_elim (λ beside. let yes = c.are_updates_beside.ensures.1 (beside.4.0, beside.4.1, beside.4.3) in let no = c.if-are_updates_beside.false in cc)
    (λ both. let yes = c.are_accumulates_on_one.ensures.1 (both.1.0, both.1.1, both.1.3) in let no = c.if-are_accumulates_on_one.false in cc)) (tell_at windows a b other row))
