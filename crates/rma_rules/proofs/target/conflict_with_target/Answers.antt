use Rattle.std.proofs.Common.{inl, ⊎_elim}
use Rattle.rma_rules.specs.declared.rule.Rule.TheVariants.{Overlap, StoreInWindow}
use Rattle.rma_rules.specs.Conflict.{ConflictsWithTarget}
use Rattle.rma_rules.proofs.ConflictLemmas.{beside_with, exactly, none_of, overlap_with, tell_with, unique_with}
use Rattle.rma_rules.proofs.target.conflict_with_target.Goals as goal

pub returns-then-not-may_not_share : goal.returns-then-not-may_not_share
returns-then-not-may_not_share c =
    let windows = c.args.windows.now in
    let a = c.args.own.now in
    let b = c.args.target.now in
    none_of (ConflictsWithTarget windows a b)
    (λ other row.
    let never = c.if-not-may_not_share.true in
    ⊎_elim (λ overlap. let yes = c.may_not_share.ensures.1 overlap.1 in cc) (λ beside. let yes = c.may_not_share.ensures.1 (inl beside.1) in cc) (tell_with windows a b other row))

pub returns-then-share_byte : goal.returns-then-share_byte
returns-then-share_byte c =
    let windows = c.args.windows.now in
    let a = c.args.own.now in
    let b = c.args.target.now in
    let holds =
    overlap_with windows a b c.requires.own c.requires.target (c.may_not_share.ensures.0 c.if-not-may_not_share.false) (c.share_byte.ensures.0 c.if-share_byte.true) in
    exactly (ConflictsWithTarget windows a b) Overlap holds (λ other row. unique_with windows a b other Overlap row holds)

pub returns-then-is_store_beside : goal.returns-then-is_store_beside
returns-then-is_store_beside c =
    let windows = c.args.windows.now in
    let a = c.args.own.now in
    let b = c.args.target.now in
    let beside = c.is_store_beside.ensures.0 c.if-is_store_beside.true in
    let holds =
    beside_with windows a b beside.0 beside.1 beside.2 (λ share. let yes = c.share_byte.ensures.1 share in let no = c.if-share_byte.false in cc) beside.3 in
    exactly (ConflictsWithTarget windows a b) StoreInWindow holds (λ other row. unique_with windows a b other StoreInWindow row holds)

pub returns-else-is_store_beside : goal.returns-else-is_store_beside
returns-else-is_store_beside c =
    let windows = c.args.windows.now in
    let a = c.args.own.now in
    let b = c.args.target.now in
    none_of (ConflictsWithTarget windows a b)
    (λ other row.
    ⊎_elim (λ overlap. let yes = c.share_byte.ensures.1 overlap.2 in let no = c.if-share_byte.false in cc)
    (λ beside. let yes = c.is_store_beside.ensures.1 (beside.1, beside.2, beside.3, beside.5) in let no = c.if-is_store_beside.false in cc) (tell_with windows a b other row))
