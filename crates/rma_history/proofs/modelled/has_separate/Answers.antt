use Rattle.std.proofs.Common.{◌≡◌, ◌<◌, ℕ, length, subst, arith, ⊎_elim}
use Rattle.std.proofs.lemmas.Bool.{cases_lt}
use Rattle.std.proofs.lemmas.Option.{slice_get_within}
use Rattle.rma_rules.specs.Share.{IsSeparate}
use Rattle.rma_history.proofs.modelled.has_separate.Goals as goal

pub windows-init : goal.windows-init
windows-init c = λ id less separate. absurd (omega (arith, less))

pub windows-preserved : goal.windows-preserved
windows-preserved c = λ id less.
    ⊎_elim
    (λ earlier. c.windows.invariant id earlier)
    (λ last separate.
    let same : id.0 ≡ c.windows.number = omega (arith, less, last) in
    let told = c.is_separate.ensures.1 (subst (λ (n : ℕ). IsSeparate c.args.windows.now (record { 0 = n })) same separate) in
    let untold = c.if-is_separate.false in
    cc)
    (cases_lt id.0 c.windows.number)

pub returns : goal.returns
returns c = λ id separate.
    let within : id.0 < length c.args.windows.now = slice_get_within c.args.windows.now id.0 separate.0 separate.1 in
    absurd (c.windows.invariant id (omega (arith, within, c.in-Ok.ensures, c.len.ensures, c.windows-test.false)) separate)
