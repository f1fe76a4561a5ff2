use Rattle.std.proofs.Common.{◌≡◌, ◌≢◌, ℕ, suc, ◌-◌, ◌<◌, ◌+◌, List, length, get_or, refl, ap, sym, ◌∙◌, arith, rules}
use Rattle.rma_type.proofs.Words.{get_or_default, Basic, the_type, SigRun}
use denote.Enum.Bare.{same_true, same_false}
use Rattle.rma_type.proofs.RunLemmas.{spread_merged, AreRuns_merged, AreRuns_push}
use Rattle.rma_type.proofs.signature.push.Goals as goal
use Rattle.rma_type.proofs.signature.push.Goals.{else-n-gt0-via-then-n-gt0+else-eq, else-n-gt0-via-else-n-gt0}

-- an element that was read twice
same_reading : (items : List SigRun) (i : ℕ) (a b : SigRun) → i < length items → a ≡ get_or items i a → b ≡ get_or items i b → a ≡ b
same_reading items i a b lt p q = p ∙ get_or_default items i a b lt ∙ sym q

number : (c : goal.After-runs-1) → c.len-n.result ≡ length c.args.runs.now.items
number c = c.len-n.ensures ∙ c.args.runs.now.ok.0

same_basic : (c : goal.After-runs-1) → c.index_mut.result.now.basic ≡ c.args.run.basic
same_basic c =
    let items = c.args.runs.now.items in
    let i = c.len-n.result - 1 in
    let within : i < length items = omega (arith, number c, c.if-n-gt0.true) in
    ap (λ (r : SigRun). r.basic) (same_reading items i c.index_mut.result.now c.index.result.now within c.index_mut.ensures.value c.index.ensures)
    ∙ same_true the_type (search rules) c.index.result.now.basic c.args.run.basic (sym c.eq.ensures ∙ c.if-eq.true)

pub returns-then-eq-clause-same : goal.returns-then-eq-clause-same
returns-then-eq-clause-same c =
    let items = c.args.runs.now.items in
    let i = c.len-n.result - 1 in
    let end : suc i ≡ length items = omega (arith, number c, c.if-n-gt0.true) in
    spread_merged items i c.index_mut.result.now c.args.run _ end c.index_mut.ensures.value (same_basic c) refl refl

pub returns-then-eq-clause-apart : goal.returns-then-eq-clause-apart
returns-then-eq-clause-apart c =
    let items = c.args.runs.now.items in
    let i = c.len-n.result - 1 in
    let within : i < length items = omega (arith, number c, c.if-n-gt0.true) in
    let some : 0 < c.index_mut.result.now.count + c.args.run.count = omega (arith, c.requires.some) in
    AreRuns_merged items i c.index_mut.result.now _ within c.index_mut.ensures.value refl some c.requires.apart

-- the last run has another basic datatype
last_differs : (items : List SigRun) (n : ℕ) (last : SigRun) (basic : Basic) → n ≡ length items → 0 < n → last ≡ get_or items (n - 1) last → last.basic ≢ basic →
    (i : ℕ) (d : SigRun) → suc i ≡ length items → (get_or items i d).basic ≢ basic
last_differs items n last basic number some is other i d end =
    let here : i ≡ n - 1 = omega arith in
    rw (here, ← (is ∙ get_or_default items (n - 1) last d (omega arith))) other

pub returns-clause-apart : goal.returns-clause-apart
returns-clause-apart c =
    let items = c.args.runs.now.items in
    let run = c.args.run in
    let number : c.len-n.result ≡ length items = c.len-n.ensures ∙ c.args.runs.now.ok.0 in
    let other : (i : ℕ) (d : SigRun) → suc i ≡ length items → (get_or items i d).basic ≢ run.basic =
    elim c.else-n-gt0.branch [
      | else-n-gt0-via-then-n-gt0+else-eq w ↦
          last_differs items c.len-n.result w.index.result.now run.basic number w.if-n-gt0.true w.index.ensures
          (same_false the_type w.index.result.now.basic run.basic (sym w.eq.ensures ∙ w.if-eq.false))
      | else-n-gt0-via-else-n-gt0 w ↦ λ i d end. absurd (omega (arith, number, w.if-n-gt0.false))
    ] in
    rw c.in_ok-push.ensures.items (AreRuns_push items run c.requires.some other c.requires.apart)
